-- The tables of an office that are made in a database, beside whatever other tables it has, and the
-- tables of an older format that are brought up to the present one.
use Rattle.std.specs.Prelude.{◌≡◌, ◌⊎◌, ℕ, zero, suc, true, List, [], ◌∷◌, ◌++◌, codes, fold}
use Rattle.std.specs.Prelude.{IsTrue}
use Rattle.std.specs.List.{AllByRecursion}
use Rattle.sqlite.specs.Effect.{Database, IsDatabase}
use Rattle.sqlite.specs.State.{Shows, State}
use Rattle.sqlite.specs.Table.{Table}
use Rattle.sqlite.specs.declared.error.Error.{Error}
use Rattle.sqlite_trees.specs.declared.store.Store.{Ghosts}
use Rattle.one_table.specs.Making.{FailsToMake, made}
use Rattle.one_table.specs.Place.{Has}
use Rattle.office_rules.specs.Office.{IsOffice, Office, empty_office}
use Rattle.office_rules.specs.declared.office.sale.Sale.{Sale}
use Rattle.book_tables.specs.writing.Edited.{no_rows}
use Rattle.book_tables.specs.format.Filling.{AreFilling, AreHanded}
use Rattle.book_tables.specs.format.Format.{HasFormat, TellsFormat}
use Rattle.book_tables.specs.Holds.{HasOffice, HasOfficeOf, Holds, HoldsMembers, HoldsOf, StandsFor}
use Rattle.book_tables.specs.Holds.{rows_in}
use Rattle.book_tables.specs.Kept.{kept_names, kept_tables, kept_texts, later}
use Rattle.book_tables.specs.row.Rows.{Rows, about_rows, present_format}
use Rattle.book_tables.specs.Stands.{AreMembersOf, IsOfFormat}
use Rattle.book_tables.specs.writing.Failing.{FailsSomehow}
use Rattle.book_tables.specs.writing.Writes.{Write, format_write}
use Rattle.book_tables.specs.writing.Writing.{IsOfNone, WritesOnly}
use Rattle.book_tables.specs.declared.error.TableError.{TableError}
use Rattle.book_tables.specs.declared.error.TableError.TheVariants as fails
use Rattle.book_tables.specs.declared.reading.pages.MeterRow.{MeterRow}

-- while the connection is open, its database is sound and has the tables of a format
abbrev pub IsSoundOfFormat : ℕ → State → Type 0
IsSoundOfFormat n s = IsTrue s.is_open → IsDatabase s.now × HasOfficeOf n s.now.schema

-- the rows of the tables of a format, and none of those that it lacks
abbrev pub rows_upto : ℕ → Rows → Rows
rows_upto zero rows = no_rows
rows_upto (suc zero) rows =
    record rows {
      last_ids = [];
      month_tenths = [];
      shift_totals = [];
      bases = [];
      dated_steps = [];
    }
rows_upto (suc (suc zero)) rows = record rows { bases = []; dated_steps = [] }
rows_upto (suc (suc (suc zero))) rows = record rows { dated_steps = [] }
rows_upto (suc (suc (suc (suc n)))) rows = rows

-- the table that tells the format, where there is one: alone among those that were there it gets
-- another row
abbrev pub told_names : ℕ → List (List ℕ)
told_names zero = []
told_names (suc n) = codes "about" ∷ []

-- what was there is left: nothing but the tables that a format lacks is added to the schema, each
-- table has its place, and each but `about` has its rows, whatever they are
pub record LeavesBeside (from : ℕ) (old new : Database) : Type 0 where
  pub schema : new.schema ≡ fold made old.schema (kept_tables (later from))
  pub places : (at : ℕ) (t : Table) → Has old.schema at t
      → Has new.schema at t
  pub others : AllByRecursion (λ u. IsOfNone old.schema (told_names from) u.tree
      → new.trees u.tree ≡ old.trees u.tree) old.schema.tables
  pub sound : IsDatabase new

-- the tables that a format lacks are made, with nothing in them
pub record MakesMissing (from : ℕ) (old new : Database) : Type 0 where
  pub had : HasOfficeOf from old.schema
  pub has : HasOffice new.schema
  pub rows : (rows : Rows) → HoldsOf from from old rows
      → HoldsOf present_format from new (rows_upto from rows)
  pub tells : TellsFormat from old → rows_in new (codes "about") ≡ about_rows from
  pub beside : LeavesBeside from old new

-- `about` tells the present format, where it told another or none
pub record TellsPresent (told : ℕ) (old new : State) : Type 0 where
  pub only : WritesOnly (codes "about" ∷ []) old new
  pub rows : (rows : Rows) → HoldsOf present_format told old.now rows → Holds new.now rows
  pub tells : rows_in old.now (codes "about") ≡ about_rows told → HasFormat new.now present_format

-- The tables that a format lacked have the rows of its office, and no others do: the totals of its
-- sales, and the present base of each of its meters.
pub record FillsMissing (from : ℕ) (meters : List MeterRow) (sales : List Sale)
    (old new : State) : Type 0 where
  pub only : WritesOnly (kept_names (later from)) old new
  pub tells : rows_in new.now (codes "about") ≡ rows_in old.now (codes "about")
  pub members : (o : Office) (rows : Rows) → IsOffice o → (from ≡ 0 → o ≡ empty_office)
      → AreHanded o meters sales → AreMembersOf rows o → IsOfFormat from rows
      → HoldsOf present_format from old.now (rows_upto from rows)
      → (full : Rows) × HoldsOf present_format from new.now full × AreMembersOf full o

-- The database has the present tables in place of those of a format, or of none. Whatever the rows
-- are, `about` tells the present format in place of that of the tables.
pub record BringsTables (from : ℕ) (old new : Database) : Type 0 where
  pub had : HasOfficeOf from old.schema
  pub has : HasOffice new.schema
  pub tells : TellsFormat from old → HasFormat new present_format
  pub beside : LeavesBeside from old new

-- They hold the office that the database stood for: the empty one, where there was none.
pub record BringsOffice (from : ℕ) (old new : Database) : Type 0 where
  pub tables : BringsTables from old new
  pub members : (o : Office) → StandsFor old o → HoldsMembers new o

-- these are the meters and the sales of the office that the database stands for
abbrev pub HandsOver : Database → List MeterRow → List Sale → Type 0
HandsOver db meters sales = (o : Office) → StandsFor db o → AreHanded o meters sales

-- The same inside a transaction: the connection is in it, and nothing is committed.
pub record BringsInside (from : ℕ) (old new : State) : Type 0 where
  pub inside : Shows old new new.now old.committed true
  pub brings : BringsOffice from old.now new.now

-- the writes by which tables are brought up: they fill what was lacking, by these meters and sales,
-- and then one tells the format
abbrev pub AreBringing : ℕ → List MeterRow → List Sale → List Write → Type 0
AreBringing from meters sales writes =
    (filling : List Write) × AreFilling from meters sales filling
    × (writes ≡ filling ++ format_write from ∷ [])

-- the tables that the format lacked were made, and one of the writes after that failed, or there
-- was no memory
pub record FailsOnceMade (from : ℕ) (meters : List MeterRow) (sales : List Sale) (old new : State)
    (e : Error) : Type 0 where
  pub made : Database
  pub makes : MakesMissing from old.now made
  pub fails : FailsSomehow (AreBringing from meters sales) (record old { now = made }) new
      (fails.Database e)

-- one of the tables that the format lacked was not made
abbrev pub FailsToMakeMissing : {S : Type 0} → Ghosts S → ℕ → State → State → TableError → Type 0
FailsToMakeMissing g from old new (fails.Database e) =
    FailsToMake g (kept_texts (later from)) old new e
FailsToMakeMissing g from old new fails.RowOfNoOffice = ⊥

-- Why the tables are not brought up, with these meters and sales: one that the format lacked was
-- not made, or a write of rows failed after that. No row is told to be no office's.
abbrev pub FailsToBring : {S : Type 0} → Ghosts S → ℕ → List MeterRow → List Sale → State → State
    → TableError → Type 0
FailsToBring g from meters sales old new (fails.Database e) =
    FailsToMake g (kept_texts (later from)) old new e ⊎ FailsOnceMade from meters sales old new e
FailsToBring g from meters sales old new fails.RowOfNoOffice = ⊥
