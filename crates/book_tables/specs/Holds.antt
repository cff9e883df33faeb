-- The office's tables in a database, and the office that a database stands for. Other tables do not
-- count.
use Rattle.std.specs.Prelude.{◌≡◌, ◌≤◌, ℕ, Bool, true, false, not, List, map, drop}
use Rattle.std.specs.List.{AllByRecursion, list_all}
use Rattle.sqlite.specs.Effect.{Database}
use Rattle.sqlite.specs.Order.{Row}
use Rattle.sqlite_catalog.specs.Change.{is_used}
use Rattle.sqlite_schema.specs.declared.schema.Schema.{Schema}
use Rattle.one_table.specs.Numbered.{IsInOrder}
use Rattle.one_table.specs.Referring.{is_harmless, is_left_alone, is_unreferred}
use Rattle.one_table.specs.Standing.{Stands, tree_in}
use Rattle.office_rules.specs.Office.{IsOffice, Office, empty_office}
use Rattle.book_tables.specs.Kept.{Kept, kept, later, kept_names, upto}
use Rattle.book_tables.specs.row.Rows.{Rows, present_format}
use Rattle.book_tables.specs.Stands.{AreMembersOf, IsOfFormat}

-- the names of the tables of all formats
abbrev pub table_names : List (List ℕ)
table_names = kept_names kept

-- the table is there as its text defines it and with no index but its own, and no reference to it
-- takes an action
abbrev pub IsKept : Schema → Kept → Type 0
IsKept s k = Stands s k.table × (is_left_alone s (tree_in s k.table.name) ≡ true)

-- The tables of a format are there, and the names of later ones are free. No other table refers to
-- one of the names of any format, and no reference to one takes an action.
pub record HasOfficeOf (n : ℕ) (s : Schema) : Type 0 where
  pub tables : AllByRecursion (IsKept s) (upto n)
  pub free : list_all (λ name. not (is_used s name)) (kept_names (later n)) ≡ true
  pub unreferred : is_unreferred table_names s ≡ true
  pub harmless : is_harmless table_names s ≡ true

-- the tables of the present format are there
abbrev pub HasOffice : Schema → Type 0
HasOffice s = HasOfficeOf present_format s

-- none of the names is taken, and no table refers to one of them
abbrev pub IsUntaken : Schema → Type 0
IsUntaken s = HasOfficeOf 0 s

-- the rows of the table of a name, as they are stored: the number of a row stands in front of its
-- columns
abbrev pub rows_in : Database → List ℕ → List Row
rows_in db name = db.trees (tree_in db.schema name)

-- The rows are these, or these after their hidden numbers. SQLite keeps rows in the order of their
-- numbers, but no clause of `sqlite` says that of a database that is found, so it is said here:
-- then a new row stands last.
abbrev pub AreStoredRows : Bool → List Row → List Row → Type 0
AreStoredRows true rows stored = rows ≡ stored
AreStoredRows false rows stored = (map (drop 1) rows ≡ stored) × IsInOrder rows

-- the table has what is stored of these rows, where `about` tells this format
abbrev pub HoldsRows : Database → ℕ → Rows → Kept → Type 0
HoldsRows db told rows k =
    AreStoredRows k.is_numbered (rows_in db k.table.name) (k.stored told rows)

-- The database has the tables of a format, with exactly these rows in them, and `about` tells a
-- format: this one, or an older one while the tables are brought up to this one.
pub record HoldsOf (n told : ℕ) (db : Database) (rows : Rows) : Type 0 where
  pub has : HasOfficeOf n db.schema
  pub are : AllByRecursion (HoldsRows db told rows) (upto n)
  pub of_format : IsOfFormat n rows

abbrev pub Holds : Database → Rows → Type 0
Holds db rows = HoldsOf present_format present_format db rows

-- the database holds the members of the office, in the tables of a format
abbrev pub HoldsMembersOf : ℕ → Database → Office → Type 0
HoldsMembersOf n db o = (rows : Rows) × HoldsOf n n db rows × AreMembersOf rows o

abbrev pub HoldsMembers : Database → Office → Type 0
HoldsMembers db o = HoldsMembersOf present_format db o

-- the database stands for the office: it holds its members in the tables of a format, and where
-- that has none the office is empty
pub record StandsFor (db : Database) (o : Office) : Type 0 where
  pub office : IsOffice o
  pub format : ℕ
  pub known : format ≤ present_format
  pub held : HoldsMembersOf format db o
  pub empty : format ≡ 0 → o ≡ empty_office
