-- The filling of tables that a format lacked, from the meters and the sales of the office, whatever
-- format `about` tells.
use Rattle.std.specs.Prelude.{◌≡◌, ◌≢◌, ◌↔◌, ℕ, zero, suc, List, ◌∷◌, [], ◌++◌, codes, map, AllPairs}
use Rattle.std.specs.Prelude.{Contains, IsTrue, OnOk, Result, Some}
use Rattle.sqlite.specs.Effect.{IsDatabase}
use Rattle.sqlite.specs.State.{HasCleanDisk, KeepsCommit, State, Survives}
use Rattle.sts_fields.specs.declared.base.Base.{Base}
use Rattle.office_rules.specs.Office.{IsOffice, Office}
use Rattle.office_rules.specs.declared.office.meter.Meter.{Meter}
use Rattle.office_rules.specs.declared.office.sale.Sale.{Sale}
use Rattle.one_table.specs.InTransaction.{IsUnderWay, StaysInside}
use Rattle.book_tables.specs.Holds.{HasOffice, HoldsOf}
use Rattle.book_tables.specs.reading.Reading.{meter_row}
use Rattle.book_tables.specs.row.Rows.{Rows, present_format}
use Rattle.book_tables.specs.Stands.{AreTotalsOf}
use Rattle.book_tables.specs.writing.Edited.{no_rows}
use Rattle.book_tables.specs.writing.Failing.{EndSomehow}
use Rattle.book_tables.specs.writing.Writes.{Write, new_base, new_last_id, new_month, new_totals}
use Rattle.book_tables.specs.writing.Writing.{WritesOnly, totals_names, with_totals_of}
use Rattle.book_tables.specs.declared.error.TableError.{TableError}
use Rattle.book_tables.specs.declared.reading.pages.MeterRow.{MeterRow}

-- these are the meters of the office, each once, and its sales
pub record AreHanded (o : Office) (given : List MeterRow) (sold : List Sale) : Type 0 where
  pub meters : (number : List ℕ) (m : Meter)
      → (o.meters number ≡ Some m) ↔ Contains given (meter_row (number, m))
  pub once : AllPairs (λ a b. a.number ≢ b.number) given
  pub sales : sold ≡ o.sales

-- an open connection, in a transaction that is under way, has the tables of the present format in a
-- sound database
pub record IsReady (s : State) : Type 0 where
  pub is_open : IsTrue s.is_open
  pub under_way : IsUnderWay s
  pub sound : IsDatabase s.now
  pub has : HasOffice s.now.schema

-- What several writes, or none, make of the tables of a connection that is ready, and how they
-- end: of all of them this is known. Nothing is committed.
pub record Fills (Are : List Write → Type 0) (Makes : State → State → Type 0) (old new : State)
    (result : Result (Unit {0}) TableError) : Type 0 where
  pub made : HasCleanDisk new → IsReady old → OnOk result (Makes old new)
  pub ends : HasCleanDisk new → IsReady old → EndSomehow Are old new result
  pub inside : HasCleanDisk new → IsUnderWay old → IsTrue old.is_open
      → OnOk result (StaysInside old new)
  pub kept : HasCleanDisk new → IsUnderWay old → IsTrue old.is_open → KeepsCommit old new
  pub survives : Survives old new (λ _. ⊥)

-- each of these rows is put in by one write, in their order
abbrev pub ArePut : {R : Type 0} → (R → Write → Type 0) → List R → List Write → Type 0
ArePut Puts [] [] = Unit {0}
ArePut Puts (r ∷ rows) (w ∷ writes) = Puts r w × ArePut Puts rows writes
ArePut Puts rows writes = ⊥

-- the writes that put totals in, row by row
abbrev pub writes_of_totals : Rows → List Write
writes_of_totals totals =
    map new_last_id totals.last_ids
    ++ (map new_month totals.month_tenths ++ map new_totals totals.shift_totals)

-- The writes put in the totals of these sales, a row for each key, where the sales are an office's:
-- others might add up to more than a column can hold.
abbrev pub AreTotalsWrites : List Sale → List Write → Type 0
AreTotalsWrites sales writes =
    (o : Office) → IsOffice o → sales ≡ o.sales
    → (totals : Rows) × AreTotalsOf sales totals × (writes ≡ writes_of_totals totals)

-- the same of the totals that a format lacks: only the first one does
abbrev pub AreTotalsFrom : ℕ → List Sale → List Write → Type 0
AreTotalsFrom zero sales writes = writes ≡ []
AreTotalsFrom (suc zero) sales writes = AreTotalsWrites sales writes
AreTotalsFrom (suc (suc n)) sales writes = writes ≡ []

-- the write that puts in the present base of a meter, and those of the meters of a format that
-- lacks bases
abbrev pub base_write : MeterRow → Write
base_write m = new_base m.number m.meter.base

abbrev pub bases_from : ℕ → List MeterRow → List Write
bases_from zero meters = []
bases_from (suc zero) meters = map base_write meters
bases_from (suc (suc zero)) meters = map base_write meters
bases_from (suc (suc (suc n))) meters = []

-- the writes fill the tables that a format lacked, and there are no others
abbrev pub AreFilling : ℕ → List MeterRow → List Sale → List Write → Type 0
AreFilling from meters sales writes =
    (totals : List Write) × AreTotalsFrom from sales totals
    × (writes ≡ totals ++ bases_from from meters)

-- The rows of a table of totals are these, where it had none, and these and those that are to
-- follow are such as is asked.
pub record PutsFirst {R : Type 0} (set : List R → Rows → Rows) (Are : List R → Type 0)
    (list : List R) (old new : State) : Type 0 where
  pub only : WritesOnly totals_names old new
  pub rows : (told : ℕ) (rows : Rows) (after : List R) → Are (list ++ after)
      → HoldsOf present_format told old.now (set [] rows)
      → HoldsOf present_format told new.now (set list rows)

-- the totals are those of these sales, where there were none and the sales are an office's
pub record FillsTotals (sales : List Sale) (old new : State) : Type 0 where
  pub only : WritesOnly totals_names old new
  pub rows : (told : ℕ) (rows : Rows) (o : Office) → IsOffice o → sales ≡ o.sales
      → HoldsOf present_format told old.now (with_totals_of no_rows rows)
      → (totals : Rows) × HoldsOf present_format told new.now (with_totals_of totals rows)
      × AreTotalsOf sales totals

-- a meter's number and its present base
abbrev pub base_row_of : MeterRow → (List ℕ × Base)
base_row_of m = (m.number, m.meter.base)

-- the present base of each of these meters stands after those that were there
pub record FillsBases (meters : List MeterRow) (old new : State) : Type 0 where
  pub only : WritesOnly (codes "meter_bases" ∷ []) old new
  pub rows : (told : ℕ) (rows : Rows) → HoldsOf present_format told old.now rows
      → HoldsOf present_format told new.now
      (record rows { bases = rows.bases ++ map base_row_of meters })
