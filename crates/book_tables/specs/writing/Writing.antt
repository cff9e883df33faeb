-- What a write inside a transaction makes of the rows, and what it leaves as it was.
use Rattle.std.specs.Prelude.{◌≡◌, ◌≢◌, ◌<◌, ◌^◌, ◌==◌, ◌&&◌, ℕ, pos, ◌+◌, Bool, true, List, []}
use Rattle.std.specs.Prelude.{◌∷◌, ◌++◌, codes, bytes_eq, if◌then◌else◌, length, map, sum_by}
use Rattle.std.specs.Prelude.{unwrap_or, AllPairs, Option, Some, Result, Err, IfOk, OnOk, IsTrue}
use Rattle.std.specs.List.{AllByRecursion}
use Rattle.sqlite.specs.Effect.{IsDatabase}
use Rattle.sqlite.specs.Order.{Row as Values}
use Rattle.sqlite.specs.State.{HasCleanDisk, Shows, State}
use Rattle.tariff.specs.declared.step.Step.{Step}
use Rattle.sqlite_keyed.specs.Keyed.{IsKeyedBy}
use Rattle.sts_fields.specs.Base.{base_eq}
use Rattle.sts_fields.specs.Calendar.{month_at}
use Rattle.sts_fields.specs.declared.base.Base.{Base}
use Rattle.office_rules.specs.Law.Cash.{cash_of}
use Rattle.office_rules.specs.Decision.Edits.{applied}
use Rattle.office_rules.specs.Office.Lookup.{greatest_of}
use Rattle.office_rules.specs.Law.Store.{MeetsNewSale}
use Rattle.office_rules.specs.declared.decision.change.Edit.TheVariants.{AddMeter, AddSale}
use Rattle.office_rules.specs.declared.decision.change.Edit.TheVariants.{AddSteps, AddTariff}
use Rattle.office_rules.specs.declared.decision.change.Edit.TheVariants.{MoveBase, WithdrawSteps}
use Rattle.office_rules.specs.declared.office.meter.Meter.{Meter}
use Rattle.sqlite_rules.specs.Edit.{IsNoIndex}
use Rattle.sqlite_schema.specs.declared.schema.Schema.{Schema}
use Rattle.one_table.specs.InTransaction.{BeginsWith, IsUnderWay, ShowsInside}
use Rattle.one_table.specs.Standing.{tree_in}
use Rattle.office_rules.specs.Office.{AreNumbered, IsOffice, Office}
use Rattle.office_rules.specs.declared.office.sale.Sale.{Sale}
use Rattle.office_rules.specs.declared.office.shift.Shift.{Shift}
use Rattle.book_tables.specs.writing.Edited.{dated_rows, edited, row_with_base, row_with_key}
use Rattle.book_tables.specs.writing.Edited.{row_with_tariff, shift_closed, step_rows}
use Rattle.book_tables.specs.writing.Failing.{Ends, FailsToMerge, FailsToStore}
use Rattle.book_tables.specs.writing.Writes.{Write}
use Rattle.book_tables.specs.writing.Keeping.{AreInOrder, HasNone, KeepsRows, base_keys}
use Rattle.book_tables.specs.writing.Keeping.{dated_key, dated_keys, dated_step_key}
use Rattle.book_tables.specs.writing.Keeping.{last_id_keys, meter_keys, month_keys}
use Rattle.book_tables.specs.writing.Keeping.{name_keys, sale_key, shift_keys, shift_totals_key}
use Rattle.book_tables.specs.writing.Keeping.{step_keys, tariff_keys, totals_keys}
use Rattle.book_tables.specs.writing.Storing.{StoresRow, StoresRows}
use Rattle.book_tables.specs.Holds.{Holds, HoldsMembers, HoldsOf}
use Rattle.book_tables.specs.Kept.{bases_kept, dated_steps_kept, meters_kept, sales_kept}
use Rattle.book_tables.specs.Kept.{shifts_kept, steps_kept, tariffs_kept}
use Rattle.book_tables.specs.reading.Reading.{HasAllTables}
use Rattle.book_tables.specs.row.Rows.{DatedStepRow, Rows, StepRow, base_columns, dated_columns}
use Rattle.book_tables.specs.row.Rows.{meter_columns, present_format, sale_row, shift_row}
use Rattle.book_tables.specs.row.Rows.{step_columns, tariff_columns}
use Rattle.book_tables.specs.Stands.{AreMembersOf, AreRowsOf, AreTotalsOf, sales_in_month}
use Rattle.book_tables.specs.Stands.{sales_in_shift, sales_under, tenths_of, totals_of}
use Rattle.book_tables.specs.row.Values.{AreTotalsValues, IsTid, IsTotal}
use Rattle.book_tables.specs.declared.error.TableError.{TableError}
use Rattle.book_tables.specs.declared.error.TableError.TheVariants.{RowOfNoOffice}
use Rattle.book_tables.specs.declared.row.totals.SaleTotals.{SaleTotals}
use Rattle.book_tables.specs.declared.row.totals.Totals.{Totals}

-- A write of the office's tables inside a transaction: what it makes of them, where they are there,
-- and how it ends, as this text with these parameters.
pub record WritesTables (w : Write) (Makes : State → State → Type 0) (old new : State)
    (result : Result (Unit {0}) TableError) : Type 0 where
  pub made : HasCleanDisk new → HasAllTables old → OnOk result (Makes old new)
  pub ends : HasCleanDisk new → HasAllTables old → Ends FailsToStore w old new result

-- The same of a write that answers something of the rows, as the first row that it shows says
-- (`Says`), while its transaction is under way: one that has ended would let it run.
pub record MergesTables {T : Type 0} (w : Write) (Says : T → Values → Type 0)
    (Makes : T → State → State → Type 0) (old new : State) (result : Result T TableError)
    : Type 0 where
  pub made : HasCleanDisk new → IsUnderWay old → HasAllTables old
      → IfOk result (λ x. Makes x old new)
  pub ends : HasCleanDisk new → IsUnderWay old → HasAllTables old
      → Ends (FailsToMerge (λ row. (x : T) × Says x row)) w old new result
  pub told : HasCleanDisk new → IsUnderWay old → HasAllTables old
      → IfOk result (λ x. ShowsInside (BeginsWith (Says x)) w.sql w.params old new)

-- where the tables hold rows of which this is known, and `about` tells this format, none is told to
-- be no office's
abbrev pub FindsNoFalseRow : {T : Type 0} → (ℕ → Rows → Type 0) → State → State
    → Result T TableError → Type 0
FindsNoFalseRow IsKnown old new result =
    HasCleanDisk new → IsUnderWay old → (format : ℕ) (rows : Rows)
    → (IsTrue old.is_open → HoldsOf present_format format old.now rows) → IsKnown format rows
    → result ≢ Err RowOfNoOffice

-- the tree is of no table of these names
abbrev pub IsOfNone : Schema → List (List ℕ) → ℕ → Type 0
IsOfNone s names tree = AllByRecursion (λ name. tree ≢ tree_in s name) names

-- Only the tables of these names may have other rows. The schema and the rows of every other table
-- are as they were, and so is what SQL here does not understand. Nothing is committed.
pub record WritesOnly (names : List (List ℕ)) (old new : State) : Type 0 where
  pub inside : Shows old new new.now old.committed true
  pub marks : new.marks ≡ old.marks
  pub schema : new.now.schema ≡ old.now.schema
  pub tables : AllByRecursion (λ u. IsOfNone old.now.schema names u.tree
      → new.now.trees u.tree ≡ old.now.trees u.tree) old.now.schema.tables
  pub others : (tree : ℕ) → IsOfNone old.now.schema names tree → IsNoIndex old.now.schema tree
      → new.now.trees tree ≡ old.now.trees tree
  pub sound : IsDatabase new.now

-- the rows are numbered from 1, and this is the next number
pub record IsNextNumber {X : Type 0} (number : X → ℕ) (rows : List X) (next : ℕ) : Type 0 where
  pub numbered : AreNumbered number rows
  pub next_is : next ≡ length rows + 1

-- a sale with the next number stands after the others
pub record AddsSale (s : Sale) (old new : State) : Type 0 where
  pub only : WritesOnly (codes "sales" ∷ []) old new
  pub kept : KeepsRows (sale_key s.number) old.now new.now
  pub stored : StoresRow sales_kept (sale_row s) old.now new.now
  pub rows : (rows : Rows) → Holds old.now rows → IsNextNumber (λ s. s.number) rows.sales s.number
      → Holds new.now (record rows { sales = rows.sales ++ s ∷ [] })

-- a shift with the next number stands after the others
pub record AddsShift (s : Shift) (old new : State) : Type 0 where
  pub only : WritesOnly (codes "shifts" ∷ []) old new
  pub kept : KeepsRows (shift_keys s.number) old.now new.now
  pub stored : StoresRow shifts_kept (shift_row s) old.now new.now
  pub rows : (rows : Rows) → Holds old.now rows → IsNextNumber (λ s. s.number) rows.shifts s.number
      → Holds new.now (record rows { shifts = rows.shifts ++ s ∷ [] })

-- the shift of this number is closed at this moment, and stays in its place
pub record ClosesShift (number moment : ℕ) (old new : State) : Type 0 where
  pub only : WritesOnly (codes "shifts" ∷ []) old new
  pub kept : AreInOrder (codes "shifts" ∷ []) old.now
      → KeepsRows (shift_keys number) old.now new.now
  pub rows : (rows : Rows) → Holds old.now rows → AreNumbered (λ s. s.number) rows.shifts
      → Holds new.now (record rows { shifts = map (shift_closed number moment) rows.shifts })

-- a meter more, and its base, which stand after the others
pub record AddsMeter (number : List ℕ) (m : Meter) (old new : State) : Type 0 where
  pub only : WritesOnly (codes "meters" ∷ codes "meter_bases" ∷ []) old new
  pub kept : KeepsRows (meter_keys number ++ base_keys number m.base) old.now new.now
  pub stored : StoresRow meters_kept (meter_columns (number, m)) old.now new.now
  pub base : StoresRow bases_kept (base_columns (number, m.base)) old.now new.now
  pub rows : (rows : Rows) → Holds old.now rows → Holds new.now (edited (AddMeter number m) rows)

-- the row of a meter more, which stands after the others
pub record AddsMeterRow (number : List ℕ) (m : Meter) (old new : State) : Type 0 where
  pub only : WritesOnly (codes "meters" ∷ []) old new
  pub kept : KeepsRows (meter_keys number) old.now new.now
  pub stored : StoresRow meters_kept (meter_columns (number, m)) old.now new.now
  pub rows : (rows : Rows) → Holds old.now rows
      → Holds new.now (record rows { meters = rows.meters ++ (number, m) ∷ [] })

-- a base more that a meter had, which stands after the others, whatever format `about` tells
pub record AddsBase (number : List ℕ) (base : Base) (old new : State) : Type 0 where
  pub only : WritesOnly (codes "meter_bases" ∷ []) old new
  pub kept : KeepsRows (base_keys number base) old.now new.now
  pub stored : StoresRow bases_kept (base_columns (number, base)) old.now new.now
  pub rows : (told : ℕ) (rows : Rows) → HoldsOf present_format told old.now rows
      → HoldsOf present_format told new.now
      (record rows { bases = rows.bases ++ (number, base) ∷ [] })

-- the meter of this number has this base as its present one, and stays in its place
pub record SetsBase (number : List ℕ) (base : Base) (old new : State) : Type 0 where
  pub only : WritesOnly (codes "meters" ∷ []) old new
  pub kept : AreInOrder (codes "meters" ∷ []) old.now
      → KeepsRows (meter_keys number) old.now new.now
  pub rows : (rows : Rows) → Holds old.now rows → AllPairs (λ a b. a.0 ≢ b.0) rows.meters
      → Holds new.now (record rows { meters = map (row_with_base number base) rows.meters })

-- the meter of this number has this base too, as its present one
pub record MovesBase (number : List ℕ) (base : Base) (old new : State) : Type 0 where
  pub only : WritesOnly (codes "meters" ∷ codes "meter_bases" ∷ []) old new
  pub kept : AreInOrder (codes "meters" ∷ []) old.now
      → KeepsRows (meter_keys number ++ base_keys number base) old.now new.now
  pub stored : StoresRow bases_kept (base_columns (number, base)) old.now new.now
  pub rows : (rows : Rows) → Holds old.now rows → AllPairs (λ a b. a.0 ≢ b.0) rows.meters
      → Holds new.now (edited (MoveBase number base) rows)

-- the name of a tariff more, which stands after the others
pub record AddsName (name : List ℕ) (old new : State) : Type 0 where
  pub only : WritesOnly (codes "tariffs" ∷ []) old new
  pub kept : KeepsRows (name_keys name) old.now new.now
  pub stored : StoresRow tariffs_kept (tariff_columns name) old.now new.now
  pub rows : (rows : Rows) → Holds old.now rows
      → Holds new.now (record rows { tariffs = rows.tariffs ++ name ∷ [] })

-- the row of a step more, which stands after the others
pub record AddsStep (r : StepRow) (old new : State) : Type 0 where
  pub only : WritesOnly (codes "tariff_steps" ∷ []) old new
  pub kept : KeepsRows (step_keys r) old.now new.now
  pub stored : StoresRow steps_kept (step_columns r) old.now new.now
  pub rows : (rows : Rows) → Holds old.now rows
      → Holds new.now (record rows { steps = rows.steps ++ r ∷ [] })

-- the same of steps from a first day on
pub record AddsDatedStep (r : DatedStepRow) (old new : State) : Type 0 where
  pub only : WritesOnly (codes "dated_steps" ∷ []) old new
  pub kept : KeepsRows (dated_step_key r) old.now new.now
  pub stored : StoresRow dated_steps_kept (dated_columns r) old.now new.now
  pub rows : (rows : Rows) → Holds old.now rows
      → Holds new.now (record rows { dated_steps = rows.dated_steps ++ r ∷ [] })

-- the meter of this number has this tariff, and stays in its place
pub record SetsTariff (number name : List ℕ) (old new : State) : Type 0 where
  pub only : WritesOnly (codes "meters" ∷ []) old new
  pub kept : AreInOrder (codes "meters" ∷ []) old.now
      → KeepsRows (meter_keys number) old.now new.now
  pub rows : (rows : Rows) → Holds old.now rows → AllPairs (λ a b. a.0 ≢ b.0) rows.meters
      → Holds new.now (record rows { meters = map (row_with_tariff number name) rows.meters })

-- the meter of this number has this key, and stays in its place
pub record SetsKey (number : List ℕ) (key : ℕ) (old new : State) : Type 0 where
  pub only : WritesOnly (codes "meters" ∷ []) old new
  pub kept : AreInOrder (codes "meters" ∷ []) old.now
      → KeepsRows (meter_keys number) old.now new.now
  pub rows : (rows : Rows) → Holds old.now rows → AllPairs (λ a b. a.0 ≢ b.0) rows.meters
      → Holds new.now (record rows { meters = map (row_with_key number key) rows.meters })

-- a tariff more: its name, and its steps at their places, stand after the others
pub record AddsTariff (name : List ℕ) (added : List Step) (old new : State) : Type 0 where
  pub only : WritesOnly (codes "tariffs" ∷ codes "tariff_steps" ∷ []) old new
  pub kept : KeepsRows (tariff_keys name) old.now new.now
  pub stored : StoresRow tariffs_kept (tariff_columns name) old.now new.now
  pub steps : StoresRows steps_kept (map step_columns (step_rows name added)) old.now new.now
  pub rows : (rows : Rows) → Holds old.now rows
      → Holds new.now (edited (AddTariff name added) rows)

-- steps of a tariff from a first day on: at their places they stand after the others
pub record AddsSteps (name : List ℕ) (day : ℕ) (added : List Step) (old new : State) : Type 0 where
  pub only : WritesOnly (codes "dated_steps" ∷ []) old new
  pub kept : KeepsRows (dated_keys name day) old.now new.now
  pub stored : StoresRows dated_steps_kept (map dated_columns (dated_rows name day added)) old.now
      new.now
  pub rows : (rows : Rows) → Holds old.now rows
      → Holds new.now (edited (AddSteps name day added) rows)

-- the steps that a tariff has from a first day on are withdrawn: none of their rows is left, and
-- the others stand in their order
pub record WithdrawsSteps (name : List ℕ) (day : ℕ) (old new : State) : Type 0 where
  pub only : WritesOnly (codes "dated_steps" ∷ []) old new
  pub kept : AreInOrder (codes "dated_steps" ∷ []) old.now
      → KeepsRows (dated_keys name day) old.now new.now
  pub gone : AreInOrder (codes "dated_steps" ∷ []) old.now
      → HasNone (codes "dated_steps") (dated_key name day) new.now
  pub rows : (rows : Rows) → Holds old.now rows
      → Holds new.now (edited (WithdrawSteps name day) rows)

-- ---- running totals, whatever format `about` tells

-- what there is under the keys, with this value under one of them
abbrev pub put_under : {K V : Type 0} → (K → Bool) → V → (K → Option V) → K → Option V
put_under is_key value has key = if is_key key then Some value else has key

abbrev pub is_under : (List ℕ × Base) → (List ℕ × Base) → Bool
is_under key other = bytes_eq other.0 key.0 && base_eq other.1 key.1

abbrev pub is_in_month : (List ℕ × ℕ) → (List ℕ × ℕ) → Bool
is_in_month key other = bytes_eq other.0 key.0 && (other.1 == key.1)

-- the last identifier of a meter under a base is this one
pub record SetsLastId (key : List ℕ × Base) (tid : ℕ) (old new : State) : Type 0 where
  pub only : WritesOnly (codes "last_ids" ∷ []) old new
  pub kept : AreInOrder (codes "last_ids" ∷ []) old.now
      → KeepsRows (last_id_keys key) old.now new.now
  pub rows : (told : ℕ) (rows : Rows) (has : (List ℕ × Base) → Option ℕ)
      → HoldsOf present_format told old.now rows → AreRowsOf rows.last_ids has
      → (rest : List ((List ℕ × Base) × ℕ))
      × HoldsOf present_format told new.now (record rows { last_ids = rest })
      × AreRowsOf rest (put_under (is_under key) tid has)

-- the tenths of a meter in a month are more by these, where the column can hold them, and this is
-- what they are then
pub record AddsTenths (key : List ℕ × ℕ) (tenths sum : ℕ) (old new : State) : Type 0 where
  pub only : WritesOnly (codes "month_tenths" ∷ []) old new
  pub kept : AreInOrder (codes "month_tenths" ∷ []) old.now
      → KeepsRows (month_keys key) old.now new.now
  pub rows : (told : ℕ) (rows : Rows) (has : (List ℕ × ℕ) → Option ℕ)
      → HoldsOf present_format told old.now rows → AreRowsOf rows.month_tenths has
      → unwrap_or (has key) 0 + tenths < 2 ^ 63
      → (rest : List ((List ℕ × ℕ) × ℕ))
      × HoldsOf present_format told new.now (record rows { month_tenths = rest })
      × AreRowsOf rest (put_under (is_in_month key) (unwrap_or (has key) 0 + tenths) has)
      × (sum ≡ unwrap_or (has key) 0 + tenths)

-- no sale yet, and one sale more
abbrev pub no_totals : Totals
no_totals = record { sales = 0; tenths = 0; cash = 0 }

abbrev pub one_more : ℕ → ℕ → Totals → Totals
one_more tenths price t =
    record { sales = t.sales + 1; tenths = t.tenths + tenths; cash = t.cash + price }

-- a column can hold each of them
abbrev pub HasRoomFor : Totals → Type 0
HasRoomFor t = (t.sales < 2 ^ 63) × (t.tenths < 2 ^ 63) × (t.cash < 2 ^ 63)

-- the totals of a shift are those with one sale more, and these are what they are then
pub record AddsToShift (shift tenths price : ℕ) (totals : Totals) (old new : State) : Type 0 where
  pub only : WritesOnly (codes "shift_totals" ∷ []) old new
  pub kept : AreInOrder (codes "shift_totals" ∷ []) old.now
      → KeepsRows (shift_totals_key shift) old.now new.now
  pub rows : (told : ℕ) (rows : Rows) (has : ℕ → Option Totals)
      → HoldsOf present_format told old.now rows → AreRowsOf rows.shift_totals has
      → IsKeyedBy (λ r. pos r.0) rows.shift_totals
      → HasRoomFor (one_more tenths price (unwrap_or (has shift) no_totals))
      → (rest : List (ℕ × Totals))
      × HoldsOf present_format told new.now (record rows { shift_totals = rest })
      × AreRowsOf rest (put_under (λ n. n == shift)
      (one_more tenths price (unwrap_or (has shift) no_totals)) has)
      × IsKeyedBy (λ r. pos r.0) rest
      × (totals ≡ one_more tenths price (unwrap_or (has shift) no_totals))

-- the rows with the totals of others
abbrev pub with_totals_of : Rows → Rows → Rows
with_totals_of totals rows = record rows {
  last_ids = totals.last_ids;
  month_tenths = totals.month_tenths;
  shift_totals = totals.shift_totals;
}

-- the sums over the sales are such that a column can hold them
pub record FitColumns (sales : List Sale) : Type 0 where
  pub count : length sales < 2 ^ 63
  pub tenths : sum_by (λ s. s.tenths) sales < 2 ^ 63
  pub cash : cash_of sales < 2 ^ 63

-- the same of the totals of an office
abbrev pub AreWithinTotals : List Sale → Type 0
AreWithinTotals sales =
    IsTotal (length sales) × IsTotal (sum_by (λ s. s.tenths) sales) × IsTotal (cash_of sales)

-- the three tables of totals
abbrev pub totals_names : List (List ℕ)
totals_names = codes "last_ids" ∷ codes "month_tenths" ∷ codes "shift_totals" ∷ []

-- the totals are those with one sale more, after which this is the last identifier of its meter
-- under its base
pub record AddsTotals (s : Sale) (last : ℕ) (old new : State) : Type 0 where
  pub only : WritesOnly totals_names old new
  pub kept : AreInOrder totals_names old.now → KeepsRows (totals_keys s) old.now new.now
  pub rows : (told : ℕ) (rows : Rows) (sales : List Sale)
      → HoldsOf present_format told old.now rows → AreTotalsOf sales rows
      → FitColumns (sales ++ s ∷ [])
      → greatest_of (map (λ s. s.tid) (sales_under (sales ++ s ∷ []) (s.meter, s.base))) ≡ Some last
      → (totals : Rows) × HoldsOf present_format told new.now (with_totals_of totals rows)
      × AreTotalsOf (sales ++ s ∷ []) totals

-- the last identifier is one of 24 bits
abbrev pub MaySetLastId : ℕ → ℕ → Rows → Type 0
MaySetLastId tid format rows =
    IsTid tid × ((has : (List ℕ × Base) → Option ℕ) × AreRowsOf rows.last_ids has)

-- the sum is not too great for an office
abbrev pub MayAddTenths : (List ℕ × ℕ) → ℕ → ℕ → Rows → Type 0
MayAddTenths key tenths format rows =
    (has : (List ℕ × ℕ) → Option ℕ) × AreRowsOf rows.month_tenths has
    × IsTotal (unwrap_or (has key) 0 + tenths)

-- nor are the count and the sums
abbrev pub MayAddToShift : ℕ → ℕ → ℕ → ℕ → Rows → Type 0
MayAddToShift shift tenths price format rows =
    (has : ℕ → Option Totals) × AreRowsOf rows.shift_totals has
    × IsKeyedBy (λ r. pos r.0) rows.shift_totals
    × AreTotalsValues (one_more tenths price (unwrap_or (has shift) no_totals))

-- the totals are those of some sales, which with one more do not add up to too much
abbrev pub MayAddTotals : Sale → ℕ → ℕ → Rows → Type 0
MayAddTotals s last format rows =
    IsTid last × ((sales : List Sale) × AreTotalsOf sales rows × AreWithinTotals (sales ++ s ∷ []))

-- the rows are those of an office of the present format, which the sale meets
abbrev pub MayAddSold : Sale → ℕ → Rows → Type 0
MayAddSold s format rows =
    (format ≡ present_format) × ((o : Office) × IsOffice o × MeetsNewSale o s × AreMembersOf rows o)

-- the totals of the sale's month and of its shift, where these are all sales
abbrev pub AreSaleTotals : Sale → List Sale → SaleTotals → Type 0
AreSaleTotals s sales shown =
    (tenths_of (sales_in_month sales (s.meter, month_at s.moment)) ≡ Some shown.month_tenths)
    × (totals_of (sales_in_shift sales s.shift) ≡ Some shown.shift)

-- the totals are those with one sale more, and these are told of it
pub record TellsSaleTotals (s : Sale) (last : ℕ) (shown : SaleTotals) (old new : State)
    : Type 0 where
  pub adds : AddsTotals s last old new
  pub tells : (format : ℕ) (rows : Rows) (sales : List Sale)
      → HoldsOf present_format format old.now rows → AreTotalsOf sales rows
      → FitColumns (sales ++ s ∷ []) → AreSaleTotals s (sales ++ s ∷ []) shown

-- a sale that an office made, and its totals
pub record AddsSold (s : Sale) (old new : State) : Type 0 where
  pub only : WritesOnly (codes "sales" ∷ totals_names) old new
  pub kept : AreInOrder totals_names old.now
      → KeepsRows (sale_key s.number ++ totals_keys s) old.now new.now
  pub stored : StoresRow sales_kept (sale_row s) old.now new.now
  pub members : (o : Office) → IsOffice o → MeetsNewSale o s → HoldsMembers old.now o
      → HoldsMembers new.now (applied (AddSale s) o)

-- a sale that an office made, and its totals, of which these are told
pub record TellsSold (s : Sale) (shown : SaleTotals) (old new : State) : Type 0 where
  pub adds : AddsSold s old new
  pub tells : (o : Office) → IsOffice o → MeetsNewSale o s → HoldsMembers old.now o
      → AreSaleTotals s (o.sales ++ s ∷ []) shown
