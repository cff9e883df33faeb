-- What an edit makes of a database.
use Rattle.std.specs.Prelude.{◌≡◌, ◌≢◌, ◌+◌, ◌++◌, ◌∷◌, [], ℕ, List, Option, codes, map}
use Rattle.std.specs.List.{flat_map}
use Rattle.sqlite.specs.Effect.{Database, IsDatabase}
use Rattle.sqlite.specs.Order.{Row as Columns}
use Rattle.sqlite.specs.State.{State}
use Rattle.office_rules.specs.Decision.Edits.{applied, with_rows}
use Rattle.office_rules.specs.Office.{IsOffice, Office}
use Rattle.office_rules.specs.Law.Store.{MeetRows, Meets, MeetsNewSale}
use Rattle.office_rules.specs.declared.decision.change.Edit.{Edit}
use Rattle.office_rules.specs.declared.decision.change.Edit.TheVariants.{AddMeter, AddRows, AddSale}
use Rattle.office_rules.specs.declared.decision.change.Edit.TheVariants.{AddSteps, AddTariff}
use Rattle.office_rules.specs.declared.decision.change.Edit.TheVariants.{CloseShift, MoveBase}
use Rattle.office_rules.specs.declared.decision.change.Edit.TheVariants.{OpenShift, SetKey}
use Rattle.office_rules.specs.declared.decision.change.Edit.TheVariants.{SetTariff, WithdrawSteps}
use Rattle.office_rules.specs.declared.office.row.Row.{Row}
use Rattle.office_rules.specs.declared.office.row.Row.TheVariants as kinds
use Rattle.office_rules.specs.declared.office.sale.Sale.{Sale}
use Rattle.book_tables.specs.Holds.{HasOffice, HoldsMembers, table_names}
use Rattle.book_tables.specs.Kept.{bases_kept, dated_steps_kept, meters_kept, sales_kept}
use Rattle.book_tables.specs.Kept.{shifts_kept, steps_kept, tariffs_kept}
use Rattle.book_tables.specs.row.Rows.{base_columns, dated_columns, meter_columns, sale_row}
use Rattle.book_tables.specs.row.Rows.{shift_row, step_columns, tariff_columns}
use Rattle.book_tables.specs.writing.Edited.{dated_rows, step_rows}
use Rattle.book_tables.specs.writing.Storing.{StoresRow, StoresRows}
use Rattle.book_tables.specs.writing.Keeping.{AreInOrder, HasNone, KeepsRows, Keys, base_keys}
use Rattle.book_tables.specs.writing.Keeping.{dated_key, dated_keys, meter_keys, sale_key}
use Rattle.book_tables.specs.writing.Keeping.{shift_keys, tariff_keys, totals_keys}
use Rattle.book_tables.specs.writing.Telling.{TellsTotals}
use Rattle.book_tables.specs.writing.Writes.{Make, Write, new_sale, writes_of}
use Rattle.book_tables.specs.writing.Writing.{AreSaleTotals, TellsSold}
use Rattle.book_tables.specs.declared.row.totals.SaleTotals.{SaleTotals}
use Rattle.book_states.specs.Others.{SameOthers}

-- the keys of what an import adds, row by row, and those of what an edit writes
abbrev pub row_keys : Row → Keys
row_keys (kinds.Tariff name steps) = tariff_keys name
row_keys (kinds.Steps name day steps) = dated_keys name day
row_keys (kinds.Meter number m) = meter_keys number ++ base_keys number m.base

abbrev pub edit_keys : Edit → Keys
edit_keys (AddTariff name steps) = tariff_keys name
edit_keys (AddSteps name day steps) = dated_keys name day
edit_keys (WithdrawSteps name day) = dated_keys name day
edit_keys (AddMeter number m) = meter_keys number ++ base_keys number m.base
edit_keys (AddRows rows) = flat_map row_keys rows
edit_keys (SetTariff number name) = meter_keys number
edit_keys (MoveBase number base) = meter_keys number ++ base_keys number base
edit_keys (SetKey number key) = meter_keys number
edit_keys (OpenShift s) = shift_keys s.number
edit_keys (CloseShift number moment) = shift_keys number
edit_keys (AddSale s) = sale_key s.number ++ totals_keys s

-- what the row of an import adds to each table, as its columns
abbrev pub names_added : Row → List Columns
names_added (kinds.Tariff name steps) = tariff_columns name ∷ []
names_added (kinds.Steps name day steps) = []
names_added (kinds.Meter number m) = []

abbrev pub steps_added : Row → List Columns
steps_added (kinds.Tariff name steps) = map step_columns (step_rows name steps)
steps_added (kinds.Steps name day steps) = []
steps_added (kinds.Meter number m) = []

abbrev pub dated_added : Row → List Columns
dated_added (kinds.Tariff name steps) = []
dated_added (kinds.Steps name day steps) = map dated_columns (dated_rows name day steps)
dated_added (kinds.Meter number m) = []

abbrev pub meters_added : Row → List Columns
meters_added (kinds.Tariff name steps) = []
meters_added (kinds.Steps name day steps) = []
meters_added (kinds.Meter number m) = meter_columns (number, m) ∷ []

abbrev pub bases_added : Row → List Columns
bases_added (kinds.Tariff name steps) = []
bases_added (kinds.Steps name day steps) = []
bases_added (kinds.Meter number m) = base_columns (number, m.base) ∷ []

-- Each of these tables has what the rows of an import add to it, beside all that it had, whatever
-- that is.
pub record StoresImport (rows : List Row) (old new : Database) : Type 0 where
  pub names : StoresRows tariffs_kept (flat_map names_added rows) old new
  pub steps : StoresRows steps_kept (flat_map steps_added rows) old new
  pub dated : StoresRows dated_steps_kept (flat_map dated_added rows) old new
  pub meters : StoresRows meters_kept (flat_map meters_added rows) old new
  pub bases : StoresRows bases_kept (flat_map bases_added rows) old new

-- The same of the rows that an edit adds; some only change one. Of steps that are withdrawn none is
-- left, where the rows stand in order.
abbrev pub StoresEdit : Edit → Database → Database → Type 0
StoresEdit (AddTariff name steps) old new = StoresImport (kinds.Tariff name steps ∷ []) old new
StoresEdit (AddSteps name day steps) old new =
    StoresImport (kinds.Steps name day steps ∷ []) old new
StoresEdit (WithdrawSteps name day) old new =
    AreInOrder (codes "dated_steps" ∷ []) old
    → HasNone (codes "dated_steps") (dated_key name day) new
StoresEdit (AddMeter number m) old new = StoresImport (kinds.Meter number m ∷ []) old new
StoresEdit (AddRows rows) old new = StoresImport rows old new
StoresEdit (SetTariff number name) old new = Unit {0}
StoresEdit (MoveBase number base) old new =
    StoresRow bases_kept (base_columns (number, base)) old new
StoresEdit (SetKey number key) old new = Unit {0}
StoresEdit (OpenShift s) old new = StoresRow shifts_kept (shift_row s) old new
StoresEdit (CloseShift number moment) old new = Unit {0}
StoresEdit (AddSale s) old new = StoresRow sales_kept (sale_row s) old new

-- these writes, one after another, make a database of another, under a limit on steps, if one is
-- set
abbrev pub IsCarriedOut : List Write → Database → Database → Type 0
IsCarriedOut writes old new = (limit : Option ℕ) × Make limit writes old new

-- A database of an office has the members of the office after the edit, the same tables, and the
-- same rows in those of other names. Whatever rows a database has, the edit's own writes made the
-- new one of it: those that the edit adds are stored, and all but those of its keys stay, where
-- they stand in order; of those that it withdraws none is left.
pub record MakesEdit (edit : Edit) (old new : Database) : Type 0 where
  pub members : (o : Office) → IsOffice o → Meets edit o → HoldsMembers old o
      → HoldsMembers new (applied edit o)
  pub carried : IsCarriedOut (writes_of edit) old new
  pub stored : StoresEdit edit old new
  pub kept : AreInOrder table_names old → KeepsRows (edit_keys edit) old new
  pub schema : new.schema ≡ old.schema
  pub others : SameOthers old.schema old.trees new.trees
  pub sound : IsDatabase new

-- A sale is added with its totals, and of these the tenths of its meter's month are told to be
-- those before it and its own.
pub record AddsAsComputed (s : Sale) (prior : ℕ) (old new : State) : Type 0 where
  pub shown : SaleTotals
  pub tells : TellsSold s shown old new
  pub told : TellsTotals (new_sale s ∷ []) s s.tid shown old.step_limit old.now
  pub month : shown.month_tenths ≡ prior + s.tenths

-- These are told as the totals of a sale's month and its shift, by its own writes, whatever rows
-- the tables had. Where they held an office that the sale meets, they are its totals.
pub record TellTotals (s : Sale) (shown : SaleTotals) (old : Database) : Type 0 where
  pub limit : Option ℕ
  pub told : TellsTotals (new_sale s ∷ []) s s.tid shown limit old
  pub of_office : (o : Office) → IsOffice o → MeetsNewSale o s → HoldsMembers old o
      → AreSaleTotals s (o.sales ++ s ∷ []) shown

-- the tenths of a sale's month that are told are those that were read before it and its own; other
-- edits are told no totals
abbrev pub IsCounted : Edit → ℕ → Database → Type 0
IsCounted (AddSale s) prior old =
    (shown : SaleTotals) × TellTotals s shown old × (shown.month_tenths ≡ prior + s.tenths)
IsCounted edit prior old = Unit {0}

-- they are not
abbrev pub IsMiscounted : Edit → ℕ → Database → Type 0
IsMiscounted (AddSale s) prior old =
    (shown : SaleTotals) × TellTotals s shown old × (shown.month_tenths ≢ prior + s.tenths)
IsMiscounted edit prior old = ⊥

-- the edit is made, and what is told of it is as it was computed; nothing is said of a database
-- without the office's tables
abbrev pub MakesAsComputed : Edit → ℕ → Database → Database → Type 0
MakesAsComputed edit prior old new =
    HasOffice old.schema → MakesEdit edit old new × IsCounted edit prior old

-- the same of the rows of an import, of which each meets the office with those before it
pub record MakesRows (rows : List Row) (old new : Database) : Type 0 where
  pub members : (o : Office) → MeetRows rows o → HoldsMembers old o
      → HoldsMembers new (with_rows rows o)
  pub stored : StoresImport rows old new
  pub kept : KeepsRows (flat_map row_keys rows) old new
  pub schema : new.schema ≡ old.schema
  pub others : SameOthers old.schema old.trees new.trees
  pub sound : IsDatabase new
