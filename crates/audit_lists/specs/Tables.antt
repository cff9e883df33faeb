-- The lists of an office's tables, and how a finding names their rows.
use Rattle.std.specs.Prelude.{ℕ, List}
use Rattle.office_rules.specs.declared.office.sale.Sale.{Sale}
use Rattle.office_rules.specs.declared.office.shift.Shift.{Shift}
use Rattle.book_tables.specs.declared.reading.pages.MeterRow.{MeterRow}
use Rattle.audit_rows.specs.declared.finding.RowKey.TheVariants as key
use Rattle.audit_rows.specs.declared.rows.BaseRow.{BaseRow}
use Rattle.audit_rows.specs.declared.rows.DatedStepRow.{DatedStepRow}
use Rattle.audit_rows.specs.declared.rows.StepRow.{StepRow}
use Rattle.audit_rows.specs.declared.table_name.TableName.TheVariants as table
use Rattle.audit_lists.specs.Ties.{Listed, listed}

abbrev pub listed_tariffs : List (List ℕ) → Listed (List ℕ)
listed_tariffs = listed table.Tariffs key.Tariff

abbrev pub steps_of : List StepRow → Listed StepRow
steps_of = listed table.TariffSteps (λ s. key.Step s.tariff s.place)

abbrev pub listed_dated_steps : List DatedStepRow → Listed DatedStepRow
listed_dated_steps = listed table.DatedSteps (λ s. key.DatedStep s.tariff s.day s.place)

abbrev pub listed_meters : List MeterRow → Listed MeterRow
listed_meters = listed table.Meters (λ m. key.Meter m.number)

abbrev pub listed_bases : List BaseRow → Listed BaseRow
listed_bases = listed table.MeterBases (λ b. key.Base b.meter b.base)

abbrev pub shifts_of : List Shift → Listed Shift
shifts_of = listed table.Shifts (λ s. key.Number s.number)

abbrev pub listed_sales : List Sale → Listed Sale
listed_sales = listed table.Sales (λ s. key.Number s.number)
