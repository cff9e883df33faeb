-- The rows of an office that the records of whole rows are.
use Rattle.std.specs.Prelude.{ℕ, List, map}
use Rattle.sts_fields.specs.declared.base.Base.{Base}
use Rattle.office_rules.specs.declared.office.meter.Meter.{Meter}
use Rattle.office_rules.specs.declared.office.sale.Sale.{Sale}
use Rattle.book_tables.specs.row.Rows.{DatedStepRow, Rows, StepRow}
use Rattle.book_tables.specs.declared.reading.pages.MeterRow.{MeterRow}
use Rattle.book_tables.specs.declared.row.totals.Totals.{Totals}
use Rattle.audit_rows.specs.declared.rows.BaseRow.{BaseRow}
use Rattle.audit_rows.specs.declared.rows.DatedStepRow.{DatedStepRow as DatedStepRead}
use Rattle.audit_rows.specs.declared.rows.LastId.{LastId}
use Rattle.audit_rows.specs.declared.rows.MonthTenths.{MonthTenths}
use Rattle.audit_rows.specs.declared.rows.ShiftTotals.{ShiftTotals}
use Rattle.audit_rows.specs.declared.rows.StepRow.{StepRow as StepRead}
use Rattle.audit_rows.specs.declared.sale_row.SaleRow.{SaleRow}
use Rattle.audit_rows.specs.declared.office_rows.OfficeRows.{OfficeRows}

abbrev pub step_entry : StepRead → StepRow
step_entry r = record { tariff = r.tariff; place = r.place; step = r.step }

abbrev pub meter_entry : MeterRow → List ℕ × Meter
meter_entry r = (r.number, r.meter)

abbrev pub sale_entry : SaleRow → Sale
sale_entry r = r.sale

abbrev pub last_id_entry : LastId → (List ℕ × Base) × ℕ
last_id_entry r = ((r.meter, r.base), r.tid)

abbrev pub month_entry : MonthTenths → (List ℕ × ℕ) × ℕ
month_entry r = ((r.meter, r.month), r.tenths)

abbrev pub totals_entry : ShiftTotals → ℕ × Totals
totals_entry r = (r.shift, r.totals)

abbrev pub base_entry : BaseRow → List ℕ × Base
base_entry r = (r.meter, r.base)

abbrev pub dated_entry : DatedStepRead → DatedStepRow
dated_entry r = record { tariff = r.tariff; day = r.day; place = r.place; step = r.step }

-- the rows of an office that were read
abbrev pub rows_of : OfficeRows → Rows
rows_of r = record {
  tariffs = r.tariffs.items;
  steps = map step_entry r.steps.items;
  meters = map meter_entry r.meters.items;
  shifts = r.shifts.items;
  sales = r.sales.items;
  last_ids = map last_id_entry r.last_ids.items;
  month_tenths = map month_entry r.month_tenths.items;
  shift_totals = map totals_entry r.shift_totals.items;
  bases = map base_entry r.bases.items;
  dated_steps = map dated_entry r.dated_steps.items;
}

-- the present base of a meter
abbrev pub present_base : MeterRow → BaseRow
present_base r = record { meter = r.number; base = r.meter.base }
