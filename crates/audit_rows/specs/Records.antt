-- The columns of the records of whole rows.
use Rattle.std.specs.Prelude.{[], ◌∷◌}
use Rattle.sqlite.specs.Order.{Row}
use Rattle.sqlite.specs.declared.types.Value.TheVariants.{Text}
use Rattle.sts_fields.specs.Base.{year_of}
use Rattle.book_tables.specs.row.Rows.{meter_columns, number, optional}
use Rattle.audit_rows.specs.declared.rows.BaseRow.{BaseRow}
use Rattle.audit_rows.specs.declared.rows.DatedStepRow.{DatedStepRow}
use Rattle.audit_rows.specs.declared.rows.LastId.{LastId}
use Rattle.book_tables.specs.declared.reading.pages.MeterRow.{MeterRow}
use Rattle.audit_rows.specs.declared.rows.MonthTenths.{MonthTenths}
use Rattle.audit_rows.specs.declared.rows.ShiftTotals.{ShiftTotals}
use Rattle.audit_rows.specs.declared.rows.StepRow.{StepRow}

abbrev pub shown_step_row : StepRow → Row
shown_step_row r =
    Text r.tariff ∷ number r.place ∷ optional r.step.ends ∷ number r.step.price ∷ []

abbrev pub shown_dated_step : DatedStepRow → Row
shown_dated_step r =
    Text r.tariff ∷ number r.day ∷ number r.place ∷ optional r.step.ends ∷ number r.step.price ∷ []

abbrev pub shown_meter_row : MeterRow → Row
shown_meter_row r = meter_columns (r.number, r.meter)

abbrev pub shown_last_id : LastId → Row
shown_last_id r = Text r.meter ∷ number (year_of r.base) ∷ number r.tid ∷ []

abbrev pub shown_month : MonthTenths → Row
shown_month r = Text r.meter ∷ number r.month ∷ number r.tenths ∷ []

abbrev pub shown_shift_totals : ShiftTotals → Row
shown_shift_totals r =
    number r.shift ∷ number r.totals.sales ∷ number r.totals.tenths ∷ number r.totals.cash ∷ []

abbrev pub shown_base : BaseRow → Row
shown_base r = Text r.meter ∷ number (year_of r.base) ∷ []
