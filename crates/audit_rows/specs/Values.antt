-- The rules that the values of a whole row keep by themselves, whatever else an office holds.
use Rattle.std.specs.Prelude.{◌<◌, ◌^◌}
use Rattle.sts_fields.specs.Day.{IsDay}
use Rattle.office_rules.specs.Name.{IsMeterNo, IsName}
use Rattle.book_tables.specs.row.Values.{AreMeterValues, AreStepValues, AreTotalsValues, IsNumber}
use Rattle.book_tables.specs.row.Values.{IsTid, IsTotal}
use Rattle.audit_rows.specs.declared.rows.BaseRow.{BaseRow}
use Rattle.audit_rows.specs.declared.rows.DatedStepRow.{DatedStepRow}
use Rattle.audit_rows.specs.declared.rows.LastId.{LastId}
use Rattle.book_tables.specs.declared.reading.pages.MeterRow.{MeterRow}
use Rattle.audit_rows.specs.declared.rows.MonthTenths.{MonthTenths}
use Rattle.audit_rows.specs.declared.rows.ShiftTotals.{ShiftTotals}
use Rattle.audit_rows.specs.declared.rows.StepRow.{StepRow}

pub record AreStepRowValues (r : StepRow) : Type 0 where
  pub tariff : IsName r.tariff
  pub place : r.place < 2 ^ 32
  pub step : AreStepValues r.step

pub record AreDatedStepValues (r : DatedStepRow) : Type 0 where
  pub tariff : IsName r.tariff
  pub day : IsDay r.day
  pub place : r.place < 2 ^ 32
  pub step : AreStepValues r.step

abbrev pub AreMeterRowValues : MeterRow → Type 0
AreMeterRowValues r = IsMeterNo r.number × AreMeterValues r.meter

pub record AreLastIdValues (r : LastId) : Type 0 where
  pub meter : IsMeterNo r.meter
  pub tid : IsTid r.tid

pub record AreMonthValues (r : MonthTenths) : Type 0 where
  pub meter : IsMeterNo r.meter
  pub month : r.month < 2 ^ 32
  pub tenths : IsTotal r.tenths

pub record AreShiftTotalsValues (r : ShiftTotals) : Type 0 where
  pub shift : IsNumber r.shift
  pub totals : AreTotalsValues r.totals

abbrev pub AreBaseValues : BaseRow → Type 0
AreBaseValues r = IsMeterNo r.meter
