-- The keys of the rows of each table, and those by which they name other rows.
use Rattle.std.specs.Prelude.{ℕ, ◌-◌, List, [], is_some, if◌then◌else◌}
use Rattle.sts_fields.specs.Base.{year_of}
use Rattle.office_rules.specs.declared.office.sale.Sale.{Sale}
use Rattle.office_rules.specs.declared.office.shift.Shift.{Shift}
use Rattle.audit_rows.specs.declared.rows.BaseRow.{BaseRow}
use Rattle.audit_rows.specs.declared.rows.DatedStepRow.{DatedStepRow}
use Rattle.book_tables.specs.declared.reading.pages.MeterRow.{MeterRow}
use Rattle.audit_rows.specs.declared.rows.StepRow.{StepRow}
use Rattle.audit_lists.specs.Keys.{Key}

-- a name or a number alone
abbrev pub name_key : List ℕ → Key
name_key name = (name, [], 0, 0)

-- a place of a tariff and a first day; the steps that have no day stand under 0
abbrev pub place_key : List ℕ → ℕ → ℕ → Key
place_key tariff day place = (tariff, [], day, place)

-- a step by its place
abbrev pub step_key : StepRow → Key
step_key r = place_key r.tariff 0 r.place

-- the place before it, or its own where it is the first
abbrev pub step_before_key : StepRow → Key
step_before_key r = place_key r.tariff 0 (r.place - 1)

-- its tariff
abbrev pub step_tariff_key : StepRow → Key
step_tariff_key r = name_key r.tariff

-- the same of a step from a day on
abbrev pub dated_key : DatedStepRow → Key
dated_key r = place_key r.tariff r.day r.place

abbrev pub dated_before_key : DatedStepRow → Key
dated_before_key r = place_key r.tariff r.day (r.place - 1)

-- the first place of the tariff and day
abbrev pub dated_first_key : DatedStepRow → Key
dated_first_key r = place_key r.tariff r.day 0

abbrev pub dated_tariff_key : DatedStepRow → Key
dated_tariff_key r = name_key r.tariff

-- a meter by its number, its tariff, and its present base
abbrev pub meter_key : MeterRow → Key
meter_key r = name_key r.number

abbrev pub meter_tariff_key : MeterRow → Key
meter_tariff_key r = name_key r.meter.tariff

abbrev pub meter_base_key : MeterRow → Key
meter_base_key r = (r.number, [], year_of r.meter.base, 0)

-- a meter's base
abbrev pub base_key : BaseRow → Key
base_key r = (r.meter, [], year_of r.base, 0)

-- a shift by its operator: with its number where it is closed, so that only open ones share a key
abbrev pub open_key : Shift → Key
open_key s = (s.operator, [], if is_some s.closed then s.number else 0, 0)

-- a sale's identifier under its meter and base, its ref under its operator, and its base
abbrev pub tid_key : Sale → Key
tid_key s = (s.meter, [], year_of s.base, s.tid)

abbrev pub ref_key : Sale → Key
ref_key s = (s.operator, s.order_ref, 0, 0)

abbrev pub sale_base_key : Sale → Key
sale_base_key s = (s.meter, [], year_of s.base, 0)
