-- The rules that tie the rows of an office's tables to one another, in the order in which they are
-- tested.
use Rattle.std.specs.Prelude.{◌≡◌, ◌++◌, ◌≤◌, ℕ, List, [], ◌∷◌, Some, length, slice_get}
use Rattle.sts_fields.specs.Base.{year_of}
use Rattle.tariff.specs.declared.step.Step.{Step}
use Rattle.office_rules.specs.declared.office.sale.Sale.{Sale}
use Rattle.office_rules.specs.declared.office.shift.Shift.{Shift}
use Rattle.book_tables.specs.declared.reading.pages.MeterRow.{MeterRow}
use Rattle.audit_rows.specs.declared.finding.Rule.TheVariants as rule
use Rattle.audit_rows.specs.declared.office_rows.OfficeRows.{OfficeRows}
use Rattle.audit_rows.specs.declared.rows.BaseRow.{BaseRow}
use Rattle.audit_rows.specs.declared.rows.DatedStepRow.{DatedStepRow}
use Rattle.audit_rows.specs.declared.rows.StepRow.{StepRow}
use Rattle.audit_lists.specs.RowKeys.{base_key, dated_before_key, dated_first_key, dated_key}
use Rattle.audit_lists.specs.RowKeys.{dated_tariff_key, meter_base_key, meter_key, meter_tariff_key}
use Rattle.audit_lists.specs.RowKeys.{name_key, open_key, ref_key, sale_base_key, step_before_key}
use Rattle.audit_lists.specs.RowKeys.{step_key, step_tariff_key, tid_key}
use Rattle.audit_lists.specs.Steps.{AreSteps}
use Rattle.audit_lists.specs.Tables.{listed_bases, listed_dated_steps, listed_meters, listed_sales}
use Rattle.audit_lists.specs.Tables.{shifts_of, steps_of, listed_tariffs}
use Rattle.audit_lists.specs.Ties.{Tie, each, few, names, numbered, once}

-- the step of a row
abbrev pub row_step : StepRow → Step
row_step r = r.step

abbrev pub dated_step_of : DatedStepRow → Step
dated_step_of r = r.step

-- the base is of one of the meters, whose present base is no earlier one
abbrev pub IsOfMeter : List MeterRow → BaseRow → Type 0
IsOfMeter meters b =
    (i : ℕ) × (m : MeterRow) × (slice_get meters i ≡ Some m) × (m.number ≡ b.meter)
    × (year_of b.base ≤ year_of m.meter.base)

-- the shift that the sale names is one of so many
abbrev pub IsInShift : ℕ → Sale → Type 0
IsInShift count s = (1 ≤ s.shift) × (s.shift ≤ count)

-- tariffs and their steps: each name and each place once, a step at each place up to a last one,
-- and the steps of each name those that a tariff may have
abbrev pub tariff_rules : List (List ℕ) → List StepRow → List Tie
tariff_rules tariffs steps =
    once (listed_tariffs tariffs) rule.Twice name_key
    ∷ once (steps_of steps) rule.Twice step_key
    ∷ names (steps_of steps) rule.Missing step_tariff_key name_key tariffs
    ∷ names (steps_of steps) rule.Steps step_before_key step_key steps
    ∷ each (listed_tariffs tariffs) rule.Steps
    (λ name. AreSteps row_step step_key steps (name_key name))
    ∷ []

-- the same of the steps of a tariff from a day on
abbrev pub dated_rules : List (List ℕ) → List DatedStepRow → List Tie
dated_rules tariffs steps =
    once (listed_dated_steps steps) rule.Twice dated_key
    ∷ names (listed_dated_steps steps) rule.Missing dated_tariff_key name_key tariffs
    ∷ names (listed_dated_steps steps) rule.Steps dated_before_key dated_key steps
    ∷ each (listed_dated_steps steps) rule.Steps
    (λ row. AreSteps dated_step_of dated_key steps (dated_first_key row))
    ∷ []

-- meters and their bases: each once, the tariff and the present base of a meter among those that
-- are there, and no base a later one
abbrev pub meter_rules : List (List ℕ) → List MeterRow → List BaseRow → List Tie
meter_rules tariffs meters bases =
    once (listed_meters meters) rule.Twice meter_key
    ∷ once (listed_bases bases) rule.Twice base_key
    ∷ names (listed_meters meters) rule.Missing meter_tariff_key name_key tariffs
    ∷ names (listed_meters meters) rule.Base meter_base_key base_key bases
    ∷ each (listed_bases bases) rule.Base (IsOfMeter meters)
    ∷ []

-- shifts: no more than an office holds, numbered, and of each operator one that is open at most
abbrev pub shift_rules : List Shift → List Tie
shift_rules shifts =
    few (shifts_of shifts)
    ∷ numbered (shifts_of shifts) (λ s. s.number)
    ∷ once (shifts_of shifts) rule.TwoOpen open_key
    ∷ []

-- sales in so many shifts: no more than an office holds, numbered, each identifier of a meter under
-- a base and each ref of an operator once, each in one of the shifts and under a base that its
-- meter had
abbrev pub sale_rules : ℕ → List BaseRow → List Sale → List Tie
sale_rules shifts bases sales =
    few (listed_sales sales)
    ∷ numbered (listed_sales sales) (λ s. s.number)
    ∷ once (listed_sales sales) rule.Twice tid_key
    ∷ once (listed_sales sales) rule.Twice ref_key
    ∷ each (listed_sales sales) rule.Missing (IsInShift shifts)
    ∷ names (listed_sales sales) rule.Base sale_base_key base_key bases
    ∷ []

-- all of them
abbrev pub tie_rules : OfficeRows → List Tie
tie_rules r =
    tariff_rules r.tariffs.items r.steps.items
    ++ dated_rules r.tariffs.items r.dated_steps.items
    ++ meter_rules r.tariffs.items r.meters.items r.bases.items
    ++ shift_rules r.shifts.items
    ++ sale_rules (length r.shifts.items) r.bases.items r.sales.items
