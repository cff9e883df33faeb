-- What an edit makes of the rows.
use Rattle.std.specs.Prelude.{◌==◌, ◌&&◌, ℕ, Bool, true, false, not, List, [], ◌∷◌, ◌++◌, map}
use Rattle.std.specs.Prelude.{bytes_eq, filter, if◌then◌else◌}
use Rattle.std.specs.List.{enumerate_from}
use Rattle.sts_fields.specs.declared.base.Base.{Base}
use Rattle.tariff.specs.declared.step.Step.{Step}
use Rattle.office_rules.specs.Decision.Edits.{closed_at, with_base, with_key, with_tariff}
use Rattle.office_rules.specs.declared.decision.change.Edit.{Edit}
use Rattle.office_rules.specs.declared.decision.change.Edit.TheVariants.{AddTariff, AddSteps}
use Rattle.office_rules.specs.declared.decision.change.Edit.TheVariants.{AddMeter, AddRows}
use Rattle.office_rules.specs.declared.decision.change.Edit.TheVariants.{SetTariff, MoveBase}
use Rattle.office_rules.specs.declared.decision.change.Edit.TheVariants.{OpenShift, CloseShift}
use Rattle.office_rules.specs.declared.decision.change.Edit.TheVariants.{AddSale, SetKey}
use Rattle.office_rules.specs.declared.decision.change.Edit.TheVariants.{WithdrawSteps}
use Rattle.office_rules.specs.declared.office.meter.Meter.{Meter}
use Rattle.office_rules.specs.declared.office.row.Row.{Row}
use Rattle.office_rules.specs.declared.office.row.Row.TheVariants as kinds
use Rattle.office_rules.specs.declared.office.shift.Shift.{Shift}
use Rattle.book_tables.specs.row.Rows.{DatedStepRow, Rows, StepRow}

-- no rows
abbrev pub no_rows : Rows
no_rows = record {
  tariffs = [];
  steps = [];
  meters = [];
  shifts = [];
  sales = [];
  last_ids = [];
  month_tenths = [];
  shift_totals = [];
  bases = [];
  dated_steps = [];
}

-- the row of a tariff's step at a place, and those of all its steps
abbrev pub step_row : List ℕ → ℕ → Step → StepRow
step_row name place step = record { tariff = name; place = place; step = step }

abbrev pub step_rows : List ℕ → List Step → List StepRow
step_rows name steps = map (λ s. step_row name s.0 s.1) (enumerate_from 0 steps)

-- the same of the steps that a tariff has from a day on
abbrev pub dated_row : List ℕ → ℕ → ℕ → Step → DatedStepRow
dated_row name day place step =
    record { tariff = name; day = day; place = place; step = step }

abbrev pub dated_rows : List ℕ → ℕ → List Step → List DatedStepRow
dated_rows name day steps = map (λ s. dated_row name day s.0 s.1) (enumerate_from 0 steps)

-- whether a row is of the steps that a tariff has from a day on
abbrev pub is_from : List ℕ → ℕ → DatedStepRow → Bool
is_from name day r = bytes_eq r.tariff name && (r.day == day)

-- a meter's row, with this tariff, this base or this key where it has this number
abbrev pub row_with_tariff : List ℕ → List ℕ → (List ℕ × Meter) → (List ℕ × Meter)
row_with_tariff number name row =
    if bytes_eq row.0 number then (row.0, with_tariff name row.1) else row

abbrev pub row_with_base : List ℕ → Base → (List ℕ × Meter) → (List ℕ × Meter)
row_with_base number base row =
    if bytes_eq row.0 number then (row.0, with_base base row.1) else row

abbrev pub row_with_key : List ℕ → ℕ → (List ℕ × Meter) → (List ℕ × Meter)
row_with_key number key row =
    if bytes_eq row.0 number then (row.0, with_key key row.1) else row

-- a shift's row, closed where it has this number
abbrev pub shift_closed : ℕ → ℕ → Shift → Shift
shift_closed number moment s = if s.number == number then closed_at moment s else s

-- the rows with a tariff and its steps, with steps from a day on, or with a meter and its base, at
-- the end
abbrev pub row_added : Row → Rows → Rows
row_added (kinds.Tariff name steps) rows =
    record rows { tariffs = rows.tariffs ++ name ∷ []; steps = rows.steps ++ step_rows name steps }
row_added (kinds.Steps name day steps) rows =
    record rows { dated_steps = rows.dated_steps ++ dated_rows name day steps }
row_added (kinds.Meter number m) rows =
    record rows {
      meters = rows.meters ++ (number, m) ∷ [];
      bases = rows.bases ++ (number, m.base) ∷ [];
    }

-- the rows with several of them, one after another
abbrev pub rows_added : List Row → Rows → Rows
rows_added [] rows = rows
rows_added (row ∷ new) rows = rows_added new (row_added row rows)

-- the rows after an edit: new ones stand at the end, a meter or a shift that is changed stays in
-- its place, and those of steps that are withdrawn are gone. With a sale come its totals, which are
-- no matter of this function.
abbrev pub edited : Edit → Rows → Rows
edited (AddTariff name steps) rows = row_added (kinds.Tariff name steps) rows
edited (AddSteps name day steps) rows = row_added (kinds.Steps name day steps) rows
edited (WithdrawSteps name day) rows =
    record rows { dated_steps = filter (λ r. not (is_from name day r)) rows.dated_steps }
edited (AddMeter number m) rows = row_added (kinds.Meter number m) rows
edited (AddRows new) rows = rows_added new rows
edited (SetTariff number name) rows =
    record rows { meters = map (row_with_tariff number name) rows.meters }
edited (MoveBase number base) rows =
    record rows {
      meters = map (row_with_base number base) rows.meters;
      bases = rows.bases ++ (number, base) ∷ [];
    }
edited (SetKey number key) rows =
    record rows { meters = map (row_with_key number key) rows.meters }
edited (OpenShift s) rows = record rows { shifts = rows.shifts ++ s ∷ [] }
edited (CloseShift number moment) rows =
    record rows { shifts = map (shift_closed number moment) rows.shifts }
edited (AddSale s) rows = record rows { sales = rows.sales ++ s ∷ [] }

-- whether the edit is a sale, with which totals come
abbrev pub is_sale : Edit → Bool
is_sale (AddSale s) = true
is_sale edit = false
