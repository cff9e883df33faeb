-- How a request is decided by facts alone, of an office or of none: the tests of the rules, over
-- what the facts hold.
use Rattle.std.specs.Prelude.{◌≡◌, ◌+◌, ◌++◌, ℕ, Bool, true, false, List, [], ◌∷◌, Option, Some}
use Rattle.std.specs.Prelude.{None, Result, Ok, if◌then◌else◌, is_some, slice_get, unwrap_or}
use Rattle.sts_fields.specs.Day.{day_at}
use Rattle.sts_token.specs.Token.{BlockFunction}
use Rattle.tariff.specs.declared.step.Step.{Step}
use Rattle.office_rules.specs.Decision.{◌>>=◌, add_meter, add_rows, add_steps, add_tariff, at_row}
use Rattle.office_rules.specs.Decision.{close_shift, decision, move_base, open_a_shift, reprint}
use Rattle.office_rules.specs.Decision.{row_decision, sell_once, set_key, set_tariff}
use Rattle.office_rules.specs.Decision.{withdraw_steps}
use Rattle.office_rules.specs.Decision.Edits.{with_rows}
use Rattle.office_rules.specs.Decision.Facts.{AreFacts, report_found}
use Rattle.office_rules.specs.Office.{Office, empty_office}
use Rattle.office_rules.specs.declared.decision.change.Change.{Change}
use Rattle.office_rules.specs.declared.decision.facts.Facts.{Facts}
use Rattle.office_rules.specs.declared.decision.refusal.Refusal.{Refusal}
use Rattle.office_rules.specs.declared.decision.request.Request.{Request}
use Rattle.office_rules.specs.declared.decision.request.Request.TheVariants as requests
use Rattle.office_rules.specs.declared.decision.request.Stamped.{Stamped}
use Rattle.office_rules.specs.declared.decision.row_facts.RowFacts.{RowFacts}
use Rattle.office_rules.specs.declared.decision.row_facts.RowFacts.TheVariants as found
use Rattle.office_rules.specs.declared.office.meter.Meter.{Meter}
use Rattle.office_rules.specs.declared.office.row.Row.{Row}
use Rattle.office_rules.specs.declared.office.row.Row.TheVariants as kinds

-- ---- an import

-- what was found of a tariff's row: the steps under its name; facts of another kind show none
abbrev pub steps_found : Option RowFacts → Option (List Step)
steps_found (Some (found.Tariff there)) = there
steps_found f = None

-- what was found of a row of later steps: whether there is its tariff, and the steps of its day
abbrev pub tariff_stands : Option RowFacts → Bool
tariff_stands (Some (found.Steps has_tariff there)) = has_tariff
tariff_stands f = false

abbrev pub dated_found : Option RowFacts → Option (List Step)
dated_found (Some (found.Steps has_tariff there)) = there
dated_found f = None

-- what was found of a meter's row: the meter, and where there is none whether there is its tariff
abbrev pub meter_there : Option RowFacts → Option Meter
meter_there (Some (found.Meter there)) = Some there
meter_there f = None

abbrev pub tariff_there : Option RowFacts → Bool
tariff_there (Some (found.NoMeter has_tariff)) = has_tariff
tariff_there f = false

-- the office has under the row's names what was found there
abbrev pub Shows : Office → Row → Option RowFacts → Type 0
Shows o (kinds.Tariff name steps) f = steps_found f ≡ o.tariffs name
Shows o (kinds.Steps name day steps) f =
    (tariff_stands f ≡ is_some (o.tariffs name)) × (dated_found f ≡ o.dated_steps name day)
Shows o (kinds.Meter number m) f =
    (meter_there f ≡ o.meters number)
    × (o.meters number ≡ None → tariff_there f ≡ is_some (o.tariffs m.tariff))

-- a tariff, of whatever steps, or none
abbrev pub some_tariff : Bool → Option (List Step)
some_tariff true = Some []
some_tariff false = None

-- such an office: it has that under each name, since the row has no other
abbrev pub office_showing : Row → Option RowFacts → Office
office_showing (kinds.Tariff name steps) f =
    record empty_office { tariffs = λ q. steps_found f }
office_showing (kinds.Steps name day steps) f =
    record empty_office {
      tariffs = λ q. some_tariff (tariff_stands f);
      dated_steps = λ q d. dated_found f;
    }
office_showing (kinds.Meter number m) f =
    record empty_office {
      tariffs = λ q. some_tariff (tariff_there f);
      meters = λ q. meter_there f;
    }

-- The new ones of some rows, of which the first comes behind so many others and these new ones of
-- them, or why one is refused: each row is decided where its facts were found, with the new ones.
abbrev pub new_rows_on : List Row → ℕ → ℕ → List Row → List RowFacts → Result (List Row) Refusal
new_rows_on taken today i [] fs = Ok []
new_rows_on taken today i (row ∷ rest) fs = do
  change ← at_row (i + 1)
      (row_decision (with_rows taken (office_showing row (slice_get fs i))) today row)
  new ← new_rows_on (taken ++ (if is_some change.edit then row ∷ [] else [])) today (i + 1) rest fs
  Ok (if is_some change.edit then row ∷ new else new)

abbrev pub import_on : ℕ → List Row → List RowFacts → Result Change Refusal
import_on today rows fs = do
  new ← new_rows_on [] today 0 rows fs
  add_rows new

-- ---- a request

abbrev pub decision_on_of : BlockFunction → ℕ → ℕ → Request → Facts → Result Change Refusal
decision_on_of forward moment nibble (requests.AddTariff name steps) f =
    add_tariff name steps f.tariff
decision_on_of forward moment nibble (requests.AddSteps name day steps) f =
    add_steps name day steps (day_at moment) f.has_tariff f.dated_steps
decision_on_of forward moment nibble (requests.WithdrawSteps name day) f =
    withdraw_steps name day (day_at moment) f.has_tariff f.dated_steps f.sold_since
decision_on_of forward moment nibble (requests.AddMeter number m) f =
    add_meter number m f.meter f.has_tariff
decision_on_of forward moment nibble (requests.Import rows) f =
    import_on (day_at moment) rows (unwrap_or f.rows [])
decision_on_of forward moment nibble (requests.SetTariff number name) f =
    set_tariff number name f.meter f.has_tariff
decision_on_of forward moment nibble (requests.MoveBase number base) f =
    move_base number base moment f.meter
decision_on_of forward moment nibble (requests.SetKey number key) f =
    set_key number key f.meter f.has_sales
decision_on_of forward moment nibble (requests.OpenShift operator) f =
    open_a_shift moment operator f.open_shift f.shift_count
decision_on_of forward moment nibble (requests.CloseShift operator) f =
    close_shift moment f.open_shift
decision_on_of forward moment nibble (requests.Sell order) f =
    sell_once forward moment nibble order f.first_sale f.open_shift f.account f.sale_count
decision_on_of forward moment nibble (requests.Reprint number) f = reprint f.sale
decision_on_of forward moment nibble (requests.ShiftReport number) f = report_found f.report

abbrev pub decision_on : BlockFunction → Stamped → Facts → Result Change Refusal
decision_on forward at f = decision_on_of forward at.moment at.nibble at.request f

-- an office that has the facts decides the request so
abbrev pub DecidesByFacts : BlockFunction → Office → Stamped → Facts → Type 0
DecidesByFacts forward o at f = AreFacts o at f → decision forward o at ≡ decision_on forward at f
