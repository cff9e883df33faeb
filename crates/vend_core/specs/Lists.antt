-- The office that plain lists keep, and what serving a request does to it.
pub mod PlainRows
use Rattle.std.specs.Prelude.{◌≡◌, ◌⊎◌, ◌<◌, ◌≤◌, Bool, true, false, ℕ, Some, Result, Ok, Err}
use Rattle.std.specs.Prelude.{IsNone, IsSome, length}
use Rattle.sts_fields.specs.Tid.{last_tid}
use Rattle.sts_token.specs.Token.{BlockFunction}
use Rattle.office_rules.specs.Decision.{account_of, decision}
use Rattle.office_rules.specs.Decision.Edits.{RowsFit, applied}
use Rattle.office_rules.specs.Decision.Facts.{report_of}
use Rattle.office_rules.specs.Decision.Fold.{reply, step}
use Rattle.office_rules.specs.Office.Lookup.{open_shift, sale_of_ref}
use Rattle.office_rules.specs.Office.{Office, greatest_count}
use Rattle.vend_core.specs.Lists.PlainRows.{office_of_rows}
use Rattle.office_rules.specs.declared.decision.answer.Answer.{Answer}
use Rattle.office_rules.specs.declared.decision.change.Change.{Change}
use Rattle.office_rules.specs.declared.decision.change.Edit.{Edit}
use Rattle.office_rules.specs.declared.decision.change.Edit.TheVariants.{AddTariff, AddSteps}
use Rattle.office_rules.specs.declared.decision.change.Edit.TheVariants.{AddMeter, AddRows}
use Rattle.office_rules.specs.declared.decision.change.Edit.TheVariants.{SetTariff, MoveBase}
use Rattle.office_rules.specs.declared.decision.change.Edit.TheVariants.{SetKey, WithdrawSteps}
use Rattle.office_rules.specs.declared.decision.change.Edit.TheVariants.{OpenShift, CloseShift}
use Rattle.office_rules.specs.declared.decision.change.Edit.TheVariants.{AddSale}
use Rattle.vend_core.specs.declared.lists.Lists.{Lists}
use Rattle.vend_core.specs.declared.lists.records.Records.{Records}
use Rattle.office_rules.specs.declared.decision.refusal.Refusal.{Refusal}
use Rattle.office_rules.specs.declared.decision.refusal.Refusal.TheVariants.{Memory}
use Rattle.office_rules.specs.declared.decision.request.Request.{Request}
use Rattle.office_rules.specs.declared.decision.request.Request.TheVariants as requests
use Rattle.office_rules.specs.declared.decision.request.Stamped.{Stamped}

-- the office that records stand for
abbrev pub recorded : Records → Office
recorded r =
    office_of_rows r.tariffs.items r.meters.items r.bases.items r.dated_steps.items r.shifts.items
    r.sales.items

-- an edit that leaves each meter with a tariff of the office, each identifier within its range,
-- and room for the count
abbrev pub Fits : Edit → Office → Type 0
Fits (AddTariff name steps) o = Unit {0}
Fits (AddSteps name day steps) o = Unit {0}
Fits (WithdrawSteps name day) o = Unit {0}
Fits (AddMeter number m) o = IsSome (o.tariffs m.tariff)
Fits (AddRows rows) o = RowsFit rows o
Fits (SetTariff number name) o = IsSome (o.tariffs name)
Fits (MoveBase number base) o = Unit {0}
Fits (SetKey number key) o = Unit {0}
Fits (OpenShift s) o = Unit {0}
Fits (CloseShift number moment) o = Unit {0}
Fits (AddSale s) o = (s.tid ≤ last_tid) × (length o.sales < greatest_count)

-- the edit was made, or for want of memory the office is as it was
abbrev pub AppliesEdit : {A E : Type 0} → Edit → Office → Office → Result A E → Type 0
AppliesEdit edit old new (Ok done) = new ≡ applied edit old
AppliesEdit edit old new (Err error) = new ≡ old

-- an edit that adds no row
abbrev pub sets_only : Edit → Bool
sets_only (SetTariff number name) = true
sets_only (SetKey number key) = true
sets_only (CloseShift number moment) = true
sets_only (WithdrawSteps name day) = true
sets_only edit = false

-- what plain lists copy to look at it: steps, what the office has of the names of rows, and the
-- sales of a shift
abbrev pub CopiesList : Office → ℕ → Request → Type 0
CopiesList o moment (requests.AddTariff name steps) = IsSome (o.tariffs name)
CopiesList o moment (requests.AddSteps name day steps) =
    IsSome (o.tariffs name) × IsSome (o.dated_steps name day)
CopiesList o moment (requests.WithdrawSteps name day) =
    IsSome (o.tariffs name) × IsSome (o.dated_steps name day)
CopiesList o moment (requests.Import rows) = Unit {0}
CopiesList o moment (requests.Sell order) =
    IsNone (sale_of_ref o order.operator order.order_ref)
    × IsSome (open_shift o order.operator) × IsSome (account_of o order.meter moment)
CopiesList o moment (requests.ShiftReport number) = IsSome (report_of o number)
CopiesList o moment request = ⊥

-- a decision whose edit adds a row
abbrev pub AddsRow : Result Change Refusal → Type 0
AddsRow (Ok change) = (edit : Edit) × (change.edit ≡ Some edit) × (sets_only edit ≡ false)
AddsRow (Err refusal) = ⊥

-- the requests that plain lists take memory for: to look at a list, or to add a row
abbrev pub NeedsRoom : BlockFunction → Office → Stamped → Type 0
NeedsRoom forward o at =
    CopiesList o at.moment at.request ⊎ AddsRow (decision forward o at)

-- one request is served with the step's reply and office
abbrev pub IsStep : BlockFunction → Office → Stamped → Result Answer Refusal → Office → Type 0
IsStep forward before at result now =
    (result ≡ reply forward before at) × (now ≡ step forward before at)

-- it is served so, or, for want of memory, with no change
abbrev pub IsServed : BlockFunction → Office → Stamped → Result Answer Refusal → Office → Type 0
IsServed forward before at result now =
    IsStep forward before at result now ⊎ ((result ≡ Err Memory) × (now ≡ before))

-- the office that lists keep, and the transform that their tokens are written with
abbrev pub office_of : {T : Type 0} → Lists T → Office
office_of lists = recorded lists.records

abbrev pub transform_of : {T : Type 0} → Lists T → T
transform_of lists = lists.transform
