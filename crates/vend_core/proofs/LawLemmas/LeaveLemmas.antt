-- Which requests leave what a row of an import added, and that it stands then as it is.
use Rattle.std.proofs.Common.{◌≡◌, inl, inr, ℕ, true, List, Option, Some, None, Result, refl, ◌∙◌, ap}
use Rattle.std.specs.Prelude.{◌&&◌, ◌==◌, bytes_eq, option_map}
use Rattle.sts_fields.specs.Day.{day_at}
use Rattle.std.proofs.lemmas.Slice.Eq.{bytes_eq-Decides}
use Rattle.std.proofs.lemmas.Bool.Decides.{Decides-eqb}
use Rattle.tariff.specs.declared.step.Step.{Step}
use Rattle.office_rules.specs.Decision.{import, row_decision}
use Rattle.office_rules.specs.Decision.Edits.{applied, office_after, set_meter, with_base, with_key, with_tariff}
use Rattle.office_rules.specs.Decision.Fold.{step}
use Rattle.office_rules.specs.Law.Growth.{HaveStayed, TariffsStay}
use Rattle.vend_core.specs.Law.Imports.{AreOtherSteps, HasRow, IsOtherMeter, LeavesRow}
use Rattle.office_rules.specs.Office.{Office}
use Rattle.office_rules.specs.declared.decision.change.Change.{Change}
use Rattle.office_rules.specs.declared.decision.change.Edit.TheVariants as edits
use Rattle.office_rules.specs.declared.office.meter.Meter.{Meter}
use Rattle.office_rules.specs.declared.decision.refusal.Refusal.{Refusal}
use Rattle.office_rules.specs.declared.decision.request.Request.{Request}
use Rattle.office_rules.specs.declared.decision.request.Request.TheVariants as requests
use Rattle.office_rules.specs.declared.decision.request.Stamped.{Stamped}
use Rattle.office_rules.specs.declared.office.row.Row.{Row}
use Rattle.office_rules.specs.declared.office.row.Row.TheVariants as kinds
use Rattle.office_rules.proofs.DecisionLemmas.ImportLemmas.{import_keeps}
use Rattle.office_rules.proofs.DecisionLemmas.StayLemmas.{stayed_by_meter, stayed_by_row, stayed_by_tariff, stayed_none, stayed_twice}
use Rattle.office_rules.proofs.OfficeLemmas.RowLemmas.{parts_true}
use Rattle.vend_core.proofs.LawLemmas.DecidedLemmas.{Each, by_decision}
use Rattle.vend_core.proofs.LawLemmas.EffectLemmas.{beside, steps_put}

-- tariffs and meters stand where other rows are added, shifts opened and closed, sales made
stayed_by_import : (o : Office) (today : ℕ) (rows : List Row) → HaveStayed o (office_after o (import o today rows))
stayed_by_import o today rows =
    import_keeps (HaveStayed o) (λ row. Unit {0}) today
    (λ p row any stayed. stayed_twice o p (office_after p (row_decision p today row)) stayed (stayed_by_row p today row)) o rows
    (λ i d within. tt) (stayed_none o)

module _ (o : Office) where
  same_tariffs : (p : Office) → p.tariffs ≡ o.tariffs → p.dated_steps ≡ o.dated_steps → TariffsStay o p
  same_tariffs p tariffs dated = record {
    first = λ name steps at. ap (λ (f : List ℕ → Option (List Step)). f name) tariffs ∙ at;
    dated = λ name day steps at. ap (λ (f : List ℕ → ℕ → Option (List Step)). f name day) dated ∙ at;
  }

  same_rows : (p : Office) → p.tariffs ≡ o.tariffs → p.dated_steps ≡ o.dated_steps → p.meters ≡ o.meters → HaveStayed o p
  same_rows p tariffs dated meters = record {
    tariffs = same_tariffs p tariffs dated;
    meters = λ number m at. ap (λ (f : List ℕ → Option Meter). f number) meters ∙ at;
  }

-- what an office has under the names of a row it has later too
abbrev pub RowStays : Office → Office → Row → Type 0
RowStays o p (kinds.Tariff name steps) = (s : List Step) → o.tariffs name ≡ Some s → p.tariffs name ≡ Some s
RowStays o p (kinds.Steps name day steps) =
    ((s : List Step) → o.tariffs name ≡ Some s → p.tariffs name ≡ Some s)
    × ((s : List Step) → o.dated_steps name day ≡ Some s → p.dated_steps name day ≡ Some s)
RowStays o p (kinds.Meter number m) = (k : Meter) → o.meters number ≡ Some k → p.meters number ≡ Some k

-- so it is where all tariffs and meters stay
pub row_stays : (o p : Office) → HaveStayed o p → (row : Row) → RowStays o p row
row_stays o p stayed (kinds.Tariff name steps) = stayed.tariffs.first name
row_stays o p stayed (kinds.Steps name day steps) = (stayed.tariffs.first name, stayed.tariffs.dated name day)
row_stays o p stayed (kinds.Meter number m) = stayed.meters number

module _ (o : Office) where
  -- a meter that is set leaves the other ones, and the tariffs
  by_set_meter : (p : Office) (number : List ℕ) (f : Meter → Meter) → TariffsStay o p → p.meters ≡ set_meter number f o.meters
      → (row : Row) → IsOtherMeter number row → RowStays o p row
  by_set_meter p number f stay meters (kinds.Tariff name steps) other = stay.first name
  by_set_meter p number f stay meters (kinds.Steps name day steps) other = (stay.first name, stay.dated name day)
  by_set_meter p number f stay meters (kinds.Meter q m) other = λ k at.
      ap (λ (there : List ℕ → Option Meter). there q) meters
      ∙ beside (bytes_eq q number) (option_map f (o.meters q)) (o.meters q) (λ e. other ((bytes_eq-Decides q number).0 e)) ∙ at

  -- steps that are withdrawn leave the other ones, and all else
  by_withdrawal : (name : List ℕ) (day : ℕ) (row : Row) → AreOtherSteps name day row → RowStays o (applied (edits.WithdrawSteps name day) o) row
  by_withdrawal name day (kinds.Tariff q steps) other = λ s at. at
  by_withdrawal name day (kinds.Steps q d steps) other = (
    λ s at. at,
    λ s at. beside (bytes_eq q name && (d == day)) None (o.dated_steps q d) (λ both.
        let parts = parts_true (bytes_eq q name) (d == day) both in
        elim other [
          | inl named ↦ named ((bytes_eq-Decides q name).0 parts.0)
          | inr dated ↦ dated ((Decides-eqb d day).0 parts.1)
        ]) ∙ at,
  )
  by_withdrawal name day (kinds.Meter number m) other = λ k at. at

  module _ (row : Row) where
    abbrev StaysAfter : Result Change Refusal → Type 0
    StaysAfter r = RowStays o (office_after o r) row

    left_each : (forward : ℕ → ℕ → ℕ) (moment nibble : ℕ) (request : Request) → LeavesRow request row → Each StaysAfter o forward moment nibble request
    left_each forward moment nibble (requests.AddTariff name steps) leaves = λ free. row_stays o _ (stayed_by_tariff o name steps None free) row
    left_each forward moment nibble (requests.AddSteps name day steps) leaves = λ free later. row_stays o _ (steps_put o name day steps free) row
    left_each forward moment nibble (requests.WithdrawSteps name day) leaves = λ later. by_withdrawal name day row leaves
    left_each forward moment nibble (requests.AddMeter number m) leaves = λ free has. row_stays o _ (stayed_by_meter o number m None true free) row
    left_each forward moment nibble (requests.Import rows) leaves = row_stays o _ (stayed_by_import o (day_at moment) rows) row
    left_each forward moment nibble (requests.SetTariff number name) leaves = λ has.
        by_set_meter (applied (edits.SetTariff number name) o) number (with_tariff name) (same_tariffs o _ refl refl) refl row leaves
    left_each forward moment nibble (requests.MoveBase number base) leaves =
        by_set_meter (applied (edits.MoveBase number base) o) number (with_base base) (same_tariffs o _ refl refl) refl row leaves
    left_each forward moment nibble (requests.SetKey number key) leaves =
        by_set_meter (applied (edits.SetKey number key) o) number (with_key key) (same_tariffs o _ refl refl) refl row leaves
    left_each forward moment nibble (requests.OpenShift operator) leaves = λ s number.
        row_stays o _ (same_rows o (applied (edits.OpenShift s) o) refl refl refl) row
    left_each forward moment nibble (requests.CloseShift operator) leaves = λ s.
        row_stays o _ (same_rows o (applied (edits.CloseShift s.number moment) o) refl refl refl) row
    left_each forward moment nibble (requests.Sell order) leaves = λ s sold. row_stays o _ (same_rows o (applied (edits.AddSale s) o) refl refl refl) row
    left_each forward moment nibble (requests.Reprint number) leaves = tt
    left_each forward moment nibble (requests.ShiftReport number) leaves = tt

-- a request that leaves a row leaves what the office has under its names
pub step_leaves : (forward : ℕ → ℕ → ℕ) (o : Office) (at : Stamped) (row : Row) → LeavesRow at.request row → RowStays o (step forward o at) row
step_leaves forward o at row leaves =
    by_decision (StaysAfter o row) o (λ refusal own. row_stays o o (stayed_none o) row) (λ answer stand. row_stays o o (stayed_none o) row)
    forward at.moment at.nibble at.request (left_each o row forward at.moment at.nibble at.request leaves)

has_row_still : (o p : Office) (row : Row) → RowStays o p row → HasRow o row → HasRow p row
has_row_still o p (kinds.Tariff name steps) stays at = stays steps at
has_row_still o p (kinds.Steps name day steps) stays at = stays.1 steps at
has_row_still o p (kinds.Meter number m) stays at = stays m at

-- what a row added stands as it is after a request that leaves it
pub step_stays : (forward : ℕ → ℕ → ℕ) (o : Office) (at : Stamped) (row : Row) → LeavesRow at.request row → HasRow o row
    → HasRow (step forward o at) row
step_stays forward o at row leaves has = has_row_still o (step forward o at) row (step_leaves forward o at row leaves) has
