-- What holds of each edit holds after a request, and what an edit makes of the shifts.
use Rattle.std.proofs.Common.{◌≡◌, ℕ, ◌+◌, ◌⊎◌, inl, inr, Bool, true, false, List, [], ◌∷◌, ◌++◌, length, Option, Some, None, Result, Ok, Err, refl, sym, ◌∙◌, ap}
use Rattle.std.specs.Prelude.{◌&&◌, ◌==◌, bytes_eq, map, if◌then◌else◌}
use Rattle.std.specs.Option.{option_map_or}
use Rattle.std.proofs.lemmas.Bool.Decides.{Decides-eqb}
use Rattle.std.proofs.lemmas.Option.{none-some}
use Rattle.std.proofs.lemmas.Slice.Eq.{bytes_eq-Decides}
use Rattle.sts_token.specs.Token.{KeepsRange}
use Rattle.office_rules.specs.Decision.{decision}
use Rattle.office_rules.specs.Decision.Edits.{applied, office_after, with_row, with_rows}
use Rattle.office_rules.specs.Decision.Fold.{step}
use Rattle.office_rules.specs.Decision.Requests.{IsStamped}
use Rattle.tariff.specs.declared.step.Step.{Step}
use Rattle.office_rules.specs.Law.Growth.{HaveStayed}
use Rattle.office_rules.specs.Law.Store.{Meets}
use Rattle.office_rules.specs.Office.Lookup.{open_shift}
use Rattle.office_rules.specs.Office.{IsOffice, Office}
use Rattle.office_rules.specs.declared.decision.change.Change.{Change}
use Rattle.office_rules.specs.declared.decision.change.Edit.{Edit}
use Rattle.office_rules.specs.declared.decision.change.Edit.TheVariants as edits
use Rattle.office_rules.specs.declared.decision.refusal.Refusal.{Refusal}
use Rattle.office_rules.specs.declared.decision.request.Stamped.{Stamped}
use Rattle.office_rules.specs.declared.office.row.Row.{Row}
use Rattle.office_rules.specs.declared.office.row.Row.TheVariants as kinds
use Rattle.office_rules.specs.declared.office.shift.Shift.{Shift}
use Rattle.office_rules.proofs.DecisionLemmas.EditLemmas.{closing}
use Rattle.office_rules.proofs.DecisionLemmas.NewSaleLemmas.{LowerLaws}
use Rattle.office_rules.proofs.OfficeLemmas.RowLemmas.{parts_true}
use Rattle.office_rules.proofs.StoreLemmas.MeetsLemmas.{decided_meets}

-- what holds of no change, and of each edit that meets its office, holds of a step
by_edit : (P : Office → Type 0) (o : Office) (edit : Option Edit) → P o
    → ((e : Edit) → edit ≡ Some e → P (applied e o))
    → P (option_map_or (λ (e : Edit). applied e o) edit o)
by_edit P o None none each = none
by_edit P o (Some e) none each = each e refl

by_result : (P : Office → Type 0) (o : Office) (r : Result Change Refusal) → P o
    → ((change : Change) (e : Edit) → r ≡ Ok change → change.edit ≡ Some e → P (applied e o))
    → P (office_after o r)
by_result P o (Err refusal) none each = none
by_result P o (Ok change) none each = by_edit P o change.edit none (λ e is. each change e refl is)

-- what holds of no change and of each edit that meets its office holds after a request
pub step_by_edit : LowerLaws → (P : Office → Type 0) (forward : ℕ → ℕ → ℕ) (o : Office)
    (at : Stamped) → IsOffice o → IsStamped at → KeepsRange forward → P o
    → ((e : Edit) → Meets e o → P (applied e o)) → P (step forward o at)
step_by_edit laws P forward o at office is range none each =
    by_result P o (decision forward o at) none (λ change e granted edits.
    each e (decided_meets laws forward o at change e office is range granted edits))

-- what stands elsewhere than where an edit puts something stays
pub beside : {A : Type 0} (b : Bool) (put there : A) → (b ≡ true → ⊥)
    → (if b then put else there) ≡ there
beside true put there other = absurd (other refl)
beside false put there other = refl

-- steps that are put where there were none leave the others
pub steps_put : (o : Office) (name : List ℕ) (day : ℕ) (steps : List Step)
    → o.dated_steps name day ≡ None → HaveStayed o (applied (edits.AddSteps name day steps) o)
steps_put o name day steps free = record {
  tariffs = record {
    first = λ q s at. at;
    dated = λ q d s at. beside (bytes_eq q name && (d == day)) (Some steps) (o.dated_steps q d) (λ both.
        let parts = parts_true (bytes_eq q name) (d == day) both in
        let here : o.dated_steps q d ≡ o.dated_steps name day =
        ap (λ (n : List ℕ). o.dated_steps n d) ((bytes_eq-Decides q name).0 parts.0)
        ∙ ap (o.dated_steps name) ((Decides-eqb d day).0 parts.1) in
        none-some s (sym (here ∙ free) ∙ at)) ∙ at;
  };
  meters = λ q m at. at;
}

-- one shift more, with the next number and open, of an operator who has none that is open
pub record OpensShift (o p : Office) : Type 0 where
  pub shift : Shift
  pub number : shift.number ≡ length o.shifts + 1
  pub none_open : open_shift o shift.operator ≡ None
  pub shifts : p.shifts ≡ o.shifts ++ shift ∷ []

-- a shift is closed
pub record ClosesShift (o p : Office) : Type 0 where
  pub number : ℕ
  pub moment : ℕ
  pub shifts : p.shifts ≡ map (closing number moment) o.shifts

-- the shifts stay, or one is opened, or one closed
abbrev pub ShiftsChange : Office → Office → Type 0
ShiftsChange o p = (p.shifts ≡ o.shifts) ⊎ (OpensShift o p ⊎ ClosesShift o p)

shifts_of_row : (row : Row) (o : Office) → (with_row row o).shifts ≡ o.shifts
shifts_of_row (kinds.Tariff name steps) o = refl
shifts_of_row (kinds.Steps name day steps) o = refl
shifts_of_row (kinds.Meter number m) o = refl

shifts_of_rows : (rows : List Row) (o : Office) → (with_rows rows o).shifts ≡ o.shifts
shifts_of_rows [] o = refl
shifts_of_rows (row ∷ rest) o = shifts_of_rows rest (with_row row o) ∙ shifts_of_row row o

-- an edit leaves the shifts, or opens one, or closes one
pub shifts_by : (o : Office) (e : Edit) → Meets e o → ShiftsChange o (applied e o)
shifts_by o (edits.AddTariff name steps) meets = inl refl
shifts_by o (edits.AddSteps name day steps) meets = inl refl
shifts_by o (edits.WithdrawSteps name day) meets = inl refl
shifts_by o (edits.AddMeter number m) meets = inl refl
shifts_by o (edits.AddRows rows) meets = inl (shifts_of_rows rows o)
shifts_by o (edits.SetTariff number name) meets = inl refl
shifts_by o (edits.MoveBase number base) meets = inl refl
shifts_by o (edits.SetKey number key) meets = inl refl
shifts_by o (edits.OpenShift s) meets =
    inr (inl (record {
      shift = s;
      number = meets.number;
      none_open = meets.none_open;
      shifts = refl;
    }))
shifts_by o (edits.CloseShift number moment) meets =
    inr (inr (record { number = number; moment = moment; shifts = refl }))
shifts_by o (edits.AddSale s) meets = inl refl
