-- Requests and lives lead from plausible offices, as the empty one, to plausible ones, and under one transform each sale
-- has the token of its fields.
use Rattle.std.proofs.Common.{ℕ, ◌≤◌, inl, inr, List, length, get_or, take, refl, sym, subst, arith}
use Rattle.std.specs.Prelude.{All}
use Rattle.std.proofs.lemmas.List.Elements.{All-take, All-weaker}
use Rattle.sts_token.specs.Token.{KeepsRange}
use Rattle.office_rules.specs.Decision.Fold.{after, step}
use Rattle.office_rules.specs.Decision.Requests.{IsStamped}
use Rattle.office_rules.specs.Law.Growth.{HasGrown}
use Rattle.vend_core.specs.Law.Imports.{LeavesRow}
use Rattle.vend_core.specs.Law.Life.{LeadTo, Life}
use Rattle.vend_core.specs.Law.Reached.{EachAfter, IsGrantedAfter, IsPlausible}
use Rattle.office_rules.specs.Office.{IsOffice, IsSaleRow, Office, empty_office}
use Rattle.office_rules.specs.declared.decision.request.Stamped.{Stamped}
use Rattle.office_rules.specs.declared.office.row.Row.TheVariants as kinds
use Rattle.office_rules.specs.declared.office.sale.Sale.{Sale}
use Rattle.office_rules.proofs.DecisionLemmas.NewSaleLemmas.{LowerLaws}
use Rattle.vend_core.proofs.LawLemmas.LeaveLemmas.{step_stays}
use Rattle.vend_core.proofs.LawLemmas.AnswerLemmas.{sells_one}
use Rattle.vend_core.proofs.LawLemmas.EachAfterLemmas.{each_after_none, each_after_push, each_after_weaker}
use Rattle.vend_core.proofs.LawLemmas.EffectLemmas.{ShiftsChange, shifts_by, step_by_edit}
use Rattle.vend_core.proofs.LawLemmas.FoldLemmas.{step_grows}
use Rattle.vend_core.proofs.LifeLemmas.AlongLemmas.{after_keeps_by, led_keeps}
use Rattle.vend_core.proofs.LawLemmas.PlausibleLemmas.{AmountCodes, granted_stays, new_granted, shifts_go_on}
use Rattle.office_rules.proofs.OfficeLemmas.{empty_is_office}

within_shifts : (o : Office) → IsOffice o → All (λ (a : Sale). a.shift ≤ length o.shifts) o.sales
within_shifts o office =
    All-weaker (IsSaleRow o) (λ (a : Sale). a.shift ≤ length o.shifts) (λ a row. row.shift.1) o.sales
    office.sales

module _ (laws : LowerLaws) (codes : AmountCodes) where
  all_stay : (o p : Office) → IsOffice o → HasGrown o p → ShiftsChange o p
      → EachAfter (IsGrantedAfter o) o.sales → EachAfter (IsGrantedAfter p) o.sales
  all_stay o p office grown goes each =
      each_after_weaker (IsGrantedAfter o) (IsGrantedAfter p) o.sales (λ i s there granted.
      granted_stays o p grown goes (take i o.sales) s
      (All-take (λ (a : Sale). a.shift ≤ length o.shifts) i o.sales (within_shifts o office))
      (λ name first steps begun at. grown.tariffs.dated name first steps (s, there, begun) at)
      granted) each

  goes_on : (forward : ℕ → ℕ → ℕ) (o : Office) (at : Stamped) → IsOffice o → IsStamped at
      → KeepsRange forward → ShiftsChange o (step forward o at)
  goes_on forward o at office is range =
      step_by_edit laws (ShiftsChange o) forward o at office is range (inl refl) (shifts_by o)

  -- a request leads from a plausible office to a plausible one
  pub step_plausible : (forward : ℕ → ℕ → ℕ) (o : Office) (at : Stamped) → IsOffice o
      → IsStamped at → KeepsRange forward → IsPlausible o → IsPlausible (step forward o at)
  step_plausible forward o at office is range plausible =
      let p = step forward o at in
      let grown = step_grows laws forward o at office is range in
      let goes = goes_on forward o at office is range in
      let stay = all_stay o p office grown goes plausible.sales in
      record {
        shifts = shifts_go_on o p plausible.shifts goes;
        sales = elim (sells_one laws forward o at office range) [
          | inl same ↦ subst (λ (sales : List Sale). EachAfter (IsGrantedAfter p) sales) (sym same) stay
          | inr (s, (order, asks, new), pushed, answered) ↦
              subst (λ (sales : List Sale). EachAfter (IsGrantedAfter p) sales) (sym pushed)
              (each_after_push (IsGrantedAfter p) o.sales s stay
              (granted_stays o p grown goes o.sales s (within_shifts o office)
              (λ name first steps begun there.
              step_stays forward o at (kinds.Steps name first steps)
              (subst (λ request. LeavesRow request (kinds.Steps name first steps)) (sym asks) tt) there)
              (new_granted codes forward range o office at order s new plausible.shifts)))
        ];
      }

  -- the empty office is plausible
  pub empty_plausible : IsPlausible empty_office
  empty_plausible = record {
    shifts = λ i j d before within. absurd (omega arith);
    sales = each_after_none (IsGrantedAfter empty_office);
  }

  -- requests lead from the empty office to a plausible one
  pub after_plausible : (forward : ℕ → ℕ → ℕ) (ats : List Stamped) → All IsStamped ats
      → KeepsRange forward → IsPlausible (after forward empty_office ats)
  after_plausible forward ats are range =
      after_keeps_by laws IsPlausible forward
      (λ o at office is range holds. step_plausible forward o at office is range holds)
      empty_office ats empty_is_office are range empty_plausible

  -- lives lead from a plausible office to one
  pub led_plausible : (start : Office) (lives : List Life) (o : Office) → IsOffice start
      → LeadTo start lives o → IsPlausible start → IsPlausible o
  led_plausible start lives o office lead plausible =
      led_keeps laws IsPlausible start lives o (λ k d below o at there office is range holds.
      step_plausible (get_or lives k d).forward o at office is range holds) office lead plausible
