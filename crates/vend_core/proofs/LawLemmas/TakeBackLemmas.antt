-- What can be taken back: further steps before their day, where nothing was sold on it or later, and
-- the key of a meter that has no sale.
use Rattle.std.proofs.Common.{◌≡◌, ◌≢◌, ◌⊎◌, ℕ, ◌<◌, ◌≤◌, inl, inr, Bool, true, false, List, Option, Some, None, Result, Ok, Err, refl, ◌∙◌, ap}
use Rattle.std.specs.Prelude.{◌&&◌, ◌==◌, IsSome, bytes_eq, if◌then◌else◌, nat_lt, not, option_map}
use Rattle.std.proofs.lemmas.Bool.{le-ltb, lt-ltb, ne_eqb}
use Rattle.std.proofs.lemmas.Bool.Decides.{Decides-eqb}
use Rattle.std.proofs.lemmas.Slice.Eq.{bytes_eq-Decides}
use Rattle.sts_fields.specs.Day.{day_at}
use Rattle.tariff.specs.declared.step.Step.{Step}
use Rattle.office_rules.specs.Decision.{decision_of, set_key, withdraw_steps, keyed_unless, withdrawn_if_free}
use Rattle.office_rules.specs.Decision.Fold.{office_after, reply, reply_of, step, with_key}
use Rattle.office_rules.specs.Office.Lookup.{WasSoldSince, WasSoldTo, has_sales, sold_since}
use Rattle.office_rules.specs.Office.{Office}
use Rattle.vend_core.specs.Law.OfficeLaws.{IsWithdrawn}
use Rattle.office_rules.specs.declared.decision.answer.Answer.TheVariants as answers
use Rattle.office_rules.specs.declared.decision.change.Change.{Change}
use Rattle.office_rules.specs.declared.office.meter.Meter.{Meter}
use Rattle.office_rules.specs.declared.decision.refusal.Refusal.{Refusal}
use Rattle.office_rules.specs.declared.decision.refusal.Refusal.TheVariants as refusals
use Rattle.office_rules.specs.declared.decision.request.Request.TheVariants as requests
use Rattle.office_rules.specs.declared.decision.request.Stamped.{Stamped}
use Rattle.office_rules.proofs.OfficeLemmas.RowLemmas.{both_true, parts_true}
use Rattle.office_rules.proofs.StoreLemmas.SoldLemmas.{false_where, sold_since_is, sold_to_is}
use Rattle.vend_core.proofs.LawLemmas.EffectLemmas.{beside}

second_fails : (b : Bool) → (b && false) ≡ false
second_fails true = refl
second_fails false = refl

module _ (forward : ℕ → ℕ → ℕ) (o : Office) (at : Stamped) (name : List ℕ) (day : ℕ) (some : IsSome (o.tariffs name))
    (asks : at.request ≡ requests.WithdrawSteps name day) where
  withdrawal_with : (there : Option (List Step)) → o.dated_steps name day ≡ there → decision_of forward o at.moment at.nibble at.request
      ≡ withdraw_steps name day (day_at at.moment) true there (sold_since o day)
  withdrawal_with there is =
      ap (decision_of forward o at.moment at.nibble) asks
      ∙ ap (λ (has : Bool). withdraw_steps name day (day_at at.moment) has (o.dated_steps name day) (sold_since o day)) some
      ∙ ap (λ (l : Option (List Step)). withdraw_steps name day (day_at at.moment) true l (sold_since o day)) is

  abbrev if_free : Bool → Result Change Refusal
  if_free free = withdrawn_if_free name day free

  -- steps that have not begun are taken back, where nothing was sold since their day
  pub withdraws : (steps : List Step) → o.dated_steps name day ≡ Some steps → day_at at.moment < day → ¬ WasSoldSince o day
      → IsWithdrawn forward o at name day
  withdraws steps there later unsold =
      let none : sold_since o day ≡ false = false_where (sold_since o day) (λ e. unsold ((sold_since_is o day).0 e)) in
      let passed = both_true (nat_lt (day_at at.moment) day) (not (sold_since o day)) (lt-ltb (day_at at.moment) day later) (ap not none) in
      let e = withdrawal_with (Some steps) there ∙ ap if_free passed in
      let here = both_true (bytes_eq name name) (day == day) ((bytes_eq-Decides name name).1 refl) ((Decides-eqb day day).1 refl) in
      record {
        answered = ap reply_of e;
        gone =
            ap (λ (r : Result Change Refusal). (office_after o r).dated_steps name day) e
            ∙ ap (λ (b : Bool). if b then None else o.dated_steps name day) here;
        others = λ q d other.
            ap (λ (r : Result Change Refusal). (office_after o r).dated_steps q d) e
            ∙ beside (bytes_eq q name && (d == day)) None (o.dated_steps q d) (λ both.
            let parts = parts_true (bytes_eq q name) (d == day) both in
            elim other [
              | inl named ↦ named ((bytes_eq-Decides q name).0 parts.0)
              | inr dated ↦ dated ((Decides-eqb d day).0 parts.1)
            ]);
      }

  -- where there are none nothing changes, whatever the day
  pub withdraws_none : o.dated_steps name day ≡ None → (reply forward o at ≡ Ok (answers.Withdrawn 0)) × (step forward o at ≡ o)
  withdraws_none none = let e = withdrawal_with None none in (ap reply_of e, ap (office_after o) e)

  -- steps that have begun, or since whose day something was sold, are not taken back
  pub withdraws_not : (steps : List Step) → o.dated_steps name day ≡ Some steps → (day ≤ day_at at.moment) ⊎ WasSoldSince o day
      → reply forward o at ≡ Err refusals.DayPast
  withdraws_not steps there (inl begun) =
      ap reply_of (withdrawal_with (Some steps) there
      ∙ ap (λ (b : Bool). if_free (b && not (sold_since o day))) (le-ltb (day_at at.moment) day begun))
  withdraws_not steps there (inr sold) =
      ap reply_of (withdrawal_with (Some steps) there
      ∙ ap (λ (b : Bool). if_free (nat_lt (day_at at.moment) day && not b)) ((sold_since_is o day).1 sold)
      ∙ ap if_free (second_fails (nat_lt (day_at at.moment) day)))

module _ (forward : ℕ → ℕ → ℕ) (o : Office) (at : Stamped) (number : List ℕ) (key : ℕ) (m : Meter) (there : o.meters number ≡ Some m)
    (asks : at.request ≡ requests.SetKey number key) where
  abbrev if_new : Bool → Bool → Result Change Refusal
  if_new same sold =
      keyed_unless number key same sold

  key_with : (same sold : Bool) → (m.key == key) ≡ same → has_sales o number ≡ sold
      → decision_of forward o at.moment at.nibble at.request ≡ if_new same sold
  key_with same sold x y =
      ap (decision_of forward o at.moment at.nibble) asks
      ∙ ap (λ (l : Option Meter). set_key number key l (has_sales o number)) there
      ∙ ap (λ (b : Bool). if_new b (has_sales o number)) x
      ∙ ap (if_new same) y

  -- a meter that has no sale is given another key
  pub sets_key : m.key ≢ key → ¬ WasSoldTo o number
      → (reply forward o at ≡ Ok answers.Done) × ((step forward o at).meters number ≡ Some (with_key key m))
  sets_key other unsold =
      let none : has_sales o number ≡ false = false_where (has_sales o number) (λ e. unsold ((sold_to_is o number).0 e)) in
      let e = key_with false false (ne_eqb m.key key other) none in
      let here : bytes_eq number number ≡ true = (bytes_eq-Decides number number).1 refl in (
        ap reply_of e,
        ap (λ (r : Result Change Refusal). (office_after o r).meters number) e
            ∙ ap (λ (b : Bool). if b then option_map (with_key key) (o.meters number) else o.meters number) here
            ∙ ap (option_map (with_key key)) there,
      )

  -- the key that it has is granted again, and changes nothing
  pub sets_key_once : m.key ≡ key → (reply forward o at ≡ Ok answers.Done) × (step forward o at ≡ o)
  sets_key_once same =
      let e = key_with true (has_sales o number) ((Decides-eqb m.key key).1 same) refl in
      (ap reply_of e, ap (office_after o) e)

  -- a meter that has a sale is given no other key
  pub sets_no_key : m.key ≢ key → WasSoldTo o number → reply forward o at ≡ Err refusals.HasSales
  sets_no_key other sold = ap reply_of (key_with false true (ne_eqb m.key key other) ((sold_to_is o number).1 sold))
