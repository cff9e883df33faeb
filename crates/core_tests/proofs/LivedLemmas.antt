-- What is asked of an office leads its life on, and gives it a meter.
use Rattle.std.proofs.Common.{◌≡◌, ◌⊎◌, ◌<◌, ◌≤◌, ℕ, inl, inr, Bool, true, false, List, [], ◌∷◌, length, get_or, Option, Some, None, Result, Ok, Err, refl, sym, ◌∙◌, ap, subst, arith}
use Rattle.std.specs.Prelude.{◌&&◌, ◌==◌, Contains, bytes_eq, if◌then◌else◌}
use Rattle.std.proofs.lemmas.Bool.Decides.{Decides-eqb}
use Rattle.std.proofs.lemmas.Slice.Eq.{bytes_eq-Decides}
use Rattle.sts_token.specs.Token.{BlockFunction}
use Rattle.sts_fields.specs.Base.{base_eq}
use Rattle.office_rules.specs.Decision.{add_meter, meter_eq, unchanged}
use Rattle.office_rules.specs.Decision.Fold.{office_after, reply, reply_of, step}
use Rattle.office_rules.specs.Decision.Requests.{IsStamped}
use Rattle.office_rules.specs.Law.Handed.{sales_of}
use Rattle.office_rules.specs.Office.{Office}
use Rattle.vend_core.specs.Law.Life.{HandsOut, LeadTo, Life}
use Rattle.vend_core.specs.Law.LifeLaws.{IsRunning, extended_by}
use Rattle.vend_core.specs.Lists.{IsServed}
use Rattle.core_tests.specs.Lived.{HasHanded, HasKey, IsLived}
use Rattle.office_rules.specs.declared.decision.answer.Answer.{Answer}
use Rattle.office_rules.specs.declared.decision.answer.Answer.TheVariants as answers
use Rattle.office_rules.specs.declared.decision.refusal.Refusal.{Refusal}
use Rattle.office_rules.specs.declared.decision.refusal.Refusal.TheVariants as refusals
use Rattle.office_rules.specs.declared.decision.request.Stamped.{Stamped}
use Rattle.office_rules.specs.declared.office.meter.Meter.{Meter}
use Rattle.office_rules.specs.declared.office.sale.Sale.{Sale}

-- what the law of lives says of a request that is served, of one that finds no memory, and of a reply
pub record ServingLaws : Type 0 where
  pub served : (life : Life) (o : Office) (at : Stamped) → IsRunning life o → IsStamped at
      → IsRunning (extended_by life at (reply life.forward o at)) (step life.forward o at)
  pub no_memory : (life : Life) (o : Office) (at : Stamped) → IsRunning life o → IsStamped at
      → IsRunning (extended_by life at (Err refusals.Memory)) o
  pub replied : (life : Life) (at : Stamped) (r : Result Answer Refusal) (s : Sale)
      → Contains (sales_of r) s → HandsOut (extended_by life at r) s

module _ (laws : ServingLaws) (forward : BlockFunction) (start o p : Office) (at : Stamped) (r : Result Answer Refusal) (stamped : IsStamped at)
    (lived : IsLived start forward o) where
  -- a life goes on by what was served
  pub runs_on : IsServed forward o at r p → IsRunning (extended_by lived.life at r) p
  runs_on (inl (r_is, p_is)) =
      let on = laws.served lived.life o at lived.running stamped in
      let by : IsRunning (extended_by lived.life at (reply forward o at)) (step forward o at) =
      subst (λ f. IsRunning (extended_by lived.life at (reply f o at)) (step f o at)) lived.forward_is on in
      subst (λ q. IsRunning (extended_by lived.life at r) q) (sym p_is)
      (subst (λ q. IsRunning (extended_by lived.life at q) (step forward o at)) (sym r_is) by)
  runs_on (inr (r_is, p_is)) =
      subst (λ q. IsRunning (extended_by lived.life at r) q) (sym p_is)
      (subst (λ q. IsRunning (extended_by lived.life at q) o) (sym r_is) (laws.no_memory lived.life o at lived.running stamped))

  -- and hands out the sales of the reply
  pub lives_on : (after : BlockFunction) → after ≡ forward → IsServed forward o at r p → HasHanded start after p (sales_of r)
  lives_on after same served = record {
    lived = record {
      life = extended_by lived.life at r;
      running = runs_on served;
      opening = lived.opening;
      forward_is = lived.forward_is ∙ sym same;
    };
    hands = λ s there. laws.replied lived.life at r s there;
  }

-- a life that goes on leads from the office that it opened to the present one
pub leads : (start : Office) (forward : BlockFunction) (o : Office) (lived : IsLived start forward o) → LeadTo start (lived.life ∷ []) o
leads start forward o lived = (lived.running.is_life, lived.opening, (o, inl (sym lived.running.present), refl))

-- a meter that was added, or was there, has the key
last_true : (a b : Bool) → (a && b) ≡ true → b ≡ true
last_true true b e = e
last_true false b e = cc

there_has : (o : Office) (number : List ℕ) (k m : Meter) (b : Bool) → o.meters number ≡ Some k → meter_eq k m ≡ b
    → reply_of (if b then unchanged answers.Done else Err refusals.Differs) ≡ Ok answers.Done
    → HasKey (office_after o (if b then unchanged answers.Done else Err refusals.Differs)) number m.key
there_has o number k m true at same answered = record {
  meter = k;
  meter_is = at;
  key_is = (Decides-eqb k.key m.key).0 (last_true (base_eq k.base m.base && bytes_eq k.tariff m.tariff) (k.key == m.key) same);
}
there_has o number k m false at same answered = cc

added_has : (o : Office) (number : List ℕ) (m : Meter) (there : Option Meter) (has : Bool) → o.meters number ≡ there
    → reply_of (add_meter number m there has) ≡ Ok answers.Done
    → HasKey (office_after o (add_meter number m there has)) number m.key
added_has o number m (Some k) has at answered = there_has o number k m (meter_eq k m) at refl answered
added_has o number m None true at answered = record {
  meter = m;
  meter_is = ap (λ b. if b then Some m else o.meters number) ((bytes_eq-Decides number number).1 refl);
  key_is = refl;
}
added_has o number m None false at answered = cc

-- an office that answers that a meter is added has it
pub has_added : (o p : Office) (r : Result Answer Refusal) (number : List ℕ) (m : Meter) (has : Bool)
    → ((r ≡ reply_of (add_meter number m (o.meters number) has)) × (p ≡ office_after o (add_meter number m (o.meters number) has)))
    ⊎ ((r ≡ Err refusals.Memory) × (p ≡ o))
    → r ≡ Ok answers.Done → HasKey p number m.key
has_added o p r number m has (inl (r_is, p_is)) done =
    subst (λ q. HasKey q number m.key) (sym p_is) (added_has o number m (o.meters number) has refl (sym r_is ∙ done))
has_added o p r number m has (inr (r_is, p_is)) done = cc

-- a list of one element
pub one_item : {X : Type 0} (xs : List X) (x : X) → 1 ≤ length xs → length xs < 2 → x ≡ get_or xs 0 x → xs ≡ x ∷ []
one_item [] x least below is = absurd (omega (arith, least))
one_item (y ∷ []) x least below is = ap (λ z. z ∷ []) (sym is)
one_item (y ∷ z ∷ xs) x least below is = absurd (omega (arith, below))
