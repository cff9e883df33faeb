-- Prices of runs of tenths: cut in two, of one price, and a step at a time.
use Rattle.std.proofs.Common.{◌≡◌, ℕ, zero, suc, ◌+◌, ◌-◌, ◌*◌, ◌<◌, ◌≤◌, ◌⊎◌, inl, inr, true, false, cond, List, [], ◌∷◌, Option, Some, None, length, get_or, drop, min, max, ltb, sym, ◌∙◌, ap, refl, add-zero, add-suc, add_assoc, arith}
use Rattle.std.specs.Prelude.{find}
use Rattle.std.proofs.Math.Nat.{mul-le-mul_left}
use Rattle.std.specs.Option.{option_map_or}
use Rattle.std.proofs.lemmas.Bool.Decides.{nat_tests}
use Rattle.std.proofs.lemmas.Bool.{cases_lt}
use Rattle.std.proofs.lemmas.List.{drop_more, drop_all}
use Rattle.tariff.specs.declared.step.Step.{Step}
use Rattle.tariff.specs.Cost.{cost_of, ends_after, price_at, prices_of}

-- the prices of no tenths add to nothing
pub prices_of-zero : (steps : List Step) (p : ℕ) → prices_of steps p 0 ≡ 0
unfolding prices_of
prices_of-zero steps p = refl

-- one tenth more adds its own price
pub prices_of-suc : (steps : List Step) (p t : ℕ) → prices_of steps p (suc t)
    ≡ prices_of steps p t + price_at steps (p + t)
unfolding prices_of
prices_of-suc steps p t = refl

-- the prices of two runs, one after the other, add
pub prices_of-add : (steps : List Step) (p t u : ℕ) → prices_of steps p (t + u)
    ≡ prices_of steps p t + prices_of steps (p + t) u
prices_of-add steps p t zero = rw (add-zero, prices_of-zero steps (p + t), add-zero) refl
prices_of-add steps p t (suc u) =
    rw (
      add-suc,
      prices_of-suc steps p (t + u),
      prices_of-suc steps (p + t) u,
      prices_of-add steps p t u,
      add_assoc p t u,
    )
    (omega arith)

-- a run of one price
pub prices_of-flat : (steps : List Step) (cents p t : ℕ)
    → ((i : ℕ) → p ≤ i → i < p + t → price_at steps i ≡ cents) → prices_of steps p t ≡ t * cents
prices_of-flat steps cents p zero each = rw (prices_of-zero steps p) (omega arith)
prices_of-flat steps cents p (suc t) each =
    let before = prices_of-flat steps cents p t (λ i from to. each i from (omega arith)) in
    rw (prices_of-suc steps p t, each (p + t) (omega arith) (omega arith), before) (omega arith)

-- a run that two lists price alike
pub prices_of-same : (steps others : List Step) (p t : ℕ)
    → ((i : ℕ) → p ≤ i → i < p + t → price_at steps i ≡ price_at others i) → prices_of steps p t
    ≡ prices_of others p t
prices_of-same steps others p zero each = prices_of-zero steps p ∙ sym (prices_of-zero others p)
prices_of-same steps others p (suc t) each =
    let before = prices_of-same steps others p t (λ i from to. each i from (omega arith)) in
    rw (
      prices_of-suc steps p t,
      prices_of-suc others p t,
      each (p + t) (omega arith) (omega arith),
      before,
    ) refl

-- where a step with this end stops among the tenths before end
abbrev pub reach_of : Option ℕ → ℕ → ℕ
reach_of ends end = option_map_or (λ e. min e end) ends end

-- a step does not reach past the end
pub reach_of-le : (o : Option ℕ) (end : ℕ) → reach_of o end ≤ end
reach_of-le None end = omega arith
reach_of-le (Some e) end = omega arith

-- a step ends after each tenth that it reaches
pub ends_after-below : (s : Step) (end i : ℕ) (o : Option ℕ) → s.ends ≡ o → i < reach_of o end
    → ends_after i s ≡ true
ends_after-below s end i None is below = ap (λ o. option_map_or (λ e. ltb i e) o true) is
ends_after-below s end i (Some e) is below =
    ap (λ o. option_map_or (λ e. ltb i e) o true) is ∙ grind (arith, nat_tests)

ends_after-above : (s : Step) (end i : ℕ) (o : Option ℕ) → s.ends ≡ o → reach_of o end ≤ i → i < end
    → ends_after i s ≡ false
ends_after-above s end i None is above within = absurd (omega arith)
ends_after-above s end i (Some e) is above within =
    ap (λ o. option_map_or (λ e. ltb i e) o true) is ∙ grind (arith, nat_tests)

-- a tenth before the end of the first step has its price
pub price_at-first : (s : Step) (rest : List Step) (i : ℕ) → ends_after i s ≡ true
    → price_at (s ∷ rest) i ≡ s.price
price_at-first s rest i passes =
    ap (λ b. option_map_or (λ s. s.price) (cond b (Some s) (find (ends_after i) rest)) 0) passes

price_at-later : (s : Step) (rest : List Step) (i : ℕ) → ends_after i s ≡ false
    → price_at (s ∷ rest) i ≡ price_at rest i
price_at-later s rest i fails =
    ap (λ b. option_map_or (λ s. s.price) (cond b (Some s) (find (ends_after i) rest)) 0) fails

-- the tenths from priced on: those of the first step, and the later ones
pub prices_of-cons : (s : Step) (rest : List Step) (priced upper end : ℕ) → priced ≤ end → upper
    ≡ max (reach_of s.ends end) priced → upper ≤ end → prices_of (s ∷ rest) priced (end - priced)
    ≡ (upper - priced) * s.price + prices_of rest upper (end - upper)
prices_of-cons s rest priced upper end within is up =
    let cut : end - priced ≡ (upper - priced) + (end - upper) = omega arith in
    let place : priced + (upper - priced) ≡ upper = omega arith in
    let first = prices_of-flat (s ∷ rest) s.price priced (upper - priced)
    (λ i from to. price_at-first s rest i (ends_after-below s end i s.ends refl (omega arith))) in
    let later = prices_of-same (s ∷ rest) rest upper (end - upper)
    (λ i from to. price_at-later s rest i (ends_after-above s end i s.ends refl (omega arith) (omega arith))) in
    rw (
      cut,
      prices_of-add (s ∷ rest) priced (upper - priced) (end - upper),
      place,
      first,
      later,
    ) refl

-- where there are no steps, the prices of tenths add to nothing
pub prices_of-nil : (p t : ℕ) → prices_of [] p t ≡ 0
prices_of-nil p t = prices_of-flat [] 0 p t (λ i from to. refl) ∙ omega arith

-- of the tenths from prior to end those before priced are in sum, by the steps before place i
pub record IsSummed (steps : List Step) (prior end priced sum i : ℕ) : Type 0 where
  pub from_prior : prior ≤ priced
  pub to_end : priced ≤ end
  pub left : prices_of steps prior (end - prior)
      ≡ sum + prices_of (drop i steps) priced (end - priced)
  pub bound : sum ≤ (priced - prior) * 1000000

-- the tenths that one more step reaches are summed at its price
pub is_summed_more : (steps : List Step) (prior end priced sum i upper : ℕ) (d : Step)
    → i < length steps → upper ≡ max (reach_of (get_or steps i d).ends end) priced
    → (get_or steps i d).price ≤ 1000000 → IsSummed steps prior end priced sum i
    → IsSummed steps prior end upper (sum + (upper - priced) * (get_or steps i d).price) (i + 1)
is_summed_more steps prior end priced sum i upper d there is cheap s =
    let reach = reach_of-le (get_or steps i d).ends end in
    let within : upper ≤ end = omega (arith, s.to_end) in
    let split =
    prices_of-cons (get_or steps i d) (drop (i + 1) steps) priced upper end s.to_end is within in
    let here : prices_of (drop i steps) priced (end - priced)
    ≡ (upper - priced) * (get_or steps i d).price + prices_of (drop (i + 1) steps) upper (end - upper) = rw (drop_more steps i d there) split in
    let dear = mul-le-mul_left (upper - priced) cheap in
    record {
      from_prior = omega (arith, s.from_prior);
      to_end = within;
      left = omega (arith, s.left);
      bound = omega (arith, s.bound, s.from_prior);
    }

-- after all steps the sum is that of the prices of all tenths from prior to end
pub is_summed_end : (steps : List Step) (prior end priced sum i : ℕ) → length steps ≤ i
    → IsSummed steps prior end priced sum i → prices_of steps prior (end - prior) ≡ sum
is_summed_end steps prior end priced sum i all s =
    let none : prices_of (drop i steps) priced (end - priced) ≡ 0 =
    rw (drop_all i steps all) (prices_of-nil priced (end - priced)) in
    let left = s.left in
    omega arith

-- more tenths have prices that add to no less, and cost no less
pub prices_of-rises : (steps : List Step) (p t u : ℕ) → t ≤ u
    → prices_of steps p t ≤ prices_of steps p u
prices_of-rises steps p t u more =
    let cut : u ≡ t + (u - t) = omega arith in
    let two = prices_of-add steps p t (u - t) in
    rw cut (omega arith)

-- more tenths cost no less
pub cost_of-rises : (steps : List Step) (p t u : ℕ) → t ≤ u → cost_of steps p t ≤ cost_of steps p u
cost_of-rises steps p t u more = omega (arith, prices_of-rises steps p t u more)

-- two runs cost what they cost together, or a cent more
pub cost_of-parts : (steps : List Step) (p t u : ℕ)
    → (cost_of steps p t + cost_of steps (p + t) u
    ≡ cost_of steps p (t + u)) ⊎ (cost_of steps p t + cost_of steps (p + t) u
    ≡ cost_of steps p (t + u) + 1)
cost_of-parts steps p t u =
    let two = prices_of-add steps p t u in
    elim (cases_lt (cost_of steps p (t + u)) (cost_of steps p t + cost_of steps (p + t) u)) [
      | inl more ↦ inr (omega arith)
      | inr most ↦ inl (omega arith)
    ]

-- a run of one tenth has the price of that tenth
pub prices_of-one : (steps : List Step) (p : ℕ) → prices_of steps p 1 ≡ price_at steps p
prices_of-one steps p = rw (prices_of-suc steps p 0, prices_of-zero steps p, add-zero) (omega arith)
