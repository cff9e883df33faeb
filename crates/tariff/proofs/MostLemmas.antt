-- How many tenths money pays for: the steps are paid in turn, while the money lasts.
use Rattle.std.proofs.Common.{◌≡◌, ℕ, ◌+◌, ◌-◌, ◌*◌, ◌/◌, ◌<◌, ◌≤◌, inl, inr, List, Option, Some, None, ◌∷◌, length, get_or, drop, max, refl, arith}
use Rattle.std.proofs.Math.Nat.{div-mul-le_self, le-div_iff_mul-le}
use Rattle.sts_fields.specs.Amount.{greatest_amount}
use Rattle.std.proofs.lemmas.Bool.{cases_lt}
use Rattle.std.proofs.lemmas.List.{drop_more, drop_all}
use Rattle.tariff.specs.declared.step.Step.{Step}
use Rattle.tariff.specs.Cost.{prices_of}
use Rattle.tariff.specs.MostTenths.{AreMost}
use Rattle.tariff.proofs.CostLemmas.{cost_of-rises, ends_after-below, price_at-first, prices_of-cons, prices_of-flat, prices_of-nil, reach_of, reach_of-le}

-- of a budget, in tenths of a cent, the tenths from prior to paid took all but what is left, by the
-- steps before place i
pub record ArePaid (steps : List Step) (prior budget end paid left i : ℕ) : Type 0 where
  pub from_prior : prior ≤ paid
  pub to_end : paid ≤ end
  pub spent : (u : ℕ) → paid ≤ u → u ≤ end
      → prices_of steps prior (u - prior) + left ≡ budget + prices_of (drop i steps) paid (u - paid)

-- where a step stops among fewer tenths, if it stops before their end
reach_of-earlier : (o : Option ℕ) (end paid upper u : ℕ) → upper ≡ max (reach_of o end) paid
    → upper ≤ u → u ≤ end → upper ≡ max (reach_of o u) paid
reach_of-earlier None end paid upper u is below to = omega arith
reach_of-earlier (Some e) end paid upper u is below to = omega arith

-- a step that is paid whole
pub are_paid_more : (steps : List Step) (prior budget end paid left i upper : ℕ) (d : Step)
    → i < length steps → upper ≡ max (reach_of (get_or steps i d).ends end) paid
    → (upper - paid) * (get_or steps i d).price ≤ left
    → ArePaid steps prior budget end paid left i
    → ArePaid steps prior budget end upper (left - (upper - paid) * (get_or steps i d).price) (i + 1)
are_paid_more steps prior budget end paid left i upper d there is enough p =
    let reach = reach_of-le (get_or steps i d).ends end in
    let to_end = p.to_end in
    record {
      from_prior = omega (arith, p.from_prior);
      to_end = omega arith;
      spent = λ u from to.
          let before = p.spent u (omega arith) to in
          let up = reach_of-earlier (get_or steps i d).ends end paid upper u is from to in
          let split = prices_of-cons (get_or steps i d) (drop (i + 1) steps) paid upper u (omega arith) up from in
          let here : prices_of (drop i steps) paid (u - paid)
          ≡ (upper - paid) * (get_or steps i d).price + prices_of (drop (i + 1) steps) upper (u - upper) = rw (drop_more steps i d there) split in
          omega arith;
    }

-- tenths of one step
prices_of-within : (s : Step) (rest : List Step) (paid upper end k : ℕ) → upper
    ≡ max (reach_of s.ends end) paid → k ≤ upper - paid → prices_of (s ∷ rest) paid k ≡ k * s.price
prices_of-within s rest paid upper end k is within =
    prices_of-flat (s ∷ rest) s.price paid k
    (λ i from to. price_at-first s rest i (ends_after-below s end i s.ends refl (omega arith)))

-- a step that is paid in part: for the next tenth the money does not last
pub are_most_here : (steps : List Step) (prior cents end paid left i upper k : ℕ) (d : Step) → end
    ≡ prior + greatest_amount → i < length steps
    → upper ≡ max (reach_of (get_or steps i d).ends end) paid → k < upper - paid
    → k * (get_or steps i d).price ≤ left → left < (k + 1) * (get_or steps i d).price
    → ArePaid steps prior (cents * 10) end paid left i → AreMost steps prior cents (paid - prior + k)
are_most_here steps prior cents end paid left i upper k d to there is part enough dear p =
    let reach = reach_of-le (get_or steps i d).ends end in
    let from_prior = p.from_prior in
    let to_end = p.to_end in
    let run : (j : ℕ) → j ≤ upper - paid → prices_of steps prior (paid - prior + j) + left ≡ cents * 10 + j * (get_or steps i d).price = λ j within.
    let at : paid + j - prior ≡ paid - prior + j = omega arith in
    let more : paid + j - paid ≡ j = omega arith in
    let flat : prices_of (drop i steps) paid j ≡ j * (get_or steps i d).price =
    rw (drop_more steps i d there) (prices_of-within (get_or steps i d) (drop (i + 1) steps) paid upper end j is within) in
    rw (at, more, flat) at (p.spent (paid + j) (omega arith) (omega arith)) in
    let here = run k (omega arith) in
    let next = run (k + 1) (omega arith) in
    record {
      within = omega arith;
      covered = omega arith;
      greatest =
          λ u above fits. omega (arith, cost_of-rises steps prior (paid - prior + (k + 1)) u (omega arith));
    }

-- all steps are paid, so the money pays for more than a token can carry
pub are_most_end : (steps : List Step) (prior cents end paid left i : ℕ) → end
    ≡ prior + greatest_amount → length steps ≤ i
    → ArePaid steps prior (cents * 10) end paid left i → AreMost steps prior cents greatest_amount
are_most_end steps prior cents end paid left i to all p =
    let at = p.spent end p.to_end (omega arith) in
    let run : end - prior ≡ greatest_amount = omega arith in
    let none : prices_of (drop i steps) paid (end - paid) ≡ 0 =
    rw (drop_all i steps all) (prices_of-nil paid (end - paid)) in
    let sum : prices_of steps prior greatest_amount + left ≡ cents * 10 + 0 = rw (run, none) at at in
    record {
      within = omega arith;
      covered = omega arith;
      greatest = λ u above fits. absurd (omega arith);
    }

-- what a quotient says of a step that is paid whole, and of one that is paid in part
pub paid_whole : (run price left : ℕ) → 1 ≤ price → run ≤ left / price → run * price ≤ left
paid_whole run price left some within = (le-div_iff_mul-le (omega arith)).0 within

-- the quotient is the most tenths of a step that the money left pays for
pub paid_in_part : (price left : ℕ) → 1 ≤ price
    → (left / price * price ≤ left) × (left < (left / price + 1) * price)
paid_in_part price left some = (
  div-mul-le_self left price,
  elim (cases_lt left ((left / price + 1) * price)) [
    | inl less ↦ less
    | inr most ↦
        let more : left / price + 1 ≤ left / price = (le-div_iff_mul-le (omega arith)).1 most in
        absurd (omega arith)
  ],
)
