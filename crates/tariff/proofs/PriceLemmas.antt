-- Each tenth lies in a step of a tariff, and has its price.
use Rattle.std.proofs.Common.{◌≡◌, ℕ, suc, ◌-◌, ◌≤◌, Bool, true, false, cond, List, [], ◌∷◌, Option, Some, None, length, drop, ltb, sym, refl, subst, arith}
use Rattle.std.specs.Prelude.{All, IsNone, IsSomeAnd}
use Rattle.std.specs.Option.{option_map_or}
use Rattle.std.proofs.lemmas.List.Elements.{All-head, All-tail}
use Rattle.tariff.specs.declared.step.Step.{Step}
use Rattle.tariff.specs.Cost.{cost_of, ends_after, price_at, step_of}
use Rattle.tariff.specs.Steps.{HasPrice, IsSteps}
use Rattle.tariff.proofs.CostLemmas.{prices_of-rises, prices_of-one}

-- a step without an end ends after each tenth
endless : (i : ℕ) (o : Option ℕ) → IsNone o → option_map_or (λ e. ltb i e) o true ≡ true
endless i None none = refl
endless i (Some e) none = cc

finds_first : (s : Step) (rest : List Step) (i : ℕ) → ends_after i s ≡ true → HasPrice s
    → IsSomeAnd (step_of (s ∷ rest) i) HasPrice
finds_first s rest i ends priced =
    subst (λ (b : Bool). IsSomeAnd (cond b (Some s) (step_of rest i)) HasPrice) (sym ends) priced

finds_next : (s : Step) (rest : List Step) (i : ℕ) (b : Bool) → ends_after i s ≡ b → HasPrice s
    → IsSomeAnd (step_of rest i) HasPrice → IsSomeAnd (step_of (s ∷ rest) i) HasPrice
finds_next s rest i true ends priced later = finds_first s rest i ends priced
finds_next s rest i false ends priced later =
    subst (λ (b : Bool). IsSomeAnd (cond b (Some s) (step_of rest i)) HasPrice) (sym ends) later

finds : (steps : List Step) (i : ℕ) → 1 ≤ length steps
    → All (λ s. IsNone s.ends) (drop (length steps - 1) steps) → All HasPrice steps
    → IsSomeAnd (step_of steps i) HasPrice
finds [] i some last priced = absurd (omega arith)
finds (s ∷ []) i some last priced =
    finds_first s [] i (endless i s.ends (last 0 s (omega arith))) (All-head HasPrice s [] priced)
finds (s ∷ t ∷ more) i some last priced =
    let next : length (s ∷ t ∷ more) - 1 ≡ suc (length (t ∷ more) - 1) = omega arith in
    let last_left : All (λ s. IsNone s.ends) (drop (length (t ∷ more) - 1) (t ∷ more)) =
    subst (λ (n : ℕ). All (λ s. IsNone s.ends) (drop n (s ∷ t ∷ more))) next last in
    finds_next s (t ∷ more) i (ends_after i s) refl (All-head HasPrice s (t ∷ more) priced)
    (finds (t ∷ more) i (omega arith) last_left (All-tail HasPrice s (t ∷ more) priced))

-- each tenth lies in a step of the tariff, which has a price
pub in_a_step : (steps : List Step) (i : ℕ) → IsSteps steps → IsSomeAnd (step_of steps i) HasPrice
in_a_step steps i s = finds steps i s.count.0 s.ends.1 s.prices

price_from_step : (o : Option Step) → IsSomeAnd o HasPrice → 1 ≤ option_map_or (λ s. s.price) o 0
price_from_step None found = absurd found
price_from_step (Some s) found = found.0

-- a tenth or more costs at least a cent
pub never_free : (steps : List Step) (prior t : ℕ) → IsSteps steps → 1 ≤ t
    → 1 ≤ cost_of steps prior t
never_free steps prior t s some =
    let first : 1 ≤ price_at steps prior =
    price_from_step (step_of steps prior) (in_a_step steps prior s) in
    omega (arith, prices_of-one steps prior, prices_of-rises steps prior 1 t some)
