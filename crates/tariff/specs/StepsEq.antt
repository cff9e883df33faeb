-- `==` at lists of steps, which tells whether they are the same.
use Rattle.std.specs.Prelude.{Bool, List, nat_eq, ◌==◌, ◌&&◌}
use Rattle.std.specs.Cmp.{IsEquivalence, and_equiv, nat_eq_equiv, on_equiv}
use Rattle.std.specs.Cmp.Lexicographic.{lists_equiv, options_equiv, pointwise}
use Rattle.std.specs.Option.{option_eq}
use Rattle.tariff.specs.declared.step.Step.{Step}

-- the steps agree in end and price
abbrev pub step_eq : Step → Step → Bool
step_eq a b = option_eq nat_eq a.ends b.ends && (a.price == b.price)

-- the lists agree step by step
abbrev pub steps_eq : List Step → List Step → Bool
steps_eq = pointwise step_eq

-- the law of `Eq`, which stands here since the proof of a law of a trait may name `specs/` alone
pub steps_eq-equiv : IsEquivalence steps_eq
steps_eq-equiv =
    let ends = on_equiv (λ (s : Step). s.ends) (options_equiv nat_eq_equiv) in
    let prices = on_equiv (λ (s : Step). s.price) nat_eq_equiv in
    lists_equiv (and_equiv ends prices)
