-- `==` at steps tells whether they are the same.
use Rattle.std.proofs.Common.{◌≡◌, rules}
use Rattle.std.specs.Bool.{Decides}
use Rattle.tariff.specs.declared.step.Step.{Step}
use Rattle.tariff.specs.StepsEq.{step_eq}

-- two steps are the same exactly where their ends and their prices are equal
pub step_eq-Decides : (a b : Step) → Decides (step_eq a b) (a ≡ b)
step_eq-Decides a b = search rules
