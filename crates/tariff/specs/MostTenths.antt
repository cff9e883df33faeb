-- How many tenths money pays for: a definition that no public contract cites.
use Rattle.std.specs.Prelude.{ℕ, ◌<◌, ◌≤◌, List}
use Rattle.sts_fields.specs.Amount.{greatest_amount}
use Rattle.tariff.specs.declared.step.Step.{Step}
use Rattle.tariff.specs.Cost.{cost_of}

-- so many cents pay for t tenths, and for no more of those that a token can carry
pub record AreMost (steps : List Step) (prior cents t : ℕ) : Type 0 where
  pub within : t ≤ greatest_amount
  pub covered : cost_of steps prior t ≤ cents
  pub greatest : (u : ℕ) → t < u → u ≤ greatest_amount → cents < cost_of steps prior u
