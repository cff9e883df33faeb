-- The days from which a tariff has other steps, in their order.
use Rattle.std.specs.Prelude.{◌≡◌, ◌<◌, ℕ, List, Option, None, Some, IsSome}
use Rattle.tariff.specs.declared.step.Step.{Step}

-- steps begin on the next day, which is after the day, and none begin between
pub record IsNextBegun (dated : ℕ → Option (List Step)) (day next : ℕ) : Type 0 where
  pub after : day < next
  pub there : IsSome (dated next)
  pub none_between : (other : ℕ) → day < other → other < next → dated other ≡ None

-- the first day after the day on which steps begin, or that none begin after it
abbrev pub IsNextDay : (ℕ → Option (List Step)) → ℕ → Option ℕ → Type 0
IsNextDay dated day None = (later : ℕ) → day < later → dated later ≡ None
IsNextDay dated day (Some next) = IsNextBegun dated day next
