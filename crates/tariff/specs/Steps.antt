-- The steps of a block tariff: which lists of steps a tariff may have.
use Rattle.std.specs.Prelude.{ℕ, ◌-◌, ◌^◌, ◌<◌, ◌≤◌, List, ◌∷◌, length, take, drop, IsSome, IsNone}
use Rattle.std.specs.Prelude.{IfSome, All, filter_map}
use Rattle.std.specs.List.Sorted.{IsStrictlyIncreasing}
use Rattle.tariff.specs.declared.step.Step.{Step}

-- one to eight steps
abbrev pub HasCount : List Step → Type 0
HasCount steps = (1 ≤ length steps) × (length steps ≤ 8)

-- each step but the last has an upper end, and the last has none
abbrev pub HasEnds : List Step → Type 0
HasEnds steps =
    All (λ s. IsSome s.ends) (take (length steps - 1) steps)
    × All (λ s. IsNone s.ends) (drop (length steps - 1) steps)

-- an upper end is a number of 32 bits
abbrev pub EndFits : Step → Type 0
EndFits s = IfSome s.ends (λ e. e < 2 ^ 32)

-- the upper ends, in order
abbrev pub ends_of : List Step → List ℕ
ends_of steps = filter_map (λ s. s.ends) steps

-- the first end is greater than 0, and each other end than the one before it
abbrev pub IsRising : List Step → Type 0
IsRising steps = IsStrictlyIncreasing (0 ∷ ends_of steps)

-- a price of 1 to 1000000 whole cents per kWh
abbrev pub HasPrice : Step → Type 0
HasPrice s = (1 ≤ s.price) × (s.price ≤ 1000000)

-- the steps that a tariff may have
pub record IsSteps (steps : List Step) : Type 0 where
  pub count : HasCount steps
  pub ends : HasEnds steps
  pub ends_fit : All EndFits steps
  pub rising : IsRising steps
  pub prices : All HasPrice steps
