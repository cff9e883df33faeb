-- Steps at their places, which count from 0.
use Rattle.std.specs.Prelude.{◌≡◌, ◌⊎◌, ◌≤◌, ℕ, List, Some, length, slice_get}
use Rattle.tariff.specs.Steps.{IsSteps}
use Rattle.tariff.specs.declared.step.Step.{Step}
use Rattle.audit_lists.specs.Keys.{HasKey, Key}

-- the key of a place, beside one of the same tariff and day
abbrev pub at_place : Key → ℕ → Key
at_place q place = (q.0, q.1, q.2, place)

-- one of the rows has the key and the step
abbrev pub HasStepAt : {T : Type 0} → (T → Step) → (T → Key) → List T → Key → Step → Type 0
HasStepAt {T} step key rows q s =
    (i : ℕ) × (row : T) × (slice_get rows i ≡ Some row) × (key row ≡ q) × (step row ≡ s)

-- more steps than a tariff may have
abbrev pub IsLong : List Step → Type 0
IsLong steps = 9 ≤ length steps

-- the steps at the first places, up to one that has none, and nine at the most
pub record AreFirstUnder {T : Type 0} (step : T → Step) (key : T → Key) (rows : List T) (q : Key)
    (steps : List Step) : Type 0 where
  pub there : (place : ℕ) (s : Step) → slice_get steps place ≡ Some s
      → HasStepAt step key rows (at_place q place) s
  pub ended : IsLong steps ⊎ ¬ HasKey key rows (at_place q (length steps))

-- they are steps that a tariff may have
pub record AreSteps {T : Type 0} (step : T → Step) (key : T → Key) (rows : List T) (q : Key)
    : Type 0 where
  pub steps : List Step
  pub first : AreFirstUnder step key rows q steps
  pub priced : IsSteps steps
