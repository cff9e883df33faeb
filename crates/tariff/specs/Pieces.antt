-- What a text of steps is cut into: definitions that no public contract cites.
use Rattle.std.specs.Prelude.{◌≡◌, ℕ, ◌<◌, List, length, min, take, ◌⊎◌, slice_index}
use Rattle.sts_fields.specs.Text.{Text}
use Rattle.tariff.specs.declared.step.Step.{Step}

-- first begins with the first eight of the steps, and n is how many there are, up to nine
pub record AreFirst (steps first : List Step) (n : ℕ) : Type 0 where
  pub count : n ≡ min (length steps) 9
  pub begins : take (min n 8) first ≡ take 8 steps

-- a plus stands first, or a zero before other digits
abbrev pub HasLead : Text → Type 0
HasLead digits = (slice_index digits 0 ≡ 43) ⊎ ((slice_index digits 0 ≡ 48) × (1 < length digits))
