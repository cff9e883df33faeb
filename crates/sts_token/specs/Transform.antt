-- What a block transform keeps: blocks of 64 bits, each of its two ways undoing the other.
use Rattle.std.specs.Prelude.{◌≡◌, ℕ, ◌<◌, ◌^◌}
use Rattle.sts_token.specs.Token.{KeepsRange, BlockFunction}

-- what one way made of a block, the other way makes that block of again
abbrev pub Undoes : BlockFunction → BlockFunction → Type 0
Undoes back there = (key block : ℕ) → key < 2 ^ 64 → block < 2 ^ 64
    → back key (there key block) ≡ block

-- the two ways of a transform
pub record IsTransform (forward inverse : BlockFunction) : Type 0 where
  pub forward_range : KeepsRange forward
  pub inverse_range : KeepsRange inverse
  pub inverse_undoes : Undoes inverse forward
  pub forward_undoes : Undoes forward inverse
