-- The two ways of a transform, by what its trait says of it.
use Rattle.std.proofs.Common.{◌≡◌, ℕ, ◌<◌, ◌^◌}
use Rattle.sts_token.specs.Token.{BlockFunction}
use Rattle.sts_token.specs.Transform.{IsTransform}

-- what the trait says of one transform is what the laws ask of it
pub both_ways : {T : Type 0} (forwards inverses : T → BlockFunction) (t : T)
    → ((t : T) (key block : ℕ) → key < 2 ^ 64 → block < 2 ^ 64 → forwards t key block < 2 ^ 64)
    → ((t : T) (key block : ℕ) → key < 2 ^ 64 → block < 2 ^ 64 → inverses t key block < 2 ^ 64)
    → ((t : T) (key block : ℕ) → key < 2 ^ 64 → block < 2 ^ 64 → inverses t key (forwards t key block) ≡ block)
    → ((t : T) (key block : ℕ) → key < 2 ^ 64 → block < 2 ^ 64 → forwards t key (inverses t key block) ≡ block)
    → IsTransform (forwards t) (inverses t)
both_ways forwards inverses t a b c d = record {
  forward_range = a t;
  inverse_range = b t;
  inverse_undoes = c t;
  forward_undoes = d t;
}
