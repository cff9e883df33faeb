-- A buffer that bytes are read into.
use Rattle.std.proofs.Common.{◌≡◌, ◌∙◌, ℕ, ◌+◌, List, ◌++◌, length, take, drop, ap, arith}
use Rattle.std.proofs.lemmas.List.{take_all}
use Rattle.std.proofs.Math.Seq.{take-add, take-append_seam}

module _ (old mid after zeros : List ℕ) (filled room : ℕ) (long : filled ≡ length old) (made : mid ≡ take (filled + room) old ++ zeros)
    (front : take filled after ≡ take filled mid) where
  -- where nothing was read, the old bytes alone
  pub read_none : take filled after ≡ old
  read_none =
      let whole : take (filled + room) old ≡ old = take_all (filled + room) old (omega arith) in
      front ∙ ap (take filled) (made ∙ ap (λ bytes. bytes ++ zeros) whole) ∙ ap (λ k. take k (old ++ zeros)) long ∙ take-append_seam old zeros

  -- what was read behind the old bytes, into room that was made for it
  pub read_behind : (count : ℕ) → take (filled + count) after ≡ old ++ take count (drop filled after)
  read_behind count = take-add filled count after ∙ ap (λ bytes. bytes ++ take count (drop filled after)) read_none
