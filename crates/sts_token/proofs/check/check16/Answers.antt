use Rattle.std.proofs.Common.{ℕ, List, ap, ◌∙◌, arith}
use Rattle.std.specs.List.{flat_map, fold}
use Rattle.std.proofs.lemmas.List.{take_all}
use Rattle.sts_token.specs.Check.{bits_of, check_of, check_step}
use Rattle.sts_token.proofs.check.check16.Goals as goal

pub returns : goal.returns
unfolding check_of
returns c =
    c.loop-byte.invariant
    ∙ ap (λ (bytes : List ℕ). fold check_step 0xFFFF (flat_map bits_of bytes))
    (take_all c.loop-byte.byte-index c.args.bytes.now (omega arith))
