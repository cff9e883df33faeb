use Rattle.std.proofs.Common.{◌≡◌, ℕ, ◌/◌, ◌<◌, ◌^◌, ap, ◌∙◌, arith, rules, Ok}
use Rattle.std.proofs.lemmas.Nat.{and_mask}
use Rattle.sts_token.specs.Reading.{class_of}
use Rattle.sts_token.proofs.DecimalLemmas.{masked_number, numbered_block}
use Rattle.sts_token.proofs.NumberLemmas.{block_numbered-lt}
use Rattle.sts_token.proofs.reading.block_with_number.Goals as goal

pub overflow_cast-result : goal.overflow_cast-result
overflow_cast-result c =
    let small : c.args.number < 2 ^ 66 = omega arith in
    let bits = block_numbered-lt c.args.number small in
    rw (masked_number c.args.number small) (search rules)

pub returns : goal.returns
returns c =
    let small : c.args.number < 2 ^ 66 = omega arith in
    let class_zero : class_of c.args.number ≡ 0 =
    omega (arith, and_mask (c.args.number / 2 ^ 27) 2) in
    ap (λ (n : ℕ). Ok n) (masked_number c.args.number small)
    ∙ numbered_block c.args.number small class_zero
