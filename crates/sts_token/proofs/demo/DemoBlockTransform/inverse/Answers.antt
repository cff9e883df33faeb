use Rattle.std.proofs.Common.{◌∙◌, ap, arith, length, reverse}
use Rattle.std.specs.List.{fold}
use Rattle.std.proofs.lemmas.List.{take_all}
use Rattle.sts_token.specs.Demo.{before_round, demo_inverse, halves_of, joined, round_keys}
use Rattle.sts_token.proofs.demo.DemoBlockTransform.inverse.Goals as goal

pub returns : goal.returns
unfolding demo_inverse
returns c =
    let all = take_all c.loop-round_key.round_key-index (reverse (round_keys c.args.key))
    (omega (arith, ap length c.round_keys-last_first.ensures, c.reverse.ensures.len)) in
    c.joined.ensures ∙ ap joined
    (c.loop-round_key.invariant ∙ ap (fold before_round (halves_of c.args.block)) all)
