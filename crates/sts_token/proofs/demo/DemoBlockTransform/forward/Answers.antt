use Rattle.std.proofs.Common.{◌∙◌, ap, arith, length}
use Rattle.std.specs.List.{fold}
use Rattle.std.proofs.lemmas.List.{take_all}
use Rattle.sts_token.specs.Demo.{after_round, demo_forward, halves_of, joined, round_keys}
use Rattle.sts_token.proofs.demo.DemoBlockTransform.forward.Goals as goal

pub returns : goal.returns
unfolding demo_forward
returns c =
    let all = take_all c.loop-round_key.round_key-index (round_keys c.args.key) (omega (arith, ap length c.round_keys-round_key-items.ensures)) in
    c.joined.ensures ∙ ap joined
    (c.loop-round_key.invariant ∙ ap (fold after_round (halves_of c.args.block)) all)
