use Rattle.std.proofs.Common.{◌≡◌, take}
use Rattle.std.specs.List.{fold}
use Rattle.sts_token.specs.Demo.{after_round, halves_of, round_keys}
use Rattle.sts_token.proofs.demo.DemoBlockTransform.forward.Given as goal

-- the rounds so far
abbrev pub invariant-loop-round_key : goal.invariant-loop-round_key
invariant-loop-round_key l =
    l.halves ≡ fold after_round (halves_of l.block) (take l.round_key-index (round_keys l.fn.key))
