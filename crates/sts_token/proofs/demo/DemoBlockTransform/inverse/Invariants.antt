use Rattle.std.proofs.Common.{◌≡◌, take, reverse}
use Rattle.std.specs.List.{fold}
use Rattle.sts_token.specs.Demo.{before_round, halves_of, round_keys}
use Rattle.sts_token.proofs.demo.DemoBlockTransform.inverse.Given as goal

-- the rounds undone so far
abbrev pub invariant-loop-round_key : goal.invariant-loop-round_key
invariant-loop-round_key l = l.halves
    ≡ fold before_round (halves_of l.block) (take l.round_key-index (reverse (round_keys l.fn.key)))
