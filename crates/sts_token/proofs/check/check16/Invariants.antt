use Rattle.std.proofs.Common.{◌≡◌, take}
use Rattle.std.specs.List.{flat_map, fold}
use Rattle.sts_token.specs.Check.{bits_of, check_step}
use Rattle.sts_token.proofs.check.check16.Given as goal

-- the check over the bytes so far
abbrev pub invariant-loop-byte : goal.invariant-loop-byte
invariant-loop-byte l =
    (l.check ≡ fold check_step 0xFFFF (flat_map bits_of (take l.byte-index l.bytes)))
