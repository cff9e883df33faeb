use Rattle.std.proofs.Common.{◌≡◌, take}
use Rattle.law_witnesses.specs.Recorded.{bytes_in}
use Rattle.law_witnesses.proofs.recorded.noted.Given as goal

-- the bytes so far
abbrev pub invariant-loop-byte : goal.invariant-loop-byte
invariant-loop-byte l = bytes_in l.noted ≡ take l.byte-index l.bytes
