use Rattle.std.proofs.Common.{◌≡◌, ◌≤◌, take}
use Rattle.std.specs.Str.Parse.{digits_value}
use Rattle.conversation.specs.message.Framing.{longest_body}
use Rattle.conversation.proofs.message.framing.length_of.Given as goal

-- the number that the digits so far write, which is no longer than a body may be
abbrev pub invariant-loop-digit : goal.invariant-loop-digit
invariant-loop-digit l =
    (l.length ≡ digits_value 10 (take l.digit-index l.value)) × (l.length ≤ longest_body)
