use Rattle.std.proofs.Common.{◌≡◌, ◌+◌, true, arith}
use Rattle.conversation.specs.message.Framing.{is_number}
use Rattle.conversation.proofs.FramingLemmas.{number_more, too_long}
use Rattle.conversation.proofs.message.framing.length_of.Goals as goal

pub returns-then-length-gt-MAX_BODY : goal.returns-then-length-gt-MAX_BODY
returns-then-length-gt-MAX_BODY c =
    let value = c.args.value.now in
    let i = c.loop-digit.digit-index in
    let number : is_number value ≡ true = cc in
    let more = number_more value i c.loop-digit.length number c.loop-digit-test.true c.loop-digit.invariant.0 in
    too_long value (i + 1) _ number (rw c.from.ensures more) c.if-length-gt-MAX_BODY.true

pub loop-digit-preserved : goal.loop-digit-preserved
loop-digit-preserved c =
    let value = c.args.value.now in
    let i = c.loop-digit.digit-index in
    let number : is_number value ≡ true = cc in
    let more = number_more value i c.loop-digit.length number c.loop-digit-test.true c.loop-digit.invariant.0 in
    (rw c.from.ensures more, omega arith)
