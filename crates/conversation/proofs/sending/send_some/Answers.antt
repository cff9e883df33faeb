use Rattle.std.proofs.Common.{[], arith}
use Rattle.std.proofs.KnownBytes.{Appends-kept, Appends-nil}
use Rattle.conversation.specs.Uses.{failed, moved}
use Rattle.conversation.proofs.UsesLemmas.{interrupted_again, interrupted_none, interrupted_out, last_then, none_stops, none_taken, passed_by, some_go_on, some_taken, whole_then}
use Rattle.conversation.proofs.sending.send_some.Goals as goal

pub writes-init : goal.writes-init
writes-init g c = interrupted_none _ _

pub returns-in-Ok-eq0 : goal.returns-in-Ok-eq0
returns-in-Ok-eq0 g c =
    let told = rw c.in-Ok-eq0.is at c.write.ensures.told in
    let bytes = rw c.in-Ok-eq0.is at c.write.ensures.bytes in
    let last = none_taken _ _ c.args.text.now _ told bytes (none_stops c.in-Ok-eq0.field-0 c.args.text.now c.in-Ok-eq0.field-0-test) in
    rw c.in-Ok-eq0.field-0-test at (last_then _ _ _ _ _ _ c.writes.invariant last)

pub returns-in-Ok : goal.returns-in-Ok
returns-in-Ok g c =
    let taken = c.in-Ok.taken in
    let is = c.in-Ok.ensures in
    let some = c.in-Ok.taken-test.1 in
    let one = some_taken _ _ c.args.text.now (moved _) is.told is.bytes (some_go_on taken c.args.text.now some c.requires) in
    (omega (arith, some), is.bound, whole_then _ _ _ _ _ _ c.writes.invariant one)

pub returns-in-Err-2 : goal.returns-in-Err-2
returns-in-Err-2 g c =
    let is = c.in-Err.ensures in
    let failing = passed_by c.args.text.now c.in-Err.error c.is_interrupted.result c.is_interrupted.ensures in
    let gave = rw c.if-is_interrupted.false at failing in
    let told = rw gave at is.told in
    let none = Appends-kept _ _ _ [] (Appends-nil _) is.bytes in
    last_then _ _ _ _ _ [] c.writes.invariant (none_taken _ _ c.args.text.now failed told none (λ on. on))

pub writes-preserved : goal.writes-preserved
writes-preserved g c =
    let is = c.in-Err.ensures in
    let failing = passed_by c.args.text.now c.in-Err.error c.is_interrupted.result c.is_interrupted.ensures in
    let gave = rw c.if-is_interrupted.true at failing in
    interrupted_again _ _ _ _ _ c.writes.invariant (rw gave at is.told) is.bytes

pub returns : goal.returns
returns g c = interrupted_out _ _ _ _ (omega (arith, c.writes-test.false)) c.writes.invariant
