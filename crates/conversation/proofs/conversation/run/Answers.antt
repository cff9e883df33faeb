use Rattle.std.proofs.Common.{◌≡◌, ◌∙◌, Ok, Err, [], inr, refl, ap, sym, subst, append-nil, arith}
use Rattle.conversation.specs.Conversation.{interim_for}
use Rattle.conversation.specs.Exchanges.{clocked, timed}
use Rattle.conversation.specs.message.Messages.{IsTold}
use Rattle.conversation.specs.Wants.{IsAwaited, told_of}
use Rattle.conversation.specs.declared.end.End.TheVariants.{ReadFault}
use Rattle.conversation.proofs.EndLemmas.{bytes_after, bytes_here_after, run_early, run_here}
use Rattle.conversation.proofs.InterimLemmas.{IsTold-append, awaited_told}
use Rattle.conversation.proofs.ProgressLemmas.{progress_none}
use Rattle.conversation.proofs.RunLemmas.{after_read, awaited_fits, awaits_nothing, bytes_of, failed_run, interrupted_read, may_want, over_end, paced, paced_after, paced_read, read_run, used_none, went_on}
use Rattle.conversation.proofs.UsesLemmas.{whole_none}
use Rattle.conversation.proofs.WiderLemmas.{clocked_wider, replies_wider}
use Rattle.conversation.proofs.conversation.run.Goals as goal

pub reads-init : goal.reads-init
reads-init g c =
    let none : [] ≡ c.new-unanswered.result.bytes.items = sym c.new-unanswered.ensures.bytes in
    record {
      uses = [];
      stays = λ given gives. gives;
      used = used_none (clocked (g.C.Clock.reads c.args.clock.now) g.S.Service.step) g.S.Service.refusal _ _ _ _;
      still_open = tt;
      answered = rw (← none) (record {
        whole = [];
        progress = progress_none (timed (clocked (g.C.Clock.reads c.args.clock.now) g.S.Service.step)) [] _;
        awaited = awaits_nothing;
        said = refl;
      });
      counted = refl;
      window = c.new-unanswered.ensures.window;
    }

pub read_more-requires-clause-room : goal.read_more-requires-clause-room
read_more-requires-clause-room g c =
    omega (arith, awaited_fits c.reads.unanswered.bytes.items c.reads.wants c.reads.invariant.answered.awaited, c.count.ensures, c.reads.unanswered.bytes.ok.0)

pub answer_all-requires : goal.answer_all-requires
answer_all-requires g c =
    let rest = c.reads.unanswered.bytes.items in
    let read = rw c.in-Ok-Some.field-0-is at c.in-Ok-Some.ensures.read in
    let was : IsTold rest c.told.result =
    subst (IsTold rest) (sym c.told.ensures) (awaited_told rest c.reads.wants c.reads.invariant.answered.awaited) in
    subst (λ input. IsTold input c.told.result) (sym (c.as_slice-in-reads.ensures ∙ read.2)) (IsTold-append rest read.0 c.told.result was)

pub returns-in-Ok-Some-eq0-clause-run : goal.returns-in-Ok-Some-eq0-clause-run
returns-in-Ok-Some-eq0-clause-run g c =
    let step = clocked (g.C.Clock.reads c.args.clock.now) g.S.Service.step in
    let refusal = g.S.Service.refusal in
    let inv = c.reads.invariant in
    let read = rw c.in-Ok-Some-eq0.field-0-is at c.in-Ok-Some-eq0.ensures.read in
    let rest = c.read_more.new.self.bytes.items in
    let now = after_read step _ _ _ _ _ _ c.reads.unanswered.bytes.items rest read.0 _ inv.used.paced.reads inv.answered.progress read.3 read.2 in
    let over = rw c.as_slice.ensures at c.finish.ensures in
    run_here step refusal _ _ _ _ _ _ _ c.finish.result now.0 (read.4 c.in-Ok-Some-eq0.field-0-0-test)
    (bytes_here_after step refusal _ _ _ _ _ _ _ rest _ inv.answered.whole (interim_for (told_of c.reads.wants)) c.finish.result
    inv.used.paced.writes now.1 inv.answered.said
    (bytes_of c.finish.result _ _ _ _ (over_end step refusal (told_of c.reads.wants) _ _ _ rest c.finish.result over)))

pub returns-in-Ok-Some-eq0-clause-paced : goal.returns-in-Ok-Some-eq0-clause-paced
returns-in-Ok-Some-eq0-clause-paced g c =
    let step = clocked (g.C.Clock.reads c.args.clock.now) g.S.Service.step in
    let inv = c.reads.invariant in
    let over = rw c.as_slice.ensures at c.finish.ensures in
    let said = over_end step g.S.Service.refusal (told_of c.reads.wants) (c.reads.office, g.C.Clock.answers c.reads.clock) _ _ _ c.finish.result over in
    paced_after step g.S.Service.refusal _ _ _ _ _ _ _ _ _ _ inv.uses c.reads.unanswered.bytes.items _ c.reads.wants _ c.in-Ok-Some-eq0.field-0-0 (may_want c.count.result c.reads.unanswered.window c.reads.wants inv.uses c.count.ensures inv.window)
    inv.used inv.still_open inv.answered (rw c.in-Ok-Some-eq0.field-0-is at c.in-Ok-Some-eq0.ensures.read) c.finish.result _ _ said.0 said.1

pub returns-in-Err-clause-run : goal.returns-in-Err-clause-run
returns-in-Err-clause-run g c =
    let inv = c.reads.invariant in
    read_run (clocked (g.C.Clock.reads c.args.clock.now) g.S.Service.step) g.S.Service.refusal _ _ _ _ _ _ _ _ _ _ _
    c.reads.unanswered.bytes.items _ _ c.reads.wants c.in-Err.end
    inv.used.paced.reads c.in-Err.ensures.read inv.used.paced.writes inv.answered

pub returns-in-Err-clause-paced : goal.returns-in-Err-clause-paced
returns-in-Err-clause-paced g c =
    let inv = c.reads.invariant in
    paced_read (clocked (g.C.Clock.reads c.args.clock.now) g.S.Service.step) g.S.Service.refusal _ _ _ _ _ _ _ _ _ _ inv.uses c.reads.unanswered.bytes.items _
    c.reads.wants _ c.in-Err.end (may_want c.count.result c.reads.unanswered.window c.reads.wants inv.uses c.count.ensures inv.window)
    inv.used inv.still_open inv.answered c.in-Err.ensures.read

pub returns-in-Err-answer_all-clause-run : goal.returns-in-Err-answer_all-clause-run
returns-in-Err-answer_all-clause-run g c =
    let step = clocked (g.C.Clock.reads c.args.clock.now) g.S.Service.step in
    let refusal = g.S.Service.refusal in
    let inv = c.reads.invariant in
    let read = rw c.in-Ok-Some.field-0-is at c.in-Ok-Some.ensures.read in
    let rest = c.read_more.new.self.bytes.items in
    let now = after_read step _ _ _ _ _ _ c.reads.unanswered.bytes.items rest read.0 _ inv.used.paced.reads inv.answered.progress read.3 read.2 in
    let one = g.S.Service.step in
    let reads = g.C.Clock.reads in
    let wider = clocked_wider one (reads c.reads.clock) (reads c.args.clock.now) inv.stays in
    let written = replies_wider (clocked (reads c.reads.clock) one) step wider g.S.Service.refusal _ _ _ _ _ _ (Err c.in-Err-answer_all.end)
    c.in-Err-answer_all.ensures.written in
    let ends = rw c.told.ensures at (rw c.as_slice-in-reads.ensures at written) in
    run_early step refusal _ _ _ _ _ _ _ c.in-Err-answer_all.end now.0
    (bytes_after step refusal _ _ _ _ _ _ _ rest _ inv.answered.whole (interim_for (told_of c.reads.wants)) c.in-Err-answer_all.end
    inv.used.paced.writes now.1 inv.answered.said (bytes_of c.in-Err-answer_all.end _ _ _ _ ends))

pub returns-in-Err-answer_all-clause-paced : goal.returns-in-Err-answer_all-clause-paced
returns-in-Err-answer_all-clause-paced g c =
    let step = clocked (g.C.Clock.reads c.args.clock.now) g.S.Service.step in
    let inv = c.reads.invariant in
    let one = g.S.Service.step in
    let reads = g.C.Clock.reads in
    let wider = clocked_wider one (reads c.reads.clock) (reads c.args.clock.now) inv.stays in
    let written = replies_wider (clocked (reads c.reads.clock) one) step wider g.S.Service.refusal _ _ _ _ _ _ (Err c.in-Err-answer_all.end)
    c.in-Err-answer_all.ensures.written in
    let ends = rw c.told.ensures at (rw c.as_slice-in-reads.ensures at written) in
    paced_after step g.S.Service.refusal _ _ _ _ _ _ _ _ _ _ inv.uses c.reads.unanswered.bytes.items _ c.reads.wants _ c.in-Ok-Some.count (may_want c.count.result c.reads.unanswered.window c.reads.wants inv.uses c.count.ensures inv.window)
    inv.used inv.still_open inv.answered (rw c.in-Ok-Some.field-0-is at c.in-Ok-Some.ensures.read) c.in-Err-answer_all.end _ _ ends.0 ends.1

pub reads-preserved : goal.reads-preserved
reads-preserved g c =
    let step = clocked (g.C.Clock.reads c.args.clock.now) g.S.Service.step in
    let inv = c.reads.invariant in
    let one = g.S.Service.step in
    let reads = g.C.Clock.reads in
    let wider = clocked_wider one (reads c.reads.clock) (reads c.args.clock.now) inv.stays in
    let written = replies_wider (clocked (reads c.reads.clock) one) step wider g.S.Service.refusal _ _ _ _ _ _ (Ok c.in-Ok.awaiting) c.in-Ok.ensures.written in
    let more = rw c.told.ensures at (rw c.as_slice-in-reads.ensures at written) in
    let on = went_on step g.S.Service.refusal _ _ _ _ _ _ _ _ _ _ inv.uses c.reads.unanswered.bytes.items _ c.reads.wants _ c.in-Ok-Some.count (may_want c.count.result c.reads.unanswered.window c.reads.wants inv.uses c.count.ensures inv.window)
    inv.used inv.still_open inv.answered (rw c.in-Ok-Some.field-0-is at c.in-Ok-Some.ensures.read) _ _ more.0 more.1 _ _ _
    c.in-Ok.awaiting.wants c.drop_front.ensures.bytes c.in-Ok-Some.count-test.1 more.2 more.4 more.5 more.6 in
    record {
      uses = on.0;
      stays = λ given gives. inv.stays given (c.in-Ok.ensures.stays given gives);
      used = on.1;
      still_open = on.2;
      answered = on.3;
      counted = omega (arith, inv.counted, on.4);
      window = c.drop_front.ensures.window ∙ (rw c.in-Ok-Some.field-0-is at c.in-Ok-Some.ensures.window) ∙ sym on.5;
    }

pub reads-preserved-in-Some : goal.reads-preserved-in-Some
reads-preserved-in-Some g c =
    let step = clocked (g.C.Clock.reads c.args.clock.now) g.S.Service.step in
    let inv = c.reads.invariant in
    let read = rw c.in-Ok-Some.field-0-is at c.in-Ok-Some.ensures.read in
    let stays = c.in-Some.ensures.stays c.reads.unanswered.bytes.items read.0 inv.answered.awaited read.1 in
    let on = went_on step g.S.Service.refusal _ _ _ _ _ _ _ _ _ _ inv.uses c.reads.unanswered.bytes.items _ c.reads.wants _ c.in-Ok-Some.count (may_want c.count.result c.reads.unanswered.window c.reads.wants inv.uses c.count.ensures inv.window)
    inv.used inv.still_open inv.answered read _ _ [] [] _ _ _ c.in-Some.left refl c.in-Ok-Some.count-test.1 (whole_none _)
    (progress_none (timed step) c.read_more.new.self.bytes.items _) (subst (λ rest. IsAwaited rest c.in-Some.left) (sym read.2) stays)
    (append-nil (interim_for (told_of c.reads.wants)) ∙ ap interim_for (sym c.in-Some.ensures.told)) in
    record {
      uses = on.0;
      stays = inv.stays;
      used = on.1;
      still_open = on.2;
      answered = on.3;
      counted = omega (arith, inv.counted, on.4);
      window = (rw c.in-Ok-Some.field-0-is at c.in-Ok-Some.ensures.window) ∙ sym on.5;
    }

pub returns-clause-run : goal.returns-clause-run
returns-clause-run g c =
    let inv = c.reads.invariant in
    failed_run (clocked (g.C.Clock.reads c.args.clock.now) g.S.Service.step) g.S.Service.refusal _ _ _ _ _ _ _
    c.reads.unanswered.bytes.items _ c.reads.wants inv.used.paced.reads
    inv.used.paced.writes inv.answered

pub returns-clause-paced : goal.returns-clause-paced
returns-clause-paced g c =
    let inv = c.reads.invariant in
    paced (clocked (g.C.Clock.reads c.args.clock.now) g.S.Service.step) g.S.Service.refusal _ _ _ _ _ _ _ ReadFault inv.uses inv.used
    (inr (inv.still_open, omega (arith, inv.counted)))

pub reads-preserved-in-Ok-None : goal.reads-preserved-in-Ok-None
reads-preserved-in-Ok-None g c =
    let inv = c.reads.invariant in
    let read = rw c.in-Ok-None.field-0-is at c.in-Ok-None.ensures.read in
    let on = interrupted_read (clocked (g.C.Clock.reads c.args.clock.now) g.S.Service.step) g.S.Service.refusal _ _ _ _ _ _ _ _ _ _ inv.uses
    c.reads.unanswered.bytes.items _ c.reads.wants _ (may_want c.count.result c.reads.unanswered.window c.reads.wants inv.uses c.count.ensures inv.window)
    inv.used inv.still_open inv.answered read in
    record {
      uses = on.0;
      stays = inv.stays;
      used = on.1;
      still_open = on.2;
      answered = on.3;
      counted = omega (arith, inv.counted, on.4);
      window = (rw c.in-Ok-None.field-0-is at c.in-Ok-None.ensures.window) ∙ inv.window ∙ sym on.5;
    }
