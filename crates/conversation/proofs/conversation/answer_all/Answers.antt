use Rattle.std.proofs.Common.{◌≡◌, ◌∙◌, Ok, Err, false, true, List, ℕ, [], ◌+◌, ◌++◌, drop, ap, subst, sym, arith, append_assoc, append-nil}
use Rattle.std.proofs.Math.ListN.{drop_of_length-le}
use Rattle.std.proofs.lemmas.List.{drop-drop, length-drop, take_rest}
use Rattle.conversation.specs.message.Heads.{longest_head}
use Rattle.conversation.specs.Wants.{IsAwaited}
use Rattle.conversation.specs.declared.wants.Wants.TheVariants.{Head}
use Rattle.conversation.specs.declared.end.End.TheVariants.{Closed}
use Rattle.conversation.specs.Conversation.{interim_for, text_of}
use Rattle.conversation.specs.Exchanges.{clocked, timed}
use Rattle.conversation.specs.message.Messages.{BeginsExpecting, BeginsMessage, IsTold}
use Rattle.conversation.specs.message.Next.{message_of}
use Rattle.conversation.specs.Parts.{MayOfferBehind, is_due}
use Rattle.conversation.proofs.EndLemmas.{answered_end, closed_end, end_after, interim_end, told_end}
use Rattle.conversation.proofs.InterimLemmas.{lack_told, nothing_untold, refused_untold, told_due, told_lack, told_message, told_text}
use Rattle.conversation.proofs.ProgressLemmas.{progress_none, progress_one, progress_trans}
use Rattle.conversation.proofs.ReadingLemmas.{message_takes}
use Rattle.conversation.proofs.RunLemmas.{awaits_nothing}
use Rattle.conversation.proofs.OfferLemmas.{offers_interim, offers_on, offers_reply}
use Rattle.conversation.proofs.UsesLemmas.{last_wider, whole_after, whole_none, whole_wider}
use Rattle.conversation.proofs.WiderLemmas.{clocked_wider, reply_wider}
use Rattle.conversation.proofs.conversation.answer_all.Goals as goal

-- what was written before is the whole texts alone where no interim reply was
alone : (front whole : List ℕ) (told : _) → told ≡ false → front ≡ whole ++ interim_for told → front ≡ whole ++ []
alone front whole told none said = said ∙ ap (λ b. whole ++ interim_for b) none

pub messages-init : goal.messages-init
messages-init g c = record {
  within = omega arith;
  text = [];
  whole = [];
  wrote = whole_none _;
  stays = λ given gives. gives;
  progress = progress_none (timed (clocked (g.C.Clock.reads c.args.clock.now) g.S.Service.step)) c.args.input.now _;
  was = c.requires;
  said = append-nil (interim_for c.args.told);
}

pub returns-in-Err-clause-written : goal.returns-in-Err-clause-written
returns-in-Err-clause-written g c =
    let step = clocked (g.C.Clock.reads c.args.clock.now) g.S.Service.step in
    let refusal = g.S.Service.refusal in
    let input = c.args.input.now in
    let len = c.messages.len in
    let inv = c.messages.invariant in
    let whole = rw (take_rest input len) at c.in-Whole.ensures.next in
    let one = g.S.Service.step in
    let reads = g.C.Clock.reads in
    let wider = clocked_wider one (reads c.messages.clock) (reads c.args.clock.now) inv.stays in
    let answered = reply_wider (clocked (reads c.messages.clock) one) step wider {A = Unit {0}} _ _ _ _ _ (message_of c.in-Whole.message)
    (Err c.in-Err.end) c.in-Err.ensures.written in
    end_after step refusal _ _ _ _ _ _ input (drop len input) _ inv.text inv.whole _ c.in-Err.end inv.wrote inv.progress inv.said
    (answered_end (Unit {0}) step refusal c.messages.was_told _ _ _ _ (drop len input) (message_of c.in-Whole.message) _ c.in-Err.end inv.was whole.begins answered)

pub returns-then-message-clause-written : goal.returns-then-message-clause-written
returns-then-message-clause-written g c =
    let step = clocked (g.C.Clock.reads c.args.clock.now) g.S.Service.step in
    let refusal = g.S.Service.refusal in
    let input = c.args.input.now in
    let len = c.messages.len in
    let inv = c.messages.invariant in
    let whole = rw (take_rest input len) at c.in-Whole.ensures.next in
    let one = g.S.Service.step in
    let reads = g.C.Clock.reads in
    let m = message_of c.in-Whole.message in
    let wider = clocked_wider one (reads c.messages.clock) (reads c.args.clock.now) inv.stays in
    let x = reply_wider (clocked (reads c.messages.clock) one) step wider _ _ _ _ _ m (Ok c.in_default.field-0) c.in_default.ensures.written in
    let may = offers_reply step refusal c.messages.was_told _ _ (drop len input) m _ x.0 inv.was whole.begins x.1 x.2 in
    end_after step refusal _ _ _ _ _ _ input (drop len input) _ inv.text inv.whole _ Closed inv.wrote inv.progress inv.said (
      interim_for (is_due m.expects c.messages.was_told) ++ x.0.reply,
      last_wider Closed _ (MayOfferBehind step refusal (interim_for c.messages.was_told) _ (drop len input)) _ _ _ may
          (record { writes = x.3.writes; ends = x.3.open_still }),
      closed_end step refusal c.messages.was_told _ _ (drop len input) m _ x.0 inv.was whole.begins c.if-message.true x.1 x.2,
    )

pub messages-smaller : goal.messages-smaller
messages-smaller g c =
    let input = c.args.input.now in
    let len = c.messages.len in
    let whole = rw (take_rest input len) at c.in-Whole.ensures.next in
    let some = message_takes (drop len input) (message_of c.in-Whole.message) c.in-Whole.message.len whole.begins whole.len in
    omega (arith, some, whole.len, length-drop len input, c.messages.invariant.within)

pub messages-preserved : goal.messages-preserved
messages-preserved g c =
    let step = clocked (g.C.Clock.reads c.args.clock.now) g.S.Service.step in
    let input = c.args.input.now in
    let len = c.messages.len in
    let inv = c.messages.invariant in
    let m = c.in-Whole.message in
    let whole = rw (take_rest input len) at c.in-Whole.ensures.next in
    let one = g.S.Service.step in
    let reads = g.C.Clock.reads in
    let wider = clocked_wider one (reads c.messages.clock) (reads c.args.clock.now) inv.stays in
    let x = reply_wider (clocked (reads c.messages.clock) one) step wider _ _ _ _ _ (message_of m) (Ok c.in_default.field-0)
    c.in_default.ensures.written in
    let begins : BeginsMessage (drop len input) (message_of m) (drop (len + m.len) input) =
    subst (BeginsMessage (drop len input) (message_of m)) (drop-drop m.len len input) whole.begins in
    let front = interim_for c.args.told in
    let before = interim_for c.messages.was_told in
    let last = interim_for (is_due m.expects c.messages.was_told) ++ x.0.reply in
    let text : before ++ last ≡ text_of x.0 =
    told_text x.0 (message_of m) c.messages.was_told x.1 (told_message (drop len input) (message_of m) _ c.messages.was_told inv.was whole.begins) in
    let refusal = g.S.Service.refusal in
    let was = c.messages.was_told in
    let may = offers_reply step refusal was _ _ (drop len input) (message_of m) _ x.0 inv.was whole.begins x.1 x.2 in
    let wrote = whole_wider _ (MayOfferBehind step refusal before _ (drop len input)) _ _ last may x.3 in
    record {
      within = omega (arith, whole.len, length-drop len input, inv.within);
      text = inv.text ++ last;
      whole = inv.whole ++ text_of x.0;
      wrote = whole_after _ _ _ _ _ inv.text last
          (offers_on step refusal _ _ input (drop len input) front inv.text inv.whole before inv.progress inv.said) inv.wrote wrote;
      stays = λ given gives. inv.stays given (c.in_default.ensures.stays given gives);
      progress = progress_trans (timed step) input (drop len input) _ _ _ _ inv.whole (text_of x.0) inv.progress
          (progress_one (timed step) (drop len input) (message_of m) _ x.0 _ _ begins c.if-message.false x.1 x.2);
      was = tt;
      said =
          sym (append_assoc front inv.text last) ∙ ap (λ bytes. bytes ++ last) inv.said ∙ append_assoc inv.whole before last
          ∙ ap (λ bytes. inv.whole ++ bytes) text ∙ sym (append-nil (inv.whole ++ text_of x.0));
    }

pub returns-in-Refused-clause-written : goal.returns-in-Refused-clause-written
returns-in-Refused-clause-written g c =
    let step = clocked (g.C.Clock.reads c.args.clock.now) g.S.Service.step in
    let refusal = g.S.Service.refusal in
    let input = c.args.input.now in
    let len = c.messages.len in
    let inv = c.messages.invariant in
    let ever = rw (take_rest input len) at c.in-Refused.ensures.next in
    let none = refused_untold (drop len input) c.in-Refused.fault c.messages.was_told ever inv.was in
    end_after step refusal _ _ _ _ _ _ input (drop len input) _ inv.text inv.whole [] c.refuse.result inv.wrote inv.progress
    (alone _ inv.whole c.messages.was_told none inv.said)
    (told_end step refusal _ _ _ (drop len input) c.in-Refused.fault c.refuse.result ever c.refuse.ensures)

pub returns-in-Err-tell-clause-written : goal.returns-in-Err-tell-clause-written
returns-in-Err-tell-clause-written g c =
    let step = clocked (g.C.Clock.reads c.args.clock.now) g.S.Service.step in
    let refusal = g.S.Service.refusal in
    let input = c.args.input.now in
    let len = c.messages.len in
    let inv = c.messages.invariant in
    let lacks = rw (take_rest input len) at c.in-NeedBody.ensures.next in
    end_after step refusal _ _ _ _ _ _ input (drop len input) _ inv.text inv.whole _ c.in-Err-tell.end inv.wrote inv.progress inv.said
    (interim_end (Unit {0}) step refusal _ _ _ (drop len input) c.in-NeedBody.missing c.in-NeedBody.expects c.messages.was_told
    c.is_due.result c.in-Err-tell.end c.is_due.ensures lacks c.in-Err-tell.ensures)

pub returns-in-NeedBody-clause-written : goal.returns-in-NeedBody-clause-written
returns-in-NeedBody-clause-written g c =
    let step = clocked (g.C.Clock.reads c.args.clock.now) g.S.Service.step in
    let refusal = g.S.Service.refusal in
    let input = c.args.input.now in
    let len = c.messages.len in
    let inv = c.messages.invariant in
    let expects = c.in-NeedBody.expects in
    let was_told = c.messages.was_told in
    let lacks = rw (take_rest input len) at c.in-NeedBody.ensures.next in
    let told = rw c.is_due.ensures at c.in_default-tell.ensures in
    let front = interim_for c.args.told in
    let before = interim_for was_told in
    let last = interim_for (is_due expects was_told) in
    let text : before ++ last ≡ interim_for expects =
    told_due expects was_told (told_lack (drop len input) c.in-NeedBody.missing expects was_told inv.was lacks) in
    let may : expects ≡ true → BeginsExpecting (drop len input) =
    λ is. subst (IsTold (drop len input)) is (lack_told (drop len input) c.in-NeedBody.missing expects lacks) in (
      inv.text ++ last,
      inv.whole,
      whole_after _ _ _ _ _ inv.text last
          (offers_on step refusal _ _ input (drop len input) front inv.text inv.whole before inv.progress inv.said) inv.wrote
          (whole_wider _ (MayOfferBehind step refusal before _ (drop len input)) _ _ last
          (offers_interim step refusal _ (drop len input) expects was_told may) told),
      inv.within,
      inv.progress,
      lacks,
      sym (append_assoc front inv.text last) ∙ ap (λ bytes. bytes ++ last) inv.said ∙ append_assoc inv.whole before last
          ∙ ap (λ bytes. inv.whole ++ bytes) text,
    )

pub returns-clause-written : goal.returns-clause-written
returns-clause-written g c =
    let input = c.args.input.now in
    let len = c.messages.len in
    let inv = c.messages.invariant in
    let none : drop len input ≡ [] = drop_of_length-le input (omega arith) in
    let untold = nothing_untold c.messages.was_told (subst (λ rest. IsTold rest c.messages.was_told) none inv.was) in (
      inv.text,
      inv.whole,
      inv.wrote,
      inv.within,
      inv.progress,
      subst (λ rest. IsAwaited rest (Head longest_head)) (sym none) awaits_nothing,
      alone _ inv.whole c.messages.was_told untold inv.said,
    )
