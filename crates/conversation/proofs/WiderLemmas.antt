-- What was done by steps of one kind was done by those of a wider kind.
use Rattle.std.specs.Prelude.{IfSome}
use Rattle.std.proofs.Common.{ℕ, ℤ, inl, inr, Bool, List, [], ◌∷◌, ◌++◌, Option, None, Some, Result, Ok, Err}
use Rattle.conversation.specs.declared.conversation.Awaiting.{Awaiting}
use Rattle.conversation.specs.declared.end.End.{End}
use Rattle.conversation.specs.declared.end.End.TheVariants.{Closed, BadMessage, ReadFault, WriteFault, Memory}
use Rattle.conversation.specs.declared.message.message_fault.MessageFault.{MessageFault}
use Rattle.conversation.specs.Conversation.{Conversation, IsCutOff, IsGivenUp, IsNextText, Progress, interim_for}
use Rattle.conversation.specs.Ends.{Output}
use Rattle.conversation.specs.Exchanges.{MessageExchange, Exchanged, GaveUp, Timed, clocked, timed}
use Rattle.conversation.specs.message.Messages.{Ending, Message, Stop}
use Rattle.conversation.specs.Parts.{EndsEarly, MayOfferBehind, RepliesAreWritten, ReplyIsWritten}
use Rattle.conversation.specs.Run.{IsRun, IsSaid}
use Rattle.conversation.specs.Uses.{AreInTurn, IsPaced, MayAsk, MayOffer, Use, asked, received, sent, written}
use Rattle.conversation.proofs.ProgressLemmas.{Step}
use Rattle.conversation.proofs.UsesLemmas.{Behind, last_wider, whole_wider}

-- each step of one kind is a step of the other
abbrev pub Wider : {O : Type 0} → Step O → Step O → Type 0
Wider {O} step wide = (old : O) (x : MessageExchange) (new : O) → step old x new → wide old x new

-- what holds of a moment, where there is one, is followed by what that implies
given_wider : (few more : ℤ → Type 0) (now : Option ℤ) → ((given : ℤ) → few given → more given) → IfSome now few → IfSome now more
given_wider few more None wider gave = gave
given_wider few more (Some now) wider gave = wider now gave

-- steps at moments that one clock gives are steps at those of a clock that gives these and more
pub clocked_wider : {O : Type 0} (step : Step O) (few more : ℤ → Type 0) → ((given : ℤ) → few given → more given)
    → Wider (clocked few step) (clocked more step)
clocked_wider step few more wider old x new (stepped, gave) = (stepped, given_wider few more x.now wider gave)

-- and they are steps, whatever the moments are
pub unclocked : {O : Type 0} (step : Step O) (gives : ℤ → Type 0) → Wider (clocked gives step) step
unclocked step gives old x new (stepped, gave) = stepped

module _ {O : Type 0} (step wide : Step O) (wider : Wider step wide) where
  exchanged_wider : (old : Timed O) (xs : List MessageExchange) (new : Timed O) → Exchanged (timed step) old xs new → Exchanged (timed wide) old xs new
  exchanged_wider old [] new same = same
  exchanged_wider old (x ∷ xs) new (mid, (stepped, reads), later) =
      (mid, (wider old.0 x mid.0 stepped, reads), exchanged_wider mid xs new later)

  progress_wider : (input rest : List ℕ) (old : Timed O) (text : List ℕ) (new : Timed O)
      → Progress (timed step) input rest old text new → Progress (timed wide) input rest old text new
  progress_wider input rest old text new p =
      record { exchanges = p.exchanges; begins = p.begins; served = exchanged_wider old p.exchanges new p.served; text_is = p.text_is }

  conversation_wider : (refusal : MessageFault → List ℕ) (stop : Stop) (input : List ℕ) (old : Timed O) (text : List ℕ) (ending : Ending) (new : Timed O)
      → Conversation (timed step) refusal stop input old text ending new → Conversation (timed wide) refusal stop input old text ending new
  conversation_wider refusal stop input old text ending new c =
      record { exchanges = c.exchanges; messages = c.messages; served = exchanged_wider old c.exchanges new c.served; text_is = c.text_is }

  next_wider : (refusal : MessageFault → List ℕ) (rest : List ℕ) (mid : Timed O) (text : List ℕ) (new : Timed O)
      → IsNextText (timed step) refusal rest mid text new → IsNextText (timed wide) refusal rest mid text new
  next_wider refusal rest mid text new (inl reply) = inl (record {
    exchange = reply.exchange;
    rest = reply.rest;
    begins = reply.begins;
    answered = (wider mid.0 reply.exchange new.0 reply.answered.0, reply.answered.1);
    text_is = reply.text_is;
  })
  next_wider refusal rest mid text new (inr refused) = inr refused

  cut_off_wider : (refusal : MessageFault → List ℕ) (input : List ℕ) (old : Timed O) (text : List ℕ) (new : Timed O)
      → IsCutOff (timed step) refusal input old text new → IsCutOff (timed wide) refusal input old text new
  cut_off_wider refusal input old text new c = record {
    rest = c.rest;
    whole = c.whole;
    mid = c.mid;
    before = progress_wider input c.rest old c.whole c.mid c.before;
    last = c.last;
    is_last = next_wider refusal c.rest c.mid c.last new c.is_last;
    part = c.part;
    short = c.short;
    written_is = c.written_is;
  }

  gave_up_wider : (old : Timed O) (m : Message) (new : Timed O) → GaveUp step old m new → GaveUp wide old m new
  gave_up_wider old m new (now, reads, inl same) = (now, reads, inl same)
  gave_up_wider old m new (now, reads, inr (reply, stepped)) = (now, reads, inr (reply, wider old.0 _ new.0 stepped))

  given_up_wider : (input : List ℕ) (old : Timed O) (text : List ℕ) (new : Timed O)
      → IsGivenUp (timed step) (GaveUp step) input old text new → IsGivenUp (timed wide) (GaveUp wide) input old text new
  given_up_wider input old text new g = record {
    rest = g.rest;
    mid = g.mid;
    whole = g.whole;
    before = progress_wider input g.rest old g.whole g.mid g.before;
    told = g.told;
    expects = g.expects;
    text_is = g.text_is;
    after = elim g.after [
      | inl same ↦ inl same
      | inr (m, after, begins, gave_up) ↦ inr (m, after, begins, gave_up_wider g.mid m new gave_up)
    ];
  }

  early_wider : (refusal : MessageFault → List ℕ) (old : Timed O) (text : List ℕ) (new : Timed O) (input : List ℕ) (end : End)
      → EndsEarly step refusal old text new input end → EndsEarly wide refusal old text new input end
  early_wider refusal old text new input Closed x = λ stop more. conversation_wider refusal stop _ old text _ new (x stop more)
  early_wider refusal old text new input BadMessage (fault, x) = (fault, λ stop more. conversation_wider refusal stop _ old text _ new (x stop more))
  early_wider refusal old text new input ReadFault x = x
  early_wider refusal old text new input WriteFault x = λ more. cut_off_wider refusal _ old text new (x more)
  early_wider refusal old text new input Memory x = λ more. given_up_wider _ old text new (x more)

  -- the reply to one message
  pub reply_wider : {A : Type 0} (told : Bool) (old new : Timed O) (held holds : Output) (m : Message) (r : Result A End)
      → ReplyIsWritten step told old new held holds m r → ReplyIsWritten wide told old new held holds m r
  reply_wider told old new held holds m (Ok done) (x, same, (stepped, reads), whole) = (x, same, (wider old.0 x new.0 stepped, reads), whole)
  reply_wider told old new held holds m (Err WriteFault) (x, same, (stepped, reads), part) = (x, same, (wider old.0 x new.0 stepped, reads), part)
  reply_wider told old new held holds m (Err Memory) (gave_up, none) = (gave_up_wider old m new gave_up, none)
  reply_wider told old new held holds m (Err Closed) x = absurd x
  reply_wider told old new held holds m (Err BadMessage) x = absurd x
  reply_wider told old new held holds m (Err ReadFault) x = absurd x

  may_offer_wider : (refusal : MessageFault → List ℕ) (old : Timed O) (read wrote offered : List ℕ) → MayOffer step refusal old read wrote offered
      → MayOffer wide refusal old read wrote offered
  may_offer_wider refusal old read wrote offered may = record {
    rest = may.rest;
    whole = may.whole;
    mid = may.mid;
    answered = progress_wider read may.rest old may.whole may.mid may.answered;
    next = may.next;
    new = may.new;
    is_next = next_wider refusal may.rest may.mid may.next may.new may.is_next;
    left = may.left;
  }

  offers_wider : (refusal : MessageFault → List ℕ) (front : List ℕ) (old : Timed O) (input : List ℕ)
      → Behind [] (MayOfferBehind step refusal front old input) (MayOfferBehind wide refusal front old input)
  offers_wider refusal front old input wrote offered may = may_offer_wider refusal old input (front ++ wrote) offered may

  -- the replies to all whole messages of an input
  pub replies_wider : (refusal : MessageFault → List ℕ) (told : Bool) (old new : Timed O) (held holds : Output) (input : List ℕ) (r : Result Awaiting End)
      → RepliesAreWritten step refusal told old new held holds input r → RepliesAreWritten wide refusal told old new held holds input r
  replies_wider refusal told old new held holds input (Ok awaiting) (text, whole, wrote, within, p, awaited, said) = (
    text,
    whole,
    whole_wider _ _ held holds text (offers_wider refusal (interim_for told) old input) wrote,
    within,
    progress_wider input _ old whole new p,
    awaited,
    said,
  )
  replies_wider refusal told old new held holds input (Err end) (text, last, ends) = (
    text,
    last_wider end _ _ held holds text (offers_wider refusal (interim_for told) old input) last,
    early_wider refusal old _ new input end ends,
  )

  -- ---- uses in turn

  may_ask_wider : (old : Timed O) (read wrote : List ℕ) (count : ℕ) → MayAsk step old read wrote count → MayAsk wide old read wrote count
  may_ask_wider old read wrote count may = record {
    rest = may.rest;
    mid = may.mid;
    text = may.text;
    answered = progress_wider read may.rest old may.text may.mid may.answered;
    wants = may.wants;
    awaited = may.awaited;
    said = may.said;
    within = may.within;
    held = may.held;
  }

  in_turn_wider : (refusal : MessageFault → List ℕ) (old : Timed O) (before uses : List Use) → AreInTurn step refusal old before uses
      → AreInTurn wide refusal old before uses
  in_turn_wider refusal old before [] turns = turns
  in_turn_wider refusal old before (asked count passed ∷ others) ((opened, may, least, fits), later) =
      let more = in_turn_wider refusal old (before ++ asked count passed ∷ []) others later in
      ((opened, may_ask_wider old (received before) (written before) count may, least, fits), more)
  in_turn_wider refusal old before (sent offered passed ∷ others) ((sound, may), later) = (
    (sound, may_offer_wider refusal old (received before) (written before) offered may),
    in_turn_wider refusal old (before ++ sent offered passed ∷ []) others later,
  )

  -- the uses of a whole run
  pub paced_wider : (refusal : MessageFault → List ℕ) (old : Timed O) (unread left held holds : Option (List ℕ)) (uses : List Use)
      → IsPaced step refusal old unread left held holds uses → IsPaced wide refusal old unread left held holds uses
  paced_wider refusal old unread left held holds uses paced =
      record { in_turn = in_turn_wider refusal old [] uses paced.in_turn; reads = paced.reads; writes = paced.writes }

  -- ---- a whole run

  said_wider : (refusal : MessageFault → List ℕ) (old new : Timed O) (held holds : Option (List ℕ)) (stop : Stop) (input : List ℕ) (ending : Ending)
      → IsSaid step refusal old new held holds stop input ending → IsSaid wide refusal old new held holds stop input ending
  said_wider refusal old new held holds stop input ending said = record {
    text = said.text;
    written = said.written;
    conversation = conversation_wider refusal stop input old said.text ending new said.conversation;
  }

  -- a run
  pub run_wider : (refusal : MessageFault → List ℕ) (old new : Timed O) (unread left held holds : Option (List ℕ)) (end : End)
      → IsRun step refusal old new unread left held holds end → IsRun wide refusal old new unread left held holds end
  run_wider refusal old new unread left held holds Closed (input, all, inl (expects, said)) =
      (input, all, inl (expects, said_wider refusal old new held holds _ input _ said))
  run_wider refusal old new unread left held holds Closed (input, all, inr said) = (input, all, inr (said_wider refusal old new held holds _ input _ said))
  run_wider refusal old new unread left held holds BadMessage (input, all, fault, said) =
      (input, all, fault, said_wider refusal old new held holds _ input _ said)
  run_wider refusal old new unread left held holds ReadFault (input, read, expects, said) =
      (input, read, expects, said_wider refusal old new held holds _ input _ said)
  run_wider refusal old new unread left held holds WriteFault (input, all, text, written, cut) =
      (input, all, text, written, cut_off_wider refusal input old text new cut)
  run_wider refusal old new unread left held holds Memory (input, all, text, written, given) =
      (input, all, text, written, given_up_wider input old text new given)
