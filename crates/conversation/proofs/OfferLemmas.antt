-- What a write may offer, by the message that it is written for.
use Rattle.std.proofs.Common.{◌≡◌, ℕ, ◌+◌, inl, inr, Bool, true, false, List, [], ◌++◌, length, take, drop, refl, ap, sym, subst, ◌∙◌, append_assoc, arith}
use Rattle.std.proofs.Math.Seq.{drop-append_seam}
use Rattle.std.proofs.lemmas.List.{drop-drop, length-append}
use Rattle.conversation.specs.declared.message.message_fault.MessageFault.{MessageFault}
use Rattle.conversation.specs.Conversation.{interim, interim_for, Progress}
use Rattle.conversation.specs.Ends.{IsLeftOfEither, IsNothing}
use Rattle.conversation.specs.Exchanges.{MessageExchange, Timed, timed}
use Rattle.conversation.specs.message.Messages.{ended, BeginsExpecting, BeginsMessage, IsMessageRefused, IsTold, Message}
use Rattle.conversation.specs.Parts.{MayOfferBehind, is_due}
use Rattle.conversation.specs.Uses.{IsLeftOf, MayOffer}
use Rattle.conversation.proofs.InterimLemmas.{told_due, told_message}
use Rattle.conversation.proofs.ProgressLemmas.{Step, progress_none, progress_trans}
use Rattle.conversation.proofs.UsesLemmas.{Behind, take_behind}

-- where nothing is offered, whatever may be is
pub offers_nothing : {O : Type 0} (step : Step O) (refusal : MessageFault → List ℕ) (front : List ℕ) (old : Timed O) (input : List ℕ)
    → Behind [] IsNothing (MayOfferBehind step refusal front old input)
offers_nothing step refusal front old input wrote offered none = absurd none

-- what may be offered for what answered messages left may be so for the whole input, behind the
-- replies to them
pub offers_after : {O : Type 0} (step : Step O) (refusal : MessageFault → List ℕ) (old mid : Timed O) (input rest whole : List ℕ)
    (wrote offered : List ℕ) → Progress (timed step) input rest old whole mid → MayOffer step refusal mid rest wrote offered
    → MayOffer step refusal old input (whole ++ wrote) offered
offers_after step refusal old mid input rest whole wrote offered p may =
    let left = may.left in
    record {
      rest = may.rest;
      whole = whole ++ may.whole;
      mid = may.mid;
      answered = progress_trans (timed step) input rest may.rest old mid may.mid whole may.whole p may.answered;
      next = may.next;
      new = may.new;
      is_next = may.is_next;
      left = (
        left.0,
        left.1,
        ap (λ bytes. whole ++ bytes) left.2 ∙ sym (append_assoc whole may.whole (take left.0 may.next)),
        left.3,
      );
    }

-- what was written in front of messages and for them, and what stands behind that
pub joined : (front first whole behind second : List ℕ) → front ++ first ≡ whole ++ behind → whole ++ (behind ++ second) ≡ front ++ (first ++ second)
joined front first whole behind second said =
    sym (append_assoc whole behind second) ∙ ap (λ bytes. bytes ++ second) (sym said) ∙ append_assoc front first second

-- the same, where this was written in front of the replies
pub offers_on : {O : Type 0} (step : Step O) (refusal : MessageFault → List ℕ) (old mid : Timed O) (input rest : List ℕ)
    (front first whole behind : List ℕ) → Progress (timed step) input rest old whole mid → front ++ first ≡ whole ++ behind
    → Behind first (MayOfferBehind step refusal behind mid rest) (MayOfferBehind step refusal front old input)
offers_on step refusal old mid input rest front first whole behind p said wrote offered may =
    subst (λ bytes. MayOffer step refusal old input bytes offered) (joined front first whole behind wrote said)
    (offers_after step refusal old mid input rest whole (behind ++ wrote) offered p may)

-- what is left of an interim reply that is due
pub offers_interim : {O : Type 0} (step : Step O) (refusal : MessageFault → List ℕ) (old : Timed O) (rest : List ℕ) (expects told : Bool)
    → (expects ≡ true → BeginsExpecting rest)
    → Behind [] (IsLeftOf [] (interim_for (is_due expects told))) (MayOfferBehind step refusal (interim_for told) old rest)
offers_interim step refusal old rest false told begins wrote offered (part, short, is, left) = absurd (omega (arith, short))
offers_interim step refusal old rest true true begins wrote offered (part, short, is, left) = absurd (omega (arith, short))
offers_interim step refusal old rest true false begins wrote offered left = record {
  rest = rest;
  whole = [];
  mid = old;
  answered = progress_none (timed step) rest old;
  next = interim;
  new = old;
  is_next = inr (inr (record { expects = begins refl; text_is = refl; same = refl }));
  left = left;
}

-- what is left of a refusal
pub offers_refusal : {O : Type 0} (step : Step O) (refusal : MessageFault → List ℕ) (old : Timed O) (rest : List ℕ) (fault : MessageFault)
    → IsMessageRefused ended rest fault → Behind [] (IsLeftOf [] (refusal fault)) (MayOfferBehind step refusal [] old rest)
offers_refusal step refusal old rest fault is wrote offered left = record {
  rest = rest;
  whole = [];
  mid = old;
  answered = progress_none (timed step) rest old;
  next = refusal fault;
  new = old;
  is_next = inr (inl (record { fault = fault; is_refused = is; text_is = refl; same = refl }));
  left = left;
}

-- a message that expects an interim reply begins with a head that does
message_expects : (rest : List ℕ) (m : Message) (after : List ℕ) → BeginsMessage rest m after → m.expects ≡ true → BeginsExpecting rest
message_expects rest m after x is =
    record { head = x.head; rest = m.body ++ after; framing = _; begins = x.begins; framed = x.framed; expects = is }

-- what is left of the reply to a message behind what was written for it before
reply_left : (front due reply wrote offered before : List ℕ) → before ++ due ≡ front → IsLeftOf due reply wrote offered
    → IsLeftOf [] (front ++ reply) (before ++ wrote) offered
reply_left front due reply wrote offered before whole (part, short, is, left) = (
  length front + part,
  omega (arith, short, length-append front reply),
  ap (λ bytes. before ++ bytes) is ∙ sym (append_assoc before due (take part reply)) ∙ ap (λ bytes. bytes ++ take part reply) whole
      ∙ sym (take_behind front reply part),
  left ∙ ap (drop part) (sym (drop-append_seam front reply)) ∙ drop-drop part (length front) (front ++ reply),
)

-- what is left of what is written for a message, behind the interim reply where that was written
-- before
pub offers_reply : {O : Type 0} (step : Step O) (refusal : MessageFault → List ℕ) (told : Bool) (old new : Timed O) (rest : List ℕ)
    (m : Message) (after : List ℕ) (x : MessageExchange) → IsTold rest told → BeginsMessage rest m after → x.message ≡ m → timed step old x new
    → Behind [] (IsLeftOfEither (interim_for (is_due m.expects told)) x.reply) (MayOfferBehind step refusal (interim_for told) old rest)
offers_reply step refusal told old new rest m after x was begins same answered wrote offered (inl left) =
    offers_interim step refusal old rest m.expects told (message_expects rest m after begins) wrote offered left
offers_reply step refusal told old new rest m after x was begins same answered wrote offered (inr left) =
    let whole = told_due m.expects told (told_message rest m after told was begins) in
    record {
      rest = rest;
      whole = [];
      mid = old;
      answered = progress_none (timed step) rest old;
      next = interim_for m.expects ++ x.reply;
      new = new;
      is_next = inl (record {
        exchange = x;
        rest = after;
        begins = subst (λ n. BeginsMessage rest n after) (sym same) begins;
        answered = answered;
        text_is = ap (λ (n : Message). interim_for n.expects ++ x.reply) (sym same);
      });
      left = reply_left (interim_for m.expects) (interim_for (is_due m.expects told)) x.reply wrote offered (interim_for told) whole left;
    }
