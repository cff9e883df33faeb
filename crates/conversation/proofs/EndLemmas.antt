-- How a run ends, from how the last message of it did.
use Rattle.std.proofs.Common.{◌≡◌, ℕ, ◌+◌, ◌<◌, inl, inr, Bool, true, false, List, [], ◌∷◌, ◌++◌, length, take, Option, Some, None, Err, refl, ap, sym, subst, ◌∙◌, append-nil, arith}
use Rattle.std.proofs.lemmas.List.{length-append}
use Rattle.std.specs.Prelude.{MatchBool}
use Rattle.std.specs.Io.KnownBytes.{Appends, Consumes, IsAtEnd}
use Rattle.std.proofs.KnownBytes.{Appends-trans}
use Rattle.conversation.specs.declared.end.End.{End}
use Rattle.conversation.specs.declared.end.End.TheVariants.{Closed, BadMessage, ReadFault, WriteFault, Memory}
use Rattle.conversation.specs.declared.message.message_fault.MessageFault.{MessageFault}
use Rattle.conversation.specs.Conversation.{interim, interim_for, messages_of, text_of, Conversation, Progress, IsCutOff, IsGivenUp}
use Rattle.conversation.specs.Exchanges.{MessageExchange, Timed, timed, GaveUp}
use Rattle.conversation.specs.message.Messages.{Stop, ended, Message, BeginsMessage, IsMessageRefused, IsTold, LacksBody, finished, closing, refused}
use Rattle.conversation.specs.message.Next.{IsRefusedEver}
use Rattle.conversation.specs.Parts.{EndsEarly, EndsHere, MayOfferBehind, ReplyIsWritten, RefusalIsWritten, is_due}
use Rattle.conversation.specs.Run.{IsAll, IsRun}
use Rattle.conversation.specs.Ends.{IsNothing, IsOutputSent, Offer, Output, SendsEnd, WritesLast, WritesWhole}
use Rattle.conversation.specs.Uses.{IsLeftOf}
use Rattle.conversation.proofs.OfferLemmas.{joined, offers_interim, offers_nothing, offers_on, offers_refusal, offers_reply}
use Rattle.conversation.proofs.InterimLemmas.{IsTold-append, lack_told, told_message, told_text}
use Rattle.conversation.proofs.UsesLemmas.{Behind, last_after, last_wider, take_behind}
use Rattle.conversation.proofs.ProgressLemmas.{Step, BeginsMessage-append, progress_none, progress-append, conversation_after, cut_off_after, given_up_after}

-- a text that a writer took, by writes that offered what they may, and the end of which it is
abbrev pub Written : End → Offer → Output → Output → (List ℕ → Type 0) → Type 0
Written end May held holds Ends = (text : List ℕ) × WritesLast end May held holds text × Ends text

-- the same, of the bytes alone
abbrev pub WrittenBytes : Option (List ℕ) → Option (List ℕ) → (List ℕ → Type 0) → Type 0
WrittenBytes held holds Ends = (text : List ℕ) × Appends held holds text × Ends text

-- where nothing was written, a run ends so
pub nothing_ends : {O : Type 0} (end : End) (step : Step O) (refusal : MessageFault → List ℕ) (front : List ℕ) (old : Timed O) (rest : List ℕ)
    (held holds : Output) → (k : WritesWhole IsNothing held holds []) → SendsEnd end k.writes.uses
    → WritesLast end (MayOfferBehind step refusal front old rest) held holds []
nothing_ends end step refusal front old rest held holds k ends =
    last_wider end IsNothing (MayOfferBehind step refusal front old rest) held holds [] (offers_nothing step refusal front old rest)
    (record { writes = k.writes; ends = ends })

-- ---- one message

-- a message that closes the conversation, behind the interim reply where that was written before
pub closed_end : {O : Type 0} (step : Step O) (refusal : MessageFault → List ℕ) (told : Bool) (old new : Timed O) (rest : List ℕ)
    (m : Message) (after : List ℕ) (x : MessageExchange) → IsTold rest told → BeginsMessage rest m after → m.closes ≡ true → x.message ≡ m
    → timed step old x new
    → EndsEarly step refusal old (interim_for told ++ (interim_for (is_due m.expects told) ++ x.reply)) new rest Closed
closed_end step refusal told old new rest m after x was begins closes same answered stop more = record {
  exchanges = x ∷ [];
  messages =
      let begun = subst (λ n. BeginsMessage (rest ++ more) n (after ++ more)) (sym same) (BeginsMessage-append rest m after more begins) in
      let last : x.message.closes ≡ true = ap (λ n. n.closes) same ∙ closes in
      let A : Type 0 = (messages_of [] ≡ []) × (closing ≡ closing) in
      (after ++ more, begun, subst (λ b. MatchBool b A ⊥) (sym last) (refl, refl));
  served = (new, answered, refl);
  text_is =
      told_text x m told same (told_message rest m after told was begins)
      ∙ sym (append-nil (text_of x ++ []) ∙ append-nil (text_of x));
}

-- a message for which not all was written, behind the interim reply where that had been
pub answered_end : {O : Type 0} (A : Type 0) (step : Step O) (refusal : MessageFault → List ℕ) (told : Bool) (old new : Timed O) (held holds : Output)
    (rest : List ℕ) (m : Message) (after : List ℕ) (end : End) → IsTold rest told → BeginsMessage rest m after
    → ReplyIsWritten {A = A} step told old new held holds m (Err end)
    → Written end (MayOfferBehind step refusal (interim_for told) old rest) held holds
    (λ text. EndsEarly step refusal old (interim_for told ++ text) new rest end)
answered_end A step refusal told old new held holds rest m after Closed was begins x = absurd x
answered_end A step refusal told old new held holds rest m after BadMessage was begins x = absurd x
answered_end A step refusal told old new held holds rest m after ReadFault was begins x = absurd x
answered_end A step refusal told old new held holds rest m after WriteFault was begins (x, same, answered, (part, short, written)) =
    let front = interim_for told in
    let last = interim_for (is_due m.expects told) ++ x.reply in
    let whole : front ++ last ≡ text_of x = told_text x m told same (told_message rest m after told was begins) in (
      take part last,
      last_wider WriteFault _ _ held holds (take part last)
          (offers_reply step refusal told old new rest m after x was begins same answered) written,
      λ more. record {
        rest = rest ++ more;
        whole = [];
        mid = old;
        before = progress_none (timed step) (rest ++ more) old;
        last = text_of x;
        is_last = inl (record {
          exchange = x;
          rest = after ++ more;
          begins = subst (λ n. BeginsMessage (rest ++ more) n (after ++ more)) (sym same) (BeginsMessage-append rest m after more begins);
          answered = answered;
          text_is = refl;
        });
        part = length front + part;
        short = omega (arith, short, length-append front last, ap length whole);
        written_is = sym (take_behind front last part) ∙ ap (λ bytes. take (length front + part) bytes) whole;
      },
    )
answered_end A step refusal told old new held holds rest m after Memory was begins (gave_up, k) = (
  [],
  nothing_ends Memory step refusal (interim_for told) old rest held holds k k.open_still,
  λ more. record {
    rest = rest ++ more;
    mid = old;
    whole = [];
    before = progress_none (timed step) (rest ++ more) old;
    told = told;
    expects = IsTold-append rest more told was;
    text_is = append-nil (interim_for told);
    after = inr (m, after ++ more, BeginsMessage-append rest m after more begins, gave_up);
  },
)

due_end : {O : Type 0} (A : Type 0) (step : Step O) (refusal : MessageFault → List ℕ) (old : Timed O) (held holds : Output)
    (rest : List ℕ) (missing : ℕ) (expects told : Bool) (end : End) → LacksBody rest missing expects
    → IsOutputSent {A = A} (IsLeftOf [] (interim_for (is_due expects told))) held holds (interim_for (is_due expects told)) (Err end)
    → Written end (MayOfferBehind step refusal (interim_for told) old rest) held holds
    (λ text. EndsEarly step refusal old (interim_for told ++ text) old rest end)
due_end A step refusal old held holds rest missing expects told Closed lacks x = absurd x
due_end A step refusal old held holds rest missing expects told BadMessage lacks x = absurd x
due_end A step refusal old held holds rest missing expects told ReadFault lacks x = absurd x
due_end A step refusal old held holds rest missing expects told Memory lacks x = absurd x
due_end A step refusal old held holds rest missing false told WriteFault lacks (part, short, written) = absurd (omega (arith, short))
due_end A step refusal old held holds rest missing true true WriteFault lacks (part, short, written) = absurd (omega (arith, short))
due_end A step refusal old held holds rest missing true false WriteFault lacks (part, short, written) = (
  take part interim,
  last_wider WriteFault _ _ held holds (take part interim)
      (offers_interim step refusal old rest true false (λ is. lack_told rest missing true lacks)) written,
  λ more. record {
    rest = rest ++ more;
    whole = [];
    mid = old;
    before = progress_none (timed step) (rest ++ more) old;
    last = interim;
    is_last = inr (inr (record { expects = IsTold-append rest more true (lack_told rest missing true lacks); text_is = refl; same = refl }));
    part = part;
    short = short;
    written_is = refl;
  },
)

-- an interim reply that was due, and not written whole
pub interim_end : {O : Type 0} (A : Type 0) (step : Step O) (refusal : MessageFault → List ℕ) (old : Timed O) (held holds : Output)
    (rest : List ℕ) (missing : ℕ) (expects told due : Bool) (end : End) → due ≡ is_due expects told → LacksBody rest missing expects
    → IsOutputSent {A = A} (IsLeftOf [] (interim_for due)) held holds (interim_for due) (Err end)
    → Written end (MayOfferBehind step refusal (interim_for told) old rest) held holds
    (λ text. EndsEarly step refusal old (interim_for told ++ text) old rest end)
interim_end A step refusal old held holds rest missing expects told due end same lacks x =
    due_end A step refusal old held holds rest missing expects told end lacks
    (subst (λ b. IsOutputSent {A = A} (IsLeftOf [] (interim_for b)) held holds (interim_for b) (Err end)) same x)

-- memory was short, and nothing was written
pub memory_end : {O : Type 0} (step : Step O) (old : Timed O) (rest : List ℕ)
    → IsGivenUp (timed step) (GaveUp step) rest old [] old
memory_end step old rest = record {
  rest = rest;
  mid = old;
  whole = [];
  before = progress_none (timed step) rest old;
  told = false;
  expects = tt;
  text_is = refl;
  after = inl refl;
}

-- the refusal of the front of an input that ends there
refused_conversation : {O : Type 0} (step : Step O) (refusal : MessageFault → List ℕ) (old : Timed O) (stop : Stop) (rest : List ℕ)
    (fault : MessageFault) → IsMessageRefused stop rest fault
    → Conversation (timed step) refusal stop rest old (refusal fault) (refused fault) old
refused_conversation step refusal old stop rest fault is =
    record { exchanges = []; messages = is; served = refl; text_is = refl }

refused_cut_off : {O : Type 0} (step : Step O) (refusal : MessageFault → List ℕ) (old : Timed O) (rest : List ℕ)
    (fault : MessageFault) (part : ℕ) → IsMessageRefused ended rest fault → part < length (refusal fault)
    → IsCutOff (timed step) refusal rest old (take part (refusal fault)) old
refused_cut_off step refusal old rest fault part is short = record {
  rest = rest;
  whole = [];
  mid = old;
  before = progress_none (timed step) rest old;
  last = refusal fault;
  is_last = inr (inl (record { fault = fault; is_refused = is; text_is = refl; same = refl }));
  part = part;
  short = short;
  written_is = refl;
}

-- what is left of the refusal of a message that is refused whatever follows
refused_early : {O : Type 0} (step : Step O) (refusal : MessageFault → List ℕ) (old : Timed O) (rest : List ℕ) (fault : MessageFault)
    → IsRefusedEver rest fault → Behind [] (IsLeftOf [] (refusal fault)) (MayOfferBehind step refusal [] old rest)
refused_early step refusal old rest fault ever =
    offers_refusal step refusal old rest fault (subst (λ bytes. IsMessageRefused ended bytes fault) (append-nil rest) (ever ended []))

-- a message that is refused whatever follows
pub told_end : {O : Type 0} (step : Step O) (refusal : MessageFault → List ℕ) (old : Timed O) (held holds : Output)
    (rest : List ℕ) (fault : MessageFault) (end : End) → IsRefusedEver rest fault → RefusalIsWritten held holds (refusal fault) end
    → Written end (MayOfferBehind step refusal [] old rest) held holds (λ text. EndsEarly step refusal old text old rest end)
told_end step refusal old held holds rest fault Closed ever x = absurd x
told_end step refusal old held holds rest fault ReadFault ever x = absurd x
told_end step refusal old held holds rest fault BadMessage ever x = (
  refusal fault,
  last_wider BadMessage _ _ held holds (refusal fault) (refused_early step refusal old rest fault ever)
      (record { writes = x.writes; ends = x.open_still }),
  (fault, λ stop more. refused_conversation step refusal old stop (rest ++ more) fault (ever stop more)),
)
told_end step refusal old held holds rest fault WriteFault ever (part, short, written) = (
  take part (refusal fault),
  last_wider WriteFault _ _ held holds (take part (refusal fault)) (refused_early step refusal old rest fault ever) written,
  λ more. refused_cut_off step refusal old (rest ++ more) fault part (ever ended more) short,
)
told_end step refusal old held holds rest fault Memory ever k =
    ([], nothing_ends Memory step refusal [] old rest held holds k k.open_still, λ more. memory_end step old (rest ++ more))

-- a message that is refused where the input ended
pub told_here : {O : Type 0} (step : Step O) (refusal : MessageFault → List ℕ) (old : Timed O) (held holds : Output)
    (rest : List ℕ) (fault : MessageFault) (end : End) → IsMessageRefused ended rest fault → RefusalIsWritten held holds (refusal fault) end
    → Written end (MayOfferBehind step refusal [] old rest) held holds (λ text. EndsHere step refusal old text old rest end)
told_here step refusal old held holds rest fault Closed is x = absurd x
told_here step refusal old held holds rest fault ReadFault is x = absurd x
told_here step refusal old held holds rest fault BadMessage is x =
    let last : WritesLast BadMessage (IsLeftOf [] (refusal fault)) held holds (refusal fault) = record { writes = x.writes; ends = x.open_still } in (
      refusal fault,
      last_wider BadMessage _ _ held holds (refusal fault) (offers_refusal step refusal old rest fault is) last,
      (fault, refused_conversation step refusal old ended rest fault is),
    )
told_here step refusal old held holds rest fault WriteFault is (part, short, written) =
    let last = last_wider WriteFault _ _ held holds (take part (refusal fault)) (offers_refusal step refusal old rest fault is) written in
    (take part (refusal fault), last, refused_cut_off step refusal old rest fault part is short)
told_here step refusal old held holds rest fault Memory is k =
    ([], nothing_ends Memory step refusal [] old rest held holds k k.open_still, memory_end step old rest)

-- ---- after other messages

early_after : {O : Type 0} (step : Step O) (refusal : MessageFault → List ℕ) (old mid new : Timed O) (input rest : List ℕ)
    (first second : List ℕ) (end : End) → Progress (timed step) input rest old first mid
    → EndsEarly step refusal mid second new rest end → EndsEarly step refusal old (first ++ second) new input end
early_after step refusal old mid new input rest first second Closed p x =
    λ stop more. conversation_after (timed step) refusal stop (input ++ more) (rest ++ more) old mid new first second closing
    (progress-append (timed step) input rest more old mid first p) (x stop more)
early_after step refusal old mid new input rest first second BadMessage p x = (
  x.0,
  λ stop more.
      conversation_after (timed step) refusal stop (input ++ more) (rest ++ more) old mid new first second (refused x.0)
      (progress-append (timed step) input rest more old mid first p) (x.1 stop more),
)
early_after step refusal old mid new input rest first second ReadFault p x = x
early_after step refusal old mid new input rest first second WriteFault p x =
    λ more. cut_off_after (timed step) refusal (input ++ more) (rest ++ more) old mid new first second
    (progress-append (timed step) input rest more old mid first p) (x more)
early_after step refusal old mid new input rest first second Memory p x =
    λ more. given_up_after (timed step) (GaveUp step) (input ++ more) (rest ++ more) old mid new first second
    (progress-append (timed step) input rest more old mid first p) (x more)

here_after : {O : Type 0} (step : Step O) (refusal : MessageFault → List ℕ) (old mid new : Timed O) (input rest : List ℕ)
    (first second : List ℕ) (end : End) → Progress (timed step) input rest old first mid
    → EndsHere step refusal mid second new rest end → EndsHere step refusal old (first ++ second) new input end
here_after step refusal old mid new input rest first second Closed p x =
    (x.0, conversation_after (timed step) refusal ended input rest old mid new first second (finished x.0) p x.1)
here_after step refusal old mid new input rest first second BadMessage p x =
    (x.0, conversation_after (timed step) refusal ended input rest old mid new first second (refused x.0) p x.1)
here_after step refusal old mid new input rest first second ReadFault p x = x
here_after step refusal old mid new input rest first second WriteFault p x =
    cut_off_after (timed step) refusal input rest old mid new first second p x
here_after step refusal old mid new input rest first second Memory p x =
    given_up_after (timed step) (GaveUp step) input rest old mid new first second p x

-- an end after messages that were answered: what was written before is the whole text for these and
-- what stands behind it, the interim reply to the next one
pub end_after : {O : Type 0} (step : Step O) (refusal : MessageFault → List ℕ) (old mid new : Timed O) (a b c : Output)
    (input rest : List ℕ) (front first whole behind : List ℕ) (end : End)
    → WritesWhole (MayOfferBehind step refusal front old input) a b first → Progress (timed step) input rest old whole mid
    → front ++ first ≡ whole ++ behind
    → Written end (MayOfferBehind step refusal behind mid rest) b c (λ text. EndsEarly step refusal mid (behind ++ text) new rest end)
    → Written end (MayOfferBehind step refusal front old input) a c (λ text. EndsEarly step refusal old (front ++ text) new input end)
end_after step refusal old mid new a b c input rest front first whole behind end before p said (second, written, ends) = (
  first ++ second,
  last_after end _ _ a b c first second (offers_on step refusal old mid input rest front first whole behind p said) before written,
  subst (λ text. EndsEarly step refusal old text new input end) (joined front first whole behind second said)
      (early_after step refusal old mid new input rest whole (behind ++ second) end p ends),
)

-- the same, of the bytes alone
pub bytes_after : {O : Type 0} (step : Step O) (refusal : MessageFault → List ℕ) (old mid new : Timed O) (a b c : Option (List ℕ))
    (input rest : List ℕ) (first whole behind : List ℕ) (end : End) → Appends a b first → Progress (timed step) input rest old whole mid
    → first ≡ whole ++ behind
    → WrittenBytes b c (λ text. EndsEarly step refusal mid (behind ++ text) new rest end)
    → WrittenBytes a c (λ text. EndsEarly step refusal old text new input end)
bytes_after step refusal old mid new a b c input rest first whole behind end before p said (second, written, ends) = (
  first ++ second,
  Appends-trans a b c first second before written,
  subst (λ text. EndsEarly step refusal old text new input end) (joined [] first whole behind second said)
      (early_after step refusal old mid new input rest whole (behind ++ second) end p ends),
)

-- the same of an end where the input ended
pub bytes_here_after : {O : Type 0} (step : Step O) (refusal : MessageFault → List ℕ) (old mid new : Timed O) (a b c : Option (List ℕ))
    (input rest : List ℕ) (first whole behind : List ℕ) (end : End) → Appends a b first → Progress (timed step) input rest old whole mid
    → first ≡ whole ++ behind
    → WrittenBytes b c (λ text. EndsHere step refusal mid (behind ++ text) new rest end)
    → WrittenBytes a c (λ text. EndsHere step refusal old text new input end)
bytes_here_after step refusal old mid new a b c input rest first whole behind end before p said (second, written, ends) = (
  first ++ second,
  Appends-trans a b c first second before written,
  subst (λ text. EndsHere step refusal old text new input end) (joined [] first whole behind second said)
      (here_after step refusal old mid new input rest whole (behind ++ second) end p ends),
)

-- ---- the whole run

-- what is left to read, where that is known
abbrev pub left_of : Option (List ℕ) → List ℕ
left_of None = []
left_of (Some bytes) = bytes

-- what was taken and what is left are all that was to be read
pub all_left : (unread left : Option (List ℕ)) (taken : List ℕ) → Consumes unread left taken → IsAll unread (taken ++ left_of left)
all_left None left taken c = tt
all_left (Some xs) None taken c = absurd c
all_left (Some xs) (Some ys) taken c = c

all_taken : (unread left : Option (List ℕ)) (taken : List ℕ) → Consumes unread left taken → IsAtEnd left → IsAll unread taken
all_taken None left taken c none = tt
all_taken (Some xs) None taken c none = absurd c
all_taken (Some xs) (Some ys) taken c none = c ∙ ap (λ bytes. taken ++ bytes) none ∙ append-nil taken

-- an end that came early
pub run_early : {O : Type 0} (step : Step O) (refusal : MessageFault → List ℕ) (old new : Timed O) (unread left held holds : Option (List ℕ))
    (taken : List ℕ) (end : End) → Consumes unread left taken
    → WrittenBytes held holds (λ text. EndsEarly step refusal old text new taken end) → IsRun step refusal old new unread left held holds end
run_early step refusal old new unread left held holds taken Closed c (text, written, ends) =
    (_, all_left unread left taken c, inr (record { text = text; written = written; conversation = ends ended (left_of left) }))
run_early step refusal old new unread left held holds taken BadMessage c (text, written, ends) =
    (_, all_left unread left taken c, ends.0, record { text = text; written = written; conversation = ends.1 ended (left_of left) })
run_early step refusal old new unread left held holds taken ReadFault c (text, written, ends) = absurd ends
run_early step refusal old new unread left held holds taken WriteFault c (text, written, ends) =
    (_, all_left unread left taken c, text, written, ends (left_of left))
run_early step refusal old new unread left held holds taken Memory c (text, written, ends) =
    (_, all_left unread left taken c, text, written, ends (left_of left))

-- an end where the input ended
pub run_here : {O : Type 0} (step : Step O) (refusal : MessageFault → List ℕ) (old new : Timed O) (unread left held holds : Option (List ℕ))
    (taken : List ℕ) (end : End) → Consumes unread left taken → IsAtEnd left
    → WrittenBytes held holds (λ text. EndsHere step refusal old text new taken end) → IsRun step refusal old new unread left held holds end
run_here step refusal old new unread left held holds taken Closed c none (text, written, ends) =
    (taken, all_taken unread left taken c none, inl (ends.0, record { text = text; written = written; conversation = ends.1 }))
run_here step refusal old new unread left held holds taken BadMessage c none (text, written, ends) =
    (taken, all_taken unread left taken c none, ends.0, record { text = text; written = written; conversation = ends.1 })
run_here step refusal old new unread left held holds taken ReadFault c none (text, written, ends) = absurd ends
run_here step refusal old new unread left held holds taken WriteFault c none (text, written, ends) =
    (taken, all_taken unread left taken c none, text, written, ends)
run_here step refusal old new unread left held holds taken Memory c none (text, written, ends) =
    (taken, all_taken unread left taken c none, text, written, ends)
