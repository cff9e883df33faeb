-- Connections that were served.
use Rattle.std.proofs.Common.{◌≡◌, ◌∙◌, ◌<◌, ℕ, ℤ, Bool, true, List, [], ◌∷◌, Option, Some, Result, Ok, arith, inl, inr, subst, sym}
use Rattle.book_opening.specs.declared.fault.OpenFault.{OpenFault}
use Rattle.books.specs.Keeps.{Seen}
use Rattle.conversation.specs.Conversation.{IsNextText}
use Rattle.conversation.specs.Exchanges.{BeginsMessages, MessageExchange, Timed}
use Rattle.conversation.specs.Uses.{AreInTurn, Grows, MayOffer, Use, asked, sent}
use Rattle.conversation.specs.declared.end.End.{End}
use Rattle.conversation.specs.declared.message.message_fault.MessageFault.{MessageFault}
use Rattle.conversation.specs.declared.message.message_fault.MessageFault.TheVariants.{Head, Method, Host, Coding, Length, Body}
use Rattle.conversation.specs.message.Messages.{BeginsFaulty, IsMessageRefused, Message, ended}
use Rattle.conversation.proofs.ReadingLemmas.{no_empty_head}
use Rattle.sts_fields.specs.Text.{Text}
use Rattle.sts_token.specs.Token.{BlockFunction}
use Rattle.vend_commands.specs.port.Machines.{Way}
use Rattle.vend_commands.specs.serving.Connections.{AreHeld, AreServed, Service, service}
use Rattle.law_witnesses.specs.Recorded.{BeginWithRead}

-- where all that were asked for were served, they were held one after another
pub all_held : {D R W B : Type 0} (way : Way D R W) (gives : ℤ → Type 0) (forward : BlockFunction) (see : B → Seen)
    (loses : Seen → OpenFault → Type 0) (count : ℕ) (old : Service D B) (door : D) (left : Option (List ℤ)) (printed : Text)
    (served : Result (B × Bool) OpenFault) (books : B) → served ≡ Ok (books, true)
    → AreServed way gives forward see loses count old door left served printed
    → AreHeld way gives forward see count old (service door books left) printed
all_held way gives forward see loses count old door left printed served books is were =
    let Were : Result _ OpenFault → Type 0 = λ it. AreServed way gives forward see loses count old door left it printed in
    subst Were is were

-- ---- the uses of a connection begin with a read

no_faulty : (fault : MessageFault) → ¬ BeginsFaulty [] fault
no_faulty fault x = no_empty_head x.head x.rest x.begins

-- no text is written for no input: no message, no refusal and no interim reply
none_refused : (fault : MessageFault) → ¬ IsMessageRefused ended [] fault
none_refused Head x = omega (arith, x.0)
none_refused Method x = no_faulty Method x
none_refused Host x = no_faulty Host x
none_refused Coding x = no_faulty Coding x
none_refused Length x = no_faulty Length x
none_refused Body x = no_faulty Body x

no_text : {O : Type 0} (step : O → MessageExchange → O → Type 0) (refusal : MessageFault → List ℕ) (rest : List ℕ) (old : O) (text : List ℕ)
    (new : O) → [] ≡ rest → ¬ IsNextText step refusal rest old text new
no_text step refusal [] old text new none (inl reply) = no_empty_head reply.begins.head _ reply.begins.begins
no_text step refusal [] old text new none (inr (inl refused)) = none_refused refused.fault refused.is_refused
no_text step refusal [] old text new none (inr (inr interim)) = no_empty_head interim.expects.head interim.expects.rest interim.expects.begins
no_text step refusal (byte ∷ bytes) old text new none next = cc

none_left : (messages : List Message) (rest : List ℕ) → BeginsMessages [] messages rest → [] ≡ rest
none_left [] rest same = same
none_left (message ∷ messages) rest (after, begins, open_still, others) = absurd (no_empty_head begins.head _ begins.begins)

nothing_offered : {O : Type 0} (step : O → MessageExchange → O → Type 0) (refusal : MessageFault → List ℕ) (old : Timed O) (wrote offered : List ℕ)
    → ¬ MayOffer step refusal old [] wrote offered
nothing_offered step refusal old wrote offered may =
    no_text _ refusal may.rest may.mid may.next may.new (none_left _ may.rest may.answered.begins) may.is_next

begin_with_read : {O : Type 0} (step : O → MessageExchange → O → Type 0) (refusal : MessageFault → List ℕ) (old : Timed O) (uses : List Use)
    → AreInTurn step refusal old [] uses → BeginWithRead uses
begin_with_read step refusal old [] turn = tt
begin_with_read step refusal old (asked count passed ∷ uses) ((open_still, may, window, fits), others) = window
begin_with_read step refusal old (sent offered passed ∷ uses) ((sound, may), others) = nothing_offered step refusal old [] offered may

-- where the line of one connection recorded nothing before it, and these uses behind it
pub recorded_read : {D R W B : Type 0} (way : Way D R W) (gives : ℤ → Type 0) (forward : BlockFunction) (see : B → Seen)
    (old new : Service D B) (printed : Text) (uses : List Use)
    → ((door held : D) (reader : R) (writer : W) (line : way.Line) → way.accepts door reader writer line held → way.uses line ≡ Some [])
    → ((held : D) (read : R) (written : W) (line : way.Line) (end : End) → way.ends held read written line end new.door → way.uses line ≡ Some uses)
    → AreHeld way gives forward see 1 old new printed → BeginWithRead uses
recorded_read way gives forward see old new printed uses fresh kept (mid, before, same, (ready, are, one), all) =
    let Told : Option (List Use) → Type 0 = λ told. Grows told (way.uses one.used) one.paced.0 in
    let Tells : Option (List Use) → Type 0 = λ tells. Grows (Some []) tells one.paced.0 in
    let told : uses ≡ one.paced.0 =
    subst Tells (kept one.held one.read one.written one.used one.end one.ended)
    (subst Told (fresh mid.door one.held one.reader one.writer one.line one.accepted) one.paced.1) in
    subst BeginWithRead (sym told) (begin_with_read _ _ _ one.paced.0 one.paced.2.in_turn)
