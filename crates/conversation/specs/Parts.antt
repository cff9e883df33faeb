-- What the parts of a run do, which its own proof rests on: to one message, to all that are whole,
-- and where the input ended.
use Rattle.std.specs.Prelude.{◌≡◌, ℕ, ◌≤◌, Bool, false, not, ◌&&◌, List, [], ◌++◌, length, drop}
use Rattle.std.specs.Prelude.{Result, Ok, Err}
use Rattle.conversation.specs.declared.end.End.{End}
use Rattle.conversation.specs.declared.end.End.TheVariants.{Closed, BadMessage, ReadFault}
use Rattle.conversation.specs.declared.end.End.TheVariants.{WriteFault, Memory}
use Rattle.conversation.specs.declared.conversation.Awaiting.{Awaiting}
use Rattle.conversation.specs.declared.message.message_fault.MessageFault.{MessageFault}
use Rattle.conversation.specs.declared.message.message_fault.MessageFault.TheVariants.{Head}
use Rattle.conversation.specs.Conversation.{Conversation, Progress, IsCutOff, IsGivenUp, interim_for}
use Rattle.conversation.specs.Ends.{IsBeginning, IsLeftOfEither, IsNothing, Offer, Output}
use Rattle.conversation.specs.Ends.{WritesLast, WritesWhole}
use Rattle.conversation.specs.Exchanges.{MessageExchange, Timed, timed, GaveUp}
use Rattle.conversation.specs.message.Messages.{Stop, ended, Message, EndsAs, IsMessageRefused}
use Rattle.conversation.specs.message.Messages.{finished, closing, refused}
use Rattle.conversation.specs.Uses.{IsLeftOf, MayOffer}
use Rattle.conversation.specs.Wants.{IsAwaited, told_of}

-- an end that was written as this text, whatever follows the input and however that stops
abbrev pub EndsEarly : {O : Type 0} → (O → MessageExchange → O → Type 0) → (MessageFault → List ℕ)
    → Timed O → List ℕ → Timed O → List ℕ → End → Type 0
EndsEarly step refusal old text new input Closed =
    (stop : Stop) (more : List ℕ)
    → Conversation (timed step) refusal stop (input ++ more) old text closing new
EndsEarly step refusal old text new input BadMessage =
    (fault : MessageFault) × ((stop : Stop) (more : List ℕ)
    → Conversation (timed step) refusal stop (input ++ more) old text (refused fault) new)
EndsEarly step refusal old text new input ReadFault = ⊥
EndsEarly step refusal old text new input WriteFault =
    (more : List ℕ) → IsCutOff (timed step) refusal (input ++ more) old text new
EndsEarly step refusal old text new input Memory =
    (more : List ℕ) → IsGivenUp (timed step) (GaveUp step) (input ++ more) old text new

-- an interim reply is due that is expected and was not written
abbrev pub is_due : (expects told : Bool) → Bool
is_due expects told = expects && not told

-- one message was answered, and what is written for it written, behind the interim reply where that
-- was written before; or not
abbrev pub ReplyIsWritten : {O A : Type 0} → (O → MessageExchange → O → Type 0) → (told : Bool)
    → Timed O → Timed O → Output → Output → Message → Result A End → Type 0
ReplyIsWritten step told old new held holds m (Ok _) =
    (x : MessageExchange) × (x.message ≡ m) × timed step old x new
    × WritesWhole (IsLeftOfEither (interim_for (is_due m.expects told)) x.reply) held holds
    (interim_for (is_due m.expects told) ++ x.reply)
ReplyIsWritten step told old new held holds m (Err WriteFault) =
    (x : MessageExchange) × (x.message ≡ m) × timed step old x new
    × IsBeginning (IsLeftOfEither (interim_for (is_due m.expects told)) x.reply) held holds
    (interim_for (is_due m.expects told) ++ x.reply)
ReplyIsWritten step told old new held holds m (Err Memory) =
    GaveUp step old m new × WritesWhole IsNothing held holds []
ReplyIsWritten step told old new held holds m (Err end) = ⊥

-- the refusal of a message was written, or not
abbrev pub RefusalIsWritten : Output → Output → List ℕ → End → Type 0
RefusalIsWritten held holds text BadMessage = WritesWhole (IsLeftOf [] text) held holds text
RefusalIsWritten held holds text WriteFault = IsBeginning (IsLeftOf [] text) held holds text
RefusalIsWritten held holds text Memory = WritesWhole IsNothing held holds []
RefusalIsWritten held holds text end = ⊥

-- the input ended where this was left: it is cut or nothing, or is refused for want of a head; an
-- interim reply was written for it before, or none was
abbrev pub IsOver : (MessageFault → List ℕ) → (told : Bool) → List ℕ → Output → Output → End
    → Type 0
IsOver refusal told rest held holds Closed =
    EndsAs ended rest (finished told) × WritesWhole IsNothing held holds []
IsOver refusal told rest held holds end =
    (told ≡ false) × IsMessageRefused ended rest Head
    × RefusalIsWritten held holds (refusal Head) end

-- behind this, which was written before, all that is left of a text for the input is offered
abbrev pub MayOfferBehind : {O : Type 0} → (O → MessageExchange → O → Type 0)
    → (MessageFault → List ℕ) → (front : List ℕ) → Timed O → (input : List ℕ) → Offer
MayOfferBehind step refusal front old input wrote offered =
    MayOffer step refusal old input (front ++ wrote) offered

-- Behind the interim reply, where that was written before, all whole messages of the input were
-- answered, and this is left and awaited; or the end came.
abbrev pub RepliesAreWritten : {O : Type 0} → (O → MessageExchange → O → Type 0)
    → (MessageFault → List ℕ) → (told : Bool)
    → Timed O → Timed O → Output → Output → List ℕ → Result Awaiting End → Type 0
RepliesAreWritten step refusal told old new held holds input (Ok awaiting) =
    (text : List ℕ) × (whole : List ℕ)
    × WritesWhole (MayOfferBehind step refusal (interim_for told) old input) held holds text
    × (awaiting.len ≤ length input)
    × Progress (timed step) input (drop awaiting.len input) old whole new
    × IsAwaited (drop awaiting.len input) awaiting.wants
    × (interim_for told ++ text ≡ whole ++ interim_for (told_of awaiting.wants))
RepliesAreWritten step refusal told old new held holds input (Err end) =
    (text : List ℕ)
    × WritesLast end (MayOfferBehind step refusal (interim_for told) old input) held holds text
    × EndsEarly step refusal old (interim_for told ++ text) new input end

-- an end that was written as this text where the input ended
abbrev pub EndsHere : {O : Type 0} → (O → MessageExchange → O → Type 0) → (MessageFault → List ℕ)
    → Timed O → List ℕ → Timed O → List ℕ → End → Type 0
EndsHere step refusal old text new input Closed =
    (expects : Bool)
    × Conversation (timed step) refusal ended input old text (finished expects) new
EndsHere step refusal old text new input BadMessage =
    (fault : MessageFault)
    × Conversation (timed step) refusal ended input old text (refused fault) new
EndsHere step refusal old text new input ReadFault = ⊥
EndsHere step refusal old text new input WriteFault =
    IsCutOff (timed step) refusal input old text new
EndsHere step refusal old text new input Memory =
    IsGivenUp (timed step) (GaveUp step) input old text new
