-- What `next_of` says of an input.
use Rattle.std.specs.Prelude.{◌≡◌, ℕ, ◌≤◌, Bool, List, ◌++◌, length, drop, ⊤}
use Rattle.conversation.specs.declared.message.next.Next.{Next}
use Rattle.conversation.specs.declared.message.next.Next.TheVariants.{Whole, Refused, NeedHead}
use Rattle.conversation.specs.declared.message.next.Next.TheVariants.{NeedBody}
use Rattle.conversation.specs.declared.message.message_fault.MessageFault.{MessageFault}
use Rattle.conversation.specs.declared.message.message_fault.MessageFault.TheVariants.{Head}
use Rattle.conversation.specs.declared.message.received.Received.{Received}
use Rattle.conversation.specs.message.Heads.{HasNoHead, AwaitsHead}
use Rattle.conversation.specs.message.Messages.{Stop, Message, BeginsMessage, BeginsFaulty}
use Rattle.conversation.specs.message.Messages.{LacksBody, IsMessageRefused}

-- a message that was received, without where it lies in memory
abbrev pub message_of : Received → Message
message_of r = record {
  method = r.method;
  target = r.target.now;
  body = r.body.now;
  closes = r.closes;
  expects = r.expects;
}

-- the message stands at the front of the input, and takes so many bytes of it
pub record IsWhole (input : List ℕ) (r : Received) : Type 0 where
  pub begins : BeginsMessage input (message_of r) (drop r.len input)
  pub len : r.len ≤ length input

-- whatever follows the input, and however that stops, its front is refused for this fault
abbrev pub IsRefusedEver : List ℕ → MessageFault → Type 0
IsRefusedEver input fault =
    (stop : Stop) (more : List ℕ) → IsMessageRefused stop (input ++ more) fault

-- what each answer says
abbrev pub BeginsAs : List ℕ → Next → Type 0
BeginsAs input (Whole received) = IsWhole input received
BeginsAs input (Refused fault) = IsRefusedEver input fault
BeginsAs input NeedHead = AwaitsHead input
BeginsAs input (NeedBody missing expects) = LacksBody input missing expects

-- the answer is this message, and the rest follows it
abbrev pub IsWholeOf : List ℕ → Message → List ℕ → Next → Type 0
IsWholeOf input m rest (Whole received) =
    (message_of received ≡ m) × (drop received.len input ≡ rest)
IsWholeOf input m rest (Refused fault) = ⊥
IsWholeOf input m rest NeedHead = ⊥
IsWholeOf input m rest (NeedBody missing expects) = ⊥

-- the answer is that there is no head, or that more is needed for one
abbrev pub IsHeadless : Next → Type 0
IsHeadless (Whole received) = ⊥
IsHeadless (Refused fault) = fault ≡ Head
IsHeadless NeedHead = ⊤
IsHeadless (NeedBody missing expects) = ⊥

-- what stands at the front of the input is the answer
pub record FindsNext (input : List ℕ) (next : Next) : Type 0 where
  pub whole : (m : Message) (rest : List ℕ) → BeginsMessage input m rest
      → IsWholeOf input m rest next
  pub faulty : (fault : MessageFault) → BeginsFaulty input fault → next ≡ Refused fault
  pub cut : (missing : ℕ) (expects : Bool) → LacksBody input missing expects
      → next ≡ NeedBody missing expects
  pub headless : HasNoHead input → IsHeadless next
