-- The messages of an input, by its whole bytes and by how it stops.
use Rattle.std.specs.Prelude.{◌≡◌, ℕ, ◌+◌, ◌<◌, ◌⊎◌, Bool, List, [], ◌∷◌, ◌++◌, length, Ok, Err}
use Rattle.std.specs.Prelude.{MatchBool, ⊤, false, true}
use Rattle.httparse.specs.Grammar.{RequestHead}
use Rattle.conversation.specs.declared.message.framing.Framing.{Framing}
use Rattle.conversation.specs.declared.message.message_fault.MessageFault.{MessageFault}
use Rattle.conversation.specs.declared.message.message_fault.MessageFault.TheVariants.{Head}
use Rattle.conversation.specs.declared.message.method.Method.{Method}
use Rattle.conversation.specs.message.Framing.{framing_of}
use Rattle.conversation.specs.message.Heads.{BeginsWithHead, HasNoHead, NeverHasHead, longest_head}
use Rattle.conversation.specs.message.Target.{path_of}

-- how an input stops: it ends, or its reader fails
pub data Stop : Type 0 where
  ended failed : Stop

-- what the desk looks at in a message; its target is the path and the query, and it may expect an
-- interim reply before its body is sent
pub record Message : Type 0 where
  pub method : Method
  pub target : List ℕ
  pub body : List ℕ
  pub closes : Bool
  pub expects : Bool

-- the input begins with the message, and the rest follows it
pub record BeginsMessage (input : List ℕ) (m : Message) (rest : List ℕ) : Type 0 where
  pub head : RequestHead
  pub begins : BeginsWithHead input head (m.body ++ rest)
  pub target : path_of head.target ≡ m.target
  pub framed : framing_of head
      ≡ Ok (record {
        method = m.method;
        body = length m.body;
        closes = m.closes;
        expects = m.expects;
      })

-- the input begins with a head that has this fault
pub record BeginsFaulty (input : List ℕ) (fault : MessageFault) : Type 0 where
  pub head : RequestHead
  pub rest : List ℕ
  pub begins : BeginsWithHead input head rest
  pub faulty : framing_of head ≡ Err fault

-- the input ends within a message, so many bytes before the end of its body; the message expects an
-- interim reply, or none
pub record LacksBody (input : List ℕ) (missing : ℕ) (expects : Bool) : Type 0 where
  pub head : RequestHead
  pub framing : Framing
  pub body : List ℕ
  pub begins : BeginsWithHead input head body
  pub framed : framing_of head ≡ Ok framing
  pub expects_so : framing.expects ≡ expects
  pub lacks : length body + missing ≡ framing.body
  pub some : 0 < missing

abbrev pub IsCutMessage : List ℕ → Bool → Type 0
IsCutMessage input expects = (missing : ℕ) × LacksBody input missing expects

-- the input begins with the head of a message that expects an interim reply
pub record BeginsExpecting (input : List ℕ) : Type 0 where
  pub head : RequestHead
  pub rest : List ℕ
  pub framing : Framing
  pub begins : BeginsWithHead input head rest
  pub framed : framing_of head ≡ Ok framing
  pub expects : framing.expects ≡ true

-- an interim reply may have been written for the front of the input: if it was, that expects one
abbrev pub IsTold : List ℕ → Bool → Type 0
IsTold input true = BeginsExpecting input
IsTold input false = ⊤

-- the input has bytes and begins with no head; where its reader failed, whatever might have
-- followed
abbrev pub BeginsNoHead : Stop → List ℕ → Type 0
BeginsNoHead ended input = (0 < length input) × HasNoHead input
BeginsNoHead failed input = NeverHasHead input

-- the front of an input that stops so is refused for this fault
abbrev pub IsMessageRefused : Stop → List ℕ → MessageFault → Type 0
IsMessageRefused stop input Head = BeginsNoHead stop input
IsMessageRefused stop input fault = BeginsFaulty input fault

-- How the messages of an input end: nothing follows but a message that is cut; what follows is
-- refused; the last one closes the conversation; or the reader failed before one was whole. A
-- message that is cut may expect an interim reply.
pub data Ending : Type 0 where
  finished broken : (expects : Bool) → Ending
  closing : Ending
  refused : MessageFault → Ending

-- what is left of an input that stops so, if no message does follow, ends it like this
abbrev pub EndsAs : Stop → List ℕ → Ending → Type 0
EndsAs ended input (finished expects) =
    ((input ≡ []) × (expects ≡ false)) ⊎ IsCutMessage input expects
EndsAs failed input (finished expects) = ⊥
EndsAs ended input (broken expects) = ⊥
EndsAs failed input (broken expects) =
    (HasNoHead input × (length input < longest_head) × (expects ≡ false))
    ⊎ IsCutMessage input expects
EndsAs stop input (refused fault) = IsMessageRefused stop input fault
EndsAs stop input closing = ⊥

-- the input is these messages, one after another, and then ends like this
abbrev pub Messages : Stop → List ℕ → List Message → Ending → Type 0
Messages stop input [] ending = EndsAs stop input ending
Messages stop input (m ∷ ms) ending =
    (rest : List ℕ) × BeginsMessage input m rest
    × MatchBool m.closes ((ms ≡ []) × (ending ≡ closing)) (Messages stop rest ms ending)

-- the endings that an input may have whose reader failed before it began with a head, where none
-- could have followed
abbrev pub IsEither : Ending → Type 0
IsEither (broken false) = ⊤
IsEither (refused Head) = ⊤
IsEither ending = ⊥

-- two endings of one input are one, but for those two
abbrev pub AgreeBy : Stop → Ending → Ending → Type 0
AgreeBy ended e f = e ≡ f
AgreeBy failed e f = (e ≡ f) ⊎ (IsEither e × IsEither f)
