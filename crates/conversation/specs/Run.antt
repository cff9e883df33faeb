-- What a run does: to the office with the answers of its clock, to what a reader has left and to
-- what a writer holds, where these are known.
use Rattle.std.specs.Prelude.{◌≡◌, ℕ, ◌⊎◌, Bool, List, Option, None, Some, ⊤}
use Rattle.std.specs.Io.KnownBytes.{Appends, Consumes}
use Rattle.conversation.specs.declared.end.End.{End}
use Rattle.conversation.specs.declared.end.End.TheVariants.{Closed, BadMessage, ReadFault}
use Rattle.conversation.specs.declared.end.End.TheVariants.{WriteFault, Memory}
use Rattle.conversation.specs.declared.message.message_fault.MessageFault.{MessageFault}
use Rattle.conversation.specs.Conversation.{Conversation, IsCutOff, IsGivenUp}
use Rattle.conversation.specs.Exchanges.{MessageExchange, Timed, timed, GaveUp}
use Rattle.conversation.specs.message.Messages.{Stop, ended, failed, Ending, finished, closing}
use Rattle.conversation.specs.message.Messages.{broken, refused}

-- all that a reader has left is the input, where that is known
abbrev pub IsAll : Option (List ℕ) → List ℕ → Type 0
IsAll None input = ⊤
IsAll (Some bytes) input = bytes ≡ input

-- what was written is the conversation of the input, and the office has gone on by it
pub record IsSaid
    {O : Type 0} (step : O → MessageExchange → O → Type 0) (refusal : MessageFault → List ℕ)
    (old new : Timed O) (held holds : Option (List ℕ)) (stop : Stop) (input : List ℕ)
    (ending : Ending) : Type 0 where
  pub text : List ℕ
  pub written : Appends held holds text
  pub conversation : Conversation (timed step) refusal stop input old text ending new

-- how a whole run ends, over all that was left to read or, where a read failed, what was read
abbrev pub IsRun : {O : Type 0} → (O → MessageExchange → O → Type 0) → (MessageFault → List ℕ)
    → Timed O → Timed O → Option (List ℕ) → Option (List ℕ) → Option (List ℕ) → Option (List ℕ)
    → End → Type 0
IsRun step refusal old new unread left held holds Closed =
    (input : List ℕ) × IsAll unread input
    × (((expects : Bool) × IsSaid step refusal old new held holds ended input (finished expects))
    ⊎ IsSaid step refusal old new held holds ended input closing)
IsRun step refusal old new unread left held holds BadMessage =
    (input : List ℕ) × IsAll unread input
    × (fault : MessageFault) × IsSaid step refusal old new held holds ended input (refused fault)
IsRun step refusal old new unread left held holds ReadFault =
    (input : List ℕ) × Consumes unread left input
    × (expects : Bool) × IsSaid step refusal old new held holds failed input (broken expects)
IsRun step refusal old new unread left held holds WriteFault =
    (input : List ℕ) × IsAll unread input
    × (text : List ℕ) × Appends held holds text × IsCutOff (timed step) refusal input old text new
IsRun step refusal old new unread left held holds Memory =
    (input : List ℕ) × IsAll unread input
    × (text : List ℕ) × Appends held holds text
    × IsGivenUp (timed step) (GaveUp step) input old text new
