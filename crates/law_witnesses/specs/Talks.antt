-- A conversation that a desk held over a new office.
use Rattle.std.specs.Prelude.{◌≡◌, ℕ, List, []}
use Rattle.books.specs.Headline.{RepresentTheLast}
use Rattle.books.specs.Keeps.{Seen}
use Rattle.conversation.specs.Conversation.{messages_of}
use Rattle.conversation.specs.Exchanges.{MessageExchange}
use Rattle.conversation.specs.message.Messages.{Ending, Messages, ended}
use Rattle.desk.specs.Along.{AreAsked, GoesBy, Served, outcomes_of}
use Rattle.desk.specs.OneConversation.{conversation_text, moments_of}
use Rattle.office_rules.specs.Office.{empty_office}
use Rattle.sts_token.specs.Token.{BlockFunction}
use Rattle.vend_core.specs.Law.Life.{Life}
use Rattle.vend_core.specs.Law.LifeLaws.{opened}

-- All that the input says was exchanged. The books keep the life that goes by what its messages
-- asked and what came of it, and by nothing beside.
pub record IsTalk (input : List ℕ) (books : Seen) : Type 0 where
  pub exchanges : List MessageExchange
  pub ending : Ending
  pub messages : Messages ended input (messages_of exchanges) ending
  pub served : List Served
  pub asked : AreAsked exchanges served
  pub forward : BlockFunction
  pub life : Life
  pub goes : GoesBy (opened forward empty_office) served life
  pub keeps : RepresentTheLast [] life books

-- whatever conversation of the input has the same answers of the clock, and the same came of what
-- it asked, is written so
abbrev pub IsOnlyText : {input : List ℕ} → {books : Seen} → IsTalk input books → List ℕ → Type 0
IsOnlyText {input} talk text = (xs : List MessageExchange) (ending : Ending) (served : List Served)
    → Messages ended input (messages_of xs) ending → moments_of talk.exchanges ≡ moments_of xs
    → AreAsked xs served → outcomes_of talk.served ≡ outcomes_of served
    → text ≡ conversation_text xs ending
