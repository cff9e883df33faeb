-- What a desk answers, and what is held of the connection of one who reads it; and what words ask.
use Rattle.std.specs.Prelude.{◌≡◌, ℕ, ℤ, List, [], ◌∷◌, ◌++◌, length, Some}
use Rattle.asks.specs.declared.ask.Ask.{Ask}
use Rattle.asks.specs.declared.ask.Ask.TheVariants.{Do}
use Rattle.books.specs.Keeps.{Represents, Seen}
use Rattle.command_line.specs.Asked.{AskFor}
use Rattle.command_line.specs.declared.asked.Asked.TheVariants.{Serve}
use Rattle.command_line.specs.declared.commands.serve.ServeWords.{ServeWords}
use Rattle.conversation.specs.Conversation.{Conversation}
use Rattle.conversation.specs.Exchanges.{Timed, timed}
use Rattle.conversation.specs.message.Messages.{Ending, ended}
use Rattle.desk.specs.Answering.{answers_by, life_serves, message_refusal_of}
use Rattle.office_rules.specs.declared.decision.request.Order.{Order}
use Rattle.office_rules.specs.declared.decision.request.Request.TheVariants.{Sell}
use Rattle.sts_fields.specs.Text.{Text}
use Rattle.vend_core.specs.Law.Life.{Life}

-- what is to be read on a connection, with its length, and then what was written
abbrev pub transcript : (unread sent : List ℕ) → List ℕ
transcript unread sent = length unread ∷ (unread ++ sent)

-- The books answered all messages of this input by this text, at this second: every life that they
-- kept goes on by that, and they keep it.
pub record AreAnswering (second : ℤ) (input text : List ℕ) (old new : Seen) : Type 0 where
  pub lives : (life : Life) → Represents life old
      → (after : Timed Life) × Represents after.0 new × ((ending : Ending)
      × Conversation (timed (answers_by life_serves)) message_refusal_of ended input
      (life, Some (second ∷ [])) text ending after)

-- the words ask to serve so many connections
abbrev pub WordsServe : List Text → ℕ → Type 0
WordsServe words count = (it : ServeWords) × AskFor words (Serve it) × (it.connections ≡ count)

-- what asks a desk to sell this order
abbrev pub ask_to_sell : Order → Ask
ask_to_sell order = Do (Sell order)

-- the operator, the ref, the meter and the tender of two orders are the same
pub record AreOneOrder (one other : Order) : Type 0 where
  pub operator : one.operator ≡ other.operator
  pub order_ref : one.order_ref ≡ other.order_ref
  pub meter : one.meter ≡ other.meter
  pub tender : one.tender ≡ other.tender
