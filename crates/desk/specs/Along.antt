-- What the messages of a conversation asked of an office, in order, and what came of it.
use Rattle.std.specs.Prelude.{◌≡◌, ◌⊎◌, ℕ, List, [], ◌∷◌, map}
use Rattle.vend_core.specs.Law.Life.{Life}
use Rattle.asks.specs.declared.ask.Ask.{Ask}
use Rattle.conversation.specs.Exchanges.{MessageExchange}
use Rattle.desk_messages.specs.declared.desk_fault.DeskFault.{DeskFault}
use Rattle.desk_messages.specs.declared.reply.outcome.Outcome.{Outcome}
use Rattle.desk_messages.specs.declared.reply.outcome.Outcome.TheVariants.{Faulty}
use Rattle.desk_messages.specs.Meaning.{MessageAsks, MessageHasFault}
use Rattle.desk_messages.specs.reply.HttpDate.{moment_given}
use Rattle.desk_messages.specs.reply.Text.{reply_to}
use Rattle.desk.specs.Answering.{IsServed, life_serves}

-- the message asked nothing of the office, and was told why
pub record AskedNothing (x : MessageExchange) : Type 0 where
  pub fault : DeskFault
  pub has : MessageHasFault x.message x.now fault
  pub told : x.reply
      ≡ reply_to x.message.method (moment_given x.now) (Faulty fault) x.message.closes

-- what was asked of the office at which moment, and what came of it
pub record Served : Type 0 where
  pub moment : ℕ
  pub ask : Ask
  pub outcome : Outcome

-- the message asked this of the office, and was told what came of it
pub record AskedOffice (x : MessageExchange) (s : Served) : Type 0 where
  pub asks : MessageAsks x.message x.now s.moment s.ask
  pub told : x.reply
      ≡ reply_to x.message.method (moment_given x.now) s.outcome x.message.closes

-- what these exchanges asked of the office, each once and in order, and nothing beside
abbrev pub AreAsked : List MessageExchange → List Served → Type 0
AreAsked [] served = served ≡ []
AreAsked (x ∷ xs) served =
    (AskedNothing x × AreAsked xs served)
    ⊎ ((s : Served) × (later : List Served) × AskedOffice x s × (served ≡ s ∷ later)
    × AreAsked xs later)

-- a life goes on by what it was served, in order
abbrev pub GoesBy : Life → List Served → Life → Type 0
GoesBy old [] new = new ≡ old
GoesBy old (s ∷ served) new =
    (mid : Life) × IsServed life_serves s.moment s.ask s.outcome old mid × GoesBy mid served new

-- what came of each
abbrev pub outcomes_of : List Served → List Outcome
outcomes_of served = map (λ s. s.outcome) served
