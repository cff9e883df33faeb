-- How an office answers messages, by how it serves requests and what it finds.
use Rattle.std.specs.Prelude.{◌≡◌, ◌≢◌, ℕ, ◌+◌, ◌%◌, ℤ, ◌⊎◌, true, List, length, Option, Result}
use Rattle.std.specs.Prelude.{Ok, Err, None}
use Rattle.papers.specs.declared.row_fault.RowFault.{RowFault}
use Rattle.papers.specs.declared.row_fault.RowFault.TheVariants.{At, Memory}
use Rattle.books.specs.Asking.{ReplyAt}
use Rattle.books.specs.Keeps.{Seen}
use Rattle.books.specs.Looking.{FoundAt, IsFoundAt, TellsHealth}
use Rattle.book_states.specs.declared.lookup.Found.{Found}
use Rattle.vend_core.specs.Law.Life.{Life, present}
use Rattle.vend_core.specs.Law.LifeLaws.{extended_by}
use Rattle.office_rules.specs.declared.decision.answer.Answer.{Answer}
use Rattle.office_rules.specs.declared.decision.refusal.Refusal.{Refusal}
use Rattle.office_rules.specs.declared.decision.refusal.Refusal.TheVariants.{ImportRow, Stopped}
use Rattle.office_rules.specs.declared.decision.request.Request.{Request}
use Rattle.office_rules.specs.declared.decision.request.Request.TheVariants as requests
use Rattle.office_rules.specs.declared.decision.request.Stamped.{Stamped}
use Rattle.office_rules.specs.declared.office.row.Row.{Row}
use Rattle.asks.specs.declared.ask.Ask.{Ask}
use Rattle.asks.specs.declared.ask.Ask.TheVariants as asks
use Rattle.asks.specs.declared.lookup.Lookup.{Lookup}
use Rattle.conversation.specs.declared.message.message_fault.MessageFault.{MessageFault}
use Rattle.conversation.specs.Exchanges.{MessageExchange}
use Rattle.conversation.specs.message.Messages.{Message}
use Rattle.desk_messages.specs.declared.desk_fault.DeskFault.{DeskFault}
use Rattle.desk_messages.specs.declared.reply.form.Form.{Form}
use Rattle.desk_messages.specs.declared.reply.form.Form.TheVariants.{Json, Paper}
use Rattle.desk_messages.specs.declared.reply.outcome.Outcome.{Outcome}
use Rattle.desk_messages.specs.declared.reply.outcome.Outcome.TheVariants.{Faulty, Refused}
use Rattle.desk_messages.specs.declared.reply.outcome.Outcome.TheVariants.{Replied}
use Rattle.desk_messages.specs.declared.reply.outcome.Outcome.TheVariants as outcomes
use Rattle.desk_messages.specs.Meaning.{AreRead, MessageAsks, MessageHasFault, lookup_form}
use Rattle.desk_messages.specs.reply.HttpDate.{moment_given}
use Rattle.desk_messages.specs.reply.Text.{reply_bytes_of, reply_to}

-- How an office serves: at a moment a request gets a reply, and a look-up finds something or is
-- refused, between the office before it and the office after it.
pub record Serving (O : Type 0) : Type 1 where
  pub replies : ℕ → Request → Result Answer Refusal → O → O → Type 0
  pub finds : ℕ → Lookup → Result Found Refusal → O → O → Type 0

-- what comes of a request: the office replies to it, and a sale in the reply is told in this form
abbrev pub IsReplied : {O : Type 0} → Serving O → ℕ → Form → Request → Outcome → O → O → Type 0
IsReplied serves moment form request outcome old new =
    (reply : Result Answer Refusal) × (outcome ≡ Replied form reply)
    × serves.replies moment request reply old new

-- what comes of a file that reads so: its rows are imported, or its first fault refuses it, and
-- then the office is as before
abbrev pub IsImported : {O : Type 0} → Serving O → ℕ → Result (List Row) RowFault → Outcome → O
    → O → Type 0
IsImported serves moment (Ok rows) outcome old new =
    IsReplied serves moment Json (requests.Import rows) outcome old new
IsImported serves moment (Err (At row cause)) outcome old new =
    (outcome ≡ Replied Json (Err (ImportRow row cause))) × (new ≡ old)
IsImported serves moment (Err Memory) outcome old new = ⊥

-- What comes of an ask: the rows of a file are imported; another request is replied to; a receipt
-- is the reprint of a sale, told on paper; or what is looked up is found, or refused, and the
-- office is as the look-up leaves it.
abbrev pub IsServed : {O : Type 0} → Serving O → ℕ → Ask → Outcome → O → O → Type 0
IsServed serves moment (asks.Import kind csv) outcome old new =
    (read : Result (List Row) RowFault) × AreRead kind csv read
    × IsImported serves moment read outcome old new
IsServed serves moment (asks.Do request) outcome old new =
    IsReplied serves moment Json request outcome old new
IsServed serves moment (asks.Receipt sale) outcome old new =
    IsReplied serves moment Paper (requests.Reprint sale) outcome old new
IsServed serves moment (asks.Look lookup) outcome old new =
    (found : Result Found Refusal) × (outcome ≡ outcomes.Found (lookup_form lookup) found)
    × serves.finds moment lookup found old new

-- what comes of a message: it asks nothing, and the office is as before; or what it asks is served,
-- once
abbrev pub Comes : {O : Type 0} → Serving O → Message → Option ℤ → Outcome → O → O → Type 0
Comes serves m now outcome old new =
    ((fault : DeskFault) × MessageHasFault m now fault × (outcome ≡ Faulty fault) × (new ≡ old))
    ⊎ ((moment : ℕ) × (ask : Ask) × MessageAsks m now moment ask
    × IsServed serves moment ask outcome old new)

-- the office answered a message by the reply that tells what came of it, with the date of the
-- moment that the clock gave
abbrev pub answers_by : {O : Type 0} → Serving O → O → MessageExchange → O → Type 0
answers_by serves old x new =
    (outcome : Outcome) × Comes serves x.message x.now outcome old new
    × (x.reply
    ≡ reply_to x.message.method (moment_given x.now) outcome x.message.closes)

-- the reply to a message that is refused, for which the clock is not read, and after which the
-- conversation ends
abbrev pub message_refusal_of : MessageFault → List ℕ
message_refusal_of fault = reply_bytes_of None (Refused fault) true

-- how books of any kind serve, by what contracts see of them; their health is told without a read
abbrev pub books_serve : {B : Type 0} → (B → Seen) → Serving B
books_serve see = record {
  replies = λ moment request reply old new. ReplyAt moment request reply (see old) (see new);
  finds = λ moment lookup found old new. FoundAt moment lookup found (see old) (see new)
      × TellsHealth see lookup found old new;
}

-- the stamped request is this request at this moment, and its nibble that of the next sale's
-- number, unless the office was stopped
pub record IsStampedBy (life : Life) (moment : ℕ) (request : Request)
    (reply : Result Answer Refusal)
    (at : Stamped) : Type 0 where
  pub at_moment : at.moment ≡ moment
  pub for_request : at.request ≡ request
  pub by_number : reply ≢ Err Stopped → at.nibble ≡ (length (present life).sales + 1) % 16

-- a life goes on by this request and this reply, and by nothing beside
abbrev pub LifeReplies : ℕ → Request → Result Answer Refusal → Life → Life → Type 0
LifeReplies moment request reply old new =
    (at : Stamped) × IsStampedBy old moment request reply at × (new ≡ extended_by old at reply)

-- how a life is served: by requests it goes on so; a look-up finds what its present office has, or
-- has no answer, and it stays as it is
abbrev pub life_serves : Serving Life
life_serves = record {
  replies = LifeReplies;
  finds = λ moment lookup found old new. IsFoundAt old moment lookup found × (new ≡ old);
}
