-- The sales that connections were told of, in replies that were written whole or cut off.
use Rattle.std.proofs.Common.{inl, inr}
use Rattle.std.specs.Prelude.{◌⊎◌, ℕ, zero, suc, List, [], ◌∷◌, Option, Result, Ok, Err}
use Rattle.std.specs.Prelude.{Contains}
use Rattle.book_states.specs.declared.lookup.Found.{Found}
use Rattle.book_states.specs.declared.lookup.Found.TheVariants as found
use Rattle.conversation.specs.Exchanges.{Exchanged, MessageExchange, Timed, timed}
use Rattle.conversation.specs.Conversation.{IsNextText}
use Rattle.conversation.specs.Run.{IsRun}
use Rattle.conversation.specs.declared.end.End.{End}
use Rattle.conversation.specs.declared.end.End.TheVariants.{Closed, BadMessage, ReadFault}
use Rattle.conversation.specs.declared.end.End.TheVariants.{WriteFault, Memory}
use Rattle.desk.specs.Along.{AskedOffice, Served}
use Rattle.desk.specs.Answering.{IsServed, answers_by, life_serves, message_refusal_of}
use Rattle.desk_messages.specs.declared.reply.outcome.Outcome.{Outcome}
use Rattle.desk_messages.specs.declared.reply.outcome.Outcome.TheVariants as outcomes
use Rattle.sts_token.specs.Token.{BlockFunction}
use Rattle.office_rules.specs.Law.Handed.{sales_of}
use Rattle.vend_core.specs.Law.Life.{Life}
use Rattle.office_rules.specs.declared.decision.refusal.Refusal.{Refusal}
use Rattle.office_rules.specs.declared.office.sale.Sale.{Sale}
use Rattle.vend_commands.specs.serving.Connections.{Service}
use Rattle.program_laws.specs.Courses.{AreLived, Course}
use Rattle.vend_commands.specs.port.Machines.{Way}

-- the sales in what was found
abbrev pub sales_found : Result Found Refusal → List Sale
sales_found (Ok (found.Health health)) = []
sales_found (Ok (found.Meter summary)) = []
sales_found (Ok (found.Sale s)) = s ∷ []
sales_found (Ok (found.Quote quoted)) = []
sales_found (Ok (found.ShiftTotals number totals)) = []
sales_found (Ok (found.Tariffs page)) = []
sales_found (Ok (found.Meters page)) = []
sales_found (Ok (found.Shifts page)) = []
sales_found (Ok (found.Sales page)) = page.items
sales_found (Err refusal) = []

-- those in what came of a message
abbrev pub sales_came : Outcome → List Sale
sales_came (outcomes.Refused fault) = []
sales_came (outcomes.Faulty fault) = []
sales_came (outcomes.Replied form reply) = sales_of reply
sales_came (outcomes.Found form found) = sales_found found

-- The message asked something of the life and was told what came of it, by which the life went on:
-- the reply to a request, or what was looked up in it. And the sale is in that.
pub record ExchangeTells (old : Life) (x : MessageExchange) (new : Life) (s : Sale) : Type 0 where
  pub served : Served
  pub asked : AskedOffice x served
  pub goes : IsServed life_serves served.moment served.ask served.outcome old new
  pub has : Contains (sales_came served.outcome) s

-- one of these exchanges told it
abbrev pub ExchangesTell : (old : Timed Life) → (xs : List MessageExchange) → (new : Timed Life)
    → Exchanged (timed (answers_by life_serves)) old xs new → Sale → Type 0
ExchangesTell old [] new same s = ⊥
ExchangesTell old (x ∷ xs) new (mid, first, later) s =
    ExchangeTells old.0 x mid.0 s ⊎ ExchangesTell mid xs new later s

-- the last text was a reply that told it, though the writer took a beginning of it alone
abbrev pub CutReplyTells : {old new : Timed Life} → {rest last : List ℕ}
    → IsNextText (timed (answers_by life_serves)) message_refusal_of rest old last new → Sale
    → Type 0
CutReplyTells {old} {new} (inl reply) s = ExchangeTells old.0 reply.exchange new.0 s
CutReplyTells (inr other) s = ⊥

-- One of the exchanges of a connection told it whose reply was written: whole, or up to where the
-- writer failed. Where memory was short it was one of those before.
abbrev pub RunTells : (old new : Timed Life) → (unread left held holds : Option (List ℕ))
    → (end : End)
    → IsRun (answers_by life_serves) message_refusal_of old new unread left held holds end
    → Sale → Type 0
RunTells old new unread left held holds Closed (input, all, inl (expects, said)) s =
    ExchangesTell old said.conversation.exchanges new said.conversation.served s
RunTells old new unread left held holds Closed (input, all, inr said) s =
    ExchangesTell old said.conversation.exchanges new said.conversation.served s
RunTells old new unread left held holds BadMessage (input, all, fault, said) s =
    ExchangesTell old said.conversation.exchanges new said.conversation.served s
RunTells old new unread left held holds ReadFault (input, taken, expects, said) s =
    ExchangesTell old said.conversation.exchanges new said.conversation.served s
RunTells old new unread left held holds WriteFault (input, all, text, appends, cut) s =
    ExchangesTell old cut.before.exchanges cut.mid cut.before.served s
    ⊎ CutReplyTells cut.is_last s
RunTells old new unread left held holds Memory (input, all, text, appends, given) s =
    ExchangesTell old given.before.exchanges given.mid given.before.served s

-- one of so many connections was told it
abbrev pub ConnectionsTell : {D R W : Type 0} → (way : Way D R W) → (forward : BlockFunction)
    → (count : ℕ) → (old new : Service D Course) → AreLived way forward count old new → Sale
    → Type 0
ConnectionsTell way forward zero old new same s = ⊥
ConnectionsTell way forward (suc count) old new (mid, before, (next, is, goes)) s =
    ConnectionsTell way forward count old mid before s
    ⊎ RunTells (next.life, mid.answers) (new.books.life, new.answers) (way.remaining goes.reader)
    (way.remaining goes.read) (way.contents goes.writer) (way.contents goes.written) goes.end
    goes.run s
