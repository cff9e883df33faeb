-- What holds of a command that asks a desk. The desk read what the command sent, and answered it by
-- its own law, and its whole reply came.
use Rattle.std.specs.Prelude.{◌≡◌, ◌≤◌, ◌⊎◌, ◌<◌, ◌^◌, ℕ, ℤ, pos, Bool, true, List, []}
use Rattle.std.specs.Prelude.{Option, Some, Result, Ok, IfErr, All, length}
use Rattle.std.specs.Borrow.{Bor}
use Rattle.clap.specs.Walk.{Row}
use Rattle.asks.specs.declared.ask.Ask.{Ask}
use Rattle.asks.specs.declared.ask.Ask.TheVariants.{Do, Receipt, Look}
use Rattle.asks.specs.declared.lookup.Lookup.{Lookup}
use Rattle.asks.specs.declared.lookup.Lookup.TheVariants as lookups
use Rattle.book_facts.specs.Lookups.{IsOfRules}
use Rattle.book_states.specs.declared.lookup.Found.{Found}
use Rattle.book_states.specs.declared.lookup.Found.TheVariants as found
use Rattle.book_states.specs.declared.lookup.Health.{Health}
use Rattle.books.specs.Looking.{IsFoundAt}
use Rattle.command_line.specs.Commands.{SaysOffice}
use Rattle.command_line.specs.declared.office_words.OfficeWords.{OfficeWords}
use Rattle.conversation.specs.Conversation.{Conversation}
use Rattle.conversation.specs.Exchanges.{Timed, timed}
use Rattle.conversation.specs.message.Messages.{Ending, ended}
use Rattle.desk.specs.Answering.{LifeReplies, answers_by, life_serves, message_refusal_of}
use Rattle.desk_client.specs.Answers.{IsReplyTo}
use Rattle.desk_client.specs.Reply.{IsReply, longest_reply_body}
use Rattle.desk_client.specs.Sent.{CanSend, IsNoMoment, ask_text, wanted_by}
use Rattle.desk_client.specs.Tells.{as_told}
use Rattle.desk_client.specs.declared.told.Granted.TheVariants as grants
use Rattle.desk_client.specs.declared.told.Told.{Told}
use Rattle.desk_client.specs.declared.told.Told.TheVariants as tells
use Rattle.desk_commands.specs.AskedOfDesk.{TellsTold}
use Rattle.desk_commands.specs.Exchanged.{Round}
use Rattle.desk_commands.specs.ListedAtDesk.{IsNoList, TellPages}
use Rattle.office_rules.specs.Office.{IsOffice}
use Rattle.office_rules.specs.declared.decision.answer.Answer.{Answer}
use Rattle.office_rules.specs.declared.decision.refusal.Refusal.{Refusal}
use Rattle.office_rules.specs.declared.decision.request.Order.{Order}
use Rattle.office_rules.specs.declared.decision.request.Request.{Request}
use Rattle.office_rules.specs.declared.decision.request.Request.TheVariants as requests
use Rattle.office_rules.specs.declared.office.sale.Sale.{Sale}
use Rattle.papers.specs.Receipt.{receipt_of}
use Rattle.sts_fields.specs.Moment.{IsMoment}
use Rattle.sts_fields.specs.Text.{Text}
use Rattle.vend_core.specs.Law.Life.{HandsOut, IsLife, Life, acknowledges}
use Rattle.vend_core.specs.Law.LifeLaws.{IsReadingRequest}
use Rattle.vend_core.specs.Law.Reached.{IsPlausible}
use Rattle.vend_ports.specs.declared.command_end.CommandEnd.{CommandEnd}
use Rattle.vend_ports.specs.declared.command_end.CommandEnd.TheVariants.{Refused}
use Rattle.vend_ports.specs.print.Printed.{clock_line}
use Rattle.vend_ports.specs.print.Told.{IsTold, Outputs}
use Rattle.program_laws.specs.AtDesk.{AreAnsweredOn, AskForOne, AskForPages, AsksNoHealth}
use Rattle.program_laws.specs.AtDesk.{IsAnsweredAt, IsAskedByOne, IsGivenOn, IsOneLookup}
use Rattle.program_laws.specs.AtDesk.{IsPageOrRefusal, IsSoldIn, PrintsAsOnFile, PrintsList}
use Rattle.program_laws.specs.AtDesk.{came_in, sent_in}

-- what the words of a command ask can be asked of a desk
pub record AreAskable : Type 0 where
  -- one thing by one message
  pub one : (name : Text) (rows : List Row) (words : OfficeWords) (ask : Ask)
      → SaysOffice name rows words → AskForOne words.ask ask
      → CanSend ask × IsAskedByOne words.json ask
  -- or the pages of a list
  pub pages : (name : Text) (rows : List Row) (words : OfficeWords) (list : Lookup)
      → SaysOffice name rows words → AskForPages words.ask list
      → CanSend (Look list) × (¬ IsNoList list)

-- A desk answers what is sent: a conversation over these bytes is their exchanges and no others, as
-- long as the line loses and changes none of them, nor any of what the desk writes.
pub record AreAnswered : Type 0 where
  pub one : (ask : Ask) (old new : Timed Life) (came : Text) (ending : Ending) → CanSend ask
      → Conversation (timed (answers_by life_serves)) message_refusal_of ended (ask_text ask) old
      came ending new
      → (second : ℤ) × IsAnsweredAt second old (ask_text ask) came new
  pub pages : (list : Lookup) (day : ℕ) (old new : Timed Life) (rounds : List Round)
      (told : List Found) (left : Option Lookup) (ending : Ending) → CanSend (Look list)
      → IsOffice old.0.opening → IsLife old.0 → TellPages (Some list) rounds told left
      → length (came_in rounds) < 2 ^ 64
      → (held : Conversation (timed (answers_by life_serves)) message_refusal_of ended
      (sent_in rounds) old (came_in rounds) ending new)
      → All (λ x. IsGivenOn day x.now) held.exchanges → AreAnsweredOn day old rounds new

-- what the command prints of an answer
pub record ArePrinted : Type 0 where
  -- one ask: the reply or what was found, printed as on the file
  pub one : (ask : Ask) (json : Bool) (moment : ℕ) (old new : Timed Life) (came : Text)
      (told : Told) (o : Outputs) (end : CommandEnd) → IsAskedByOne json ask → CanSend ask
      → IsMoment moment → IsOffice old.0.opening → IsLife new.0
      → IsAnsweredAt (pos moment) old (ask_text ask) came new → IsReply (wanted_by ask) came told
      → TellsTold json ask told o end → PrintsAsOnFile json ask moment old.0 new.0 o end
  -- a list: its pages, of one day, and the list that is left behind them
  pub pages : (list : Lookup) (day : ℕ) (old new : Timed Life) (rounds : List Round)
      (told : List Found) (left : Option Lookup) → CanSend (Look list) → IsOffice old.0.opening
      → IsLife old.0 → AreAnsweredOn day old rounds new → TellPages (Some list) rounds told left
      → PrintsList day list told left old.0 new.0
  -- a desk's clock outside the moments of an office: that is printed, and the office is as it was
  pub clock : (ask : Ask) (json : Bool) (second : ℤ) (old new : Timed Life) (came : Text)
      (told : Told) (o : Outputs) (end : CommandEnd) → CanSend ask → IsNoMoment second
      → IsAnsweredAt second old (ask_text ask) came new → IsReply (wanted_by ask) came told
      → TellsTold json ask told o end → IsTold o [] clock_line Refused end × (new.0 ≡ old.0)

-- The command takes each answer for what it is, up to the longest body, of an office that requests
-- may have led to. No command asks a desk for its health.
pub record AreRead : Type 0 where
  pub one : (ask : Ask) (moment : ℕ) (old new : Timed Life) (came : Text) → AsksNoHealth ask
      → CanSend ask → IsMoment moment → IsOffice old.0.opening → IsPlausible old.0.opening
      → IsLife new.0 → IsAnsweredAt (pos moment) old (ask_text ask) came new
      → length came ≤ longest_reply_body → (told : Told) × IsReplyTo ask came told
  pub page : (list : Lookup) (moment : ℕ) (old new : Timed Life) (came : Text) → ¬ IsNoList list
      → CanSend (Look list) → IsMoment moment → IsOffice old.0.opening
      → IsPlausible old.0.opening → IsLife old.0
      → IsAnsweredAt (pos moment) old (ask_text (Look list)) came new
      → length came ≤ longest_reply_body → IsPageOrRefusal list came

-- the sales that are told
pub record AreHandedOut : Type 0 where
  -- one that is told, but for the nibble that no reply tells, was handed out by the desk's life
  pub sale : (ask : Ask) (moment : ℕ) (old new : Timed Life) (came : Text) (s : Sale) → CanSend ask
      → IsMoment moment → IsOffice old.0.opening → IsLife new.0
      → IsAnsweredAt (pos moment) old (ask_text ask) came new
      → IsReply (wanted_by ask) came (tells.Granted (grants.Sale s))
      → (t : Sale) × (as_told t ≡ s) × HandsOut new.0 t
  -- that of an order was sold for it
  pub sold : (order : Order) (moment : ℕ) (old new : Timed Life) (came : Text) (s : Sale)
      → CanSend (Do (requests.Sell order)) → IsMoment moment → IsOffice old.0.opening
      → IsLife new.0 → IsAnsweredAt (pos moment) old (ask_text (Do (requests.Sell order))) came new
      → IsReply (wanted_by (Do (requests.Sell order))) came (tells.Granted (grants.Sale s))
      → (t : Sale) × (as_told t ≡ s) × IsSoldIn new.0 order t
  -- and a receipt is that of a sale of its number that was handed out
  pub receipt : (number moment : ℕ) (old new : Timed Life) (came : Text) (text : Bor Text)
      → CanSend (Receipt number) → IsMoment moment → IsOffice old.0.opening → IsLife new.0
      → IsAnsweredAt (pos moment) old (ask_text (Receipt number)) came new
      → IsReply (wanted_by (Receipt number)) came (tells.Granted (grants.Paper text))
      → (t : Sale) × (t.number ≡ number) × (text.now ≡ receipt_of t) × HandsOut new.0 t

-- One life has one reply to a request at a moment, and one of what is looked up then, but for want
-- of memory and a store that fails: so books that keep the desk's life in its file reply and find
-- the same.
pub record AreSame : Type 0 where
  -- a report and a receipt are the same at each moment
  pub reply : (life one other : Life) (moment later : ℕ) (request : Request)
      (desk file : Result Answer Refusal) → (moment ≡ later) ⊎ IsReadingRequest request
      → LifeReplies moment request desk life one → LifeReplies later request file life other
      → IsLife one → IsLife other → acknowledges desk ≡ true → acknowledges file ≡ true
      → desk ≡ file
  pub look_up : (life : Life) (moment : ℕ) (lookup : Lookup) (desk file : Result Found Refusal)
      → IsOneLookup lookup → IsFoundAt life moment lookup desk → IsFoundAt life moment lookup file
      → IfErr desk IsOfRules → IfErr file IsOfRules → desk ≡ file
  -- A health tells the same of the sales of one life. Of a write that failed the books that met it
  -- tell alone.
  pub health : (life : Life) (moment later : ℕ) (desk file : Health)
      → IsFoundAt life moment lookups.Health (Ok (found.Health desk))
      → IsFoundAt life later lookups.Health (Ok (found.Health file))
      → (desk.sales ≡ file.sales) × (desk.last_moment ≡ file.last_moment)
