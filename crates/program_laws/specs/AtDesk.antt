-- What a command that asks a desk prints, said of the desk's office: what the same command prints
-- of an office that it opens in a file.
--
-- The office is a life, since a desk's conversation is one: it goes on by the requests that
-- messages ask and the replies that they get.
use Rattle.std.specs.Prelude.{◌≡◌, ◌⊎◌, ⊤, ℕ, ℤ, pos, Bool, false, List, [], ◌∷◌, Option, Some}
use Rattle.std.specs.Prelude.{◌≤◌, Contains, Result, Ok, Err, length}
use Rattle.std.specs.List.{flat_map}
use Rattle.asks.specs.declared.ask.Ask.{Ask}
use Rattle.asks.specs.declared.ask.Ask.TheVariants.{Import, Do, Receipt, Look}
use Rattle.asks.specs.declared.lookup.Lookup.{Lookup}
use Rattle.asks.specs.declared.lookup.Lookup.TheVariants as lookups
use Rattle.book_states.specs.declared.lookup.Found.{Found}
use Rattle.book_states.specs.declared.lookup.Found.TheVariants as found
use Rattle.book_tables.specs.declared.row.totals.Totals.{Totals}
use Rattle.books.specs.Looking.{IsFoundAt}
use Rattle.conversation.specs.Exchanges.{MessageExchange, Timed, timed}
use Rattle.conversation.specs.message.Framing.{longest_body}
use Rattle.conversation.specs.message.Messages.{BeginsMessage}
use Rattle.desk.specs.Answering.{LifeReplies, answers_by, life_serves}
use Rattle.desk_client.specs.Answers.{IsReplyTo}
use Rattle.desk_client.specs.declared.told.Told.TheVariants as tells
use Rattle.papers.specs.File.{AreFileRecords, Fields}
use Rattle.papers.specs.Import.{IsReading}
use Rattle.papers.specs.declared.file_kind.FileKind.{FileKind}
use Rattle.papers.specs.declared.row_fault.RowFault.{RowFault}
use Rattle.sts_fields.specs.Day.{day_at}
use Rattle.sts_fields.specs.Moment.{IsMoment}
use Rattle.sts_fields.specs.Text.{Text}
use Rattle.vend_core.specs.Law.Life.{Life, present}
use Rattle.office_rules.specs.declared.decision.answer.Answer.{Answer}
use Rattle.office_rules.specs.declared.decision.answer.Answer.TheVariants as answers
use Rattle.office_rules.specs.declared.decision.refusal.Refusal.{Refusal}
use Rattle.office_rules.specs.declared.decision.request.Order.{Order}
use Rattle.office_rules.specs.declared.decision.request.Request.{Request}
use Rattle.office_rules.specs.declared.decision.request.Request.TheVariants as requests
use Rattle.office_rules.specs.declared.decision.request.Stamped.{Stamped}
use Rattle.office_rules.specs.declared.office.row.Row.{Row}
use Rattle.office_rules.specs.declared.office.sale.Sale.{Sale}
use Rattle.command_line.specs.declared.office_words.AskWords.{AskWords}
use Rattle.command_line.specs.declared.office_words.AskWords.TheVariants as words
use Rattle.office_commands.specs.commands.Imported.{refusal_of_rows}
use Rattle.desk_commands.specs.ListedAtDesk.{IsPageReply}
use Rattle.office_commands.specs.commands.LookedUp.{TellsFound}
use Rattle.office_commands.specs.office.Served.{TellsReply}
use Rattle.desk_commands.specs.Exchanged.{Round}
use Rattle.desk_commands.specs.print.ListTexts.{pages_text}
use Rattle.desk_commands.specs.print.Pages.{ArePages}
use Rattle.vend_ports.specs.print.Printed.{refusal_line}
use Rattle.vend_ports.specs.print.Told.{IsTold, Outputs}
use Rattle.office_commands.specs.print.Totalled.{TellsTotals}
use Rattle.vend_ports.specs.declared.command_end.CommandEnd.{CommandEnd}
use Rattle.vend_ports.specs.declared.command_end.CommandEnd.TheVariants.{Refused}

-- ---- the line

-- A desk read these bytes as one whole message at this second of its clock, and answered it from
-- its own office; and the bytes of its reply came, all of them and no others.
pub record IsAnsweredAt (second : ℤ) (old : Timed Life) (message came : Text) (new : Timed Life)
    : Type 0 where
  pub exchange : MessageExchange
  pub read : BeginsMessage message exchange.message []
  pub given : exchange.now ≡ Some second
  pub answered : timed (answers_by life_serves) old exchange new
  pub whole : came ≡ exchange.reply

-- so it answered the messages of these rounds, one after another, each at a moment of this day
abbrev pub AreAnsweredOn : (day : ℕ) → Timed Life → List Round → Timed Life → Type 0
AreAnsweredOn day old [] new = new ≡ old
AreAnsweredOn day old (round ∷ rounds) new =
    (moment : ℕ) × IsMoment moment × (day_at moment ≡ day)
    × ((mid : Timed Life) × IsAnsweredAt (pos moment) old round.message round.came mid
    × AreAnsweredOn day mid rounds new)

-- the clock gave a moment of this day
abbrev pub IsGivenOn : (day : ℕ) → Option ℤ → Type 0
IsGivenOn day now =
    (moment : ℕ) × IsMoment moment × (day_at moment ≡ day) × (now ≡ Some (pos moment))

-- what was sent in these rounds, and what came, one after another
abbrev pub sent_in : List Round → Text
sent_in rounds = flat_map (λ round. round.message) rounds

abbrev pub came_in : List Round → Text
came_in rounds = flat_map (λ round. round.came) rounds

-- ---- what is printed

-- the office replied to the request at this moment, and that reply is printed
pub record PrintsReply (moment : ℕ) (request : Request) (old new : Life) (o : Outputs)
    (end : CommandEnd) : Type 0 where
  pub reply : Result Answer Refusal
  pub replied : LifeReplies moment request reply old new
  pub told : TellsReply reply o end

-- what is found in the office at this moment is printed, or why nothing is; and the office is as it
-- was
pub record PrintsFound (moment : ℕ) (lookup : Lookup) (json : Bool) (old new : Life) (o : Outputs)
    (end : CommandEnd) : Type 0 where
  pub found : Result Found Refusal
  pub is_found : IsFoundAt old moment lookup found
  pub told : TellsFound json lookup found o end
  pub same : new ≡ old

-- the totals of the shift of a number, as what is looked up
abbrev pub totals_looked_up : ℕ → Result Totals Refusal → Result Found Refusal
totals_looked_up number (Ok totals) = Ok (found.ShiftTotals number totals)
totals_looked_up number (Err refusal) = Err refusal

-- the totals of a shift are printed, or why not; and the office is as it was
pub record PrintsTotals (moment number : ℕ) (old new : Life) (o : Outputs) (end : CommandEnd)
    : Type 0 where
  pub totals : Result Totals Refusal
  pub are_totals : IsFoundAt old moment (lookups.ShiftTotals number)
      (totals_looked_up number totals)
  pub told : TellsTotals number totals o end
  pub same : new ≡ old

-- rows that were read are asked to be added, and the reply is printed; a fault is printed as the
-- office refuses a row, and the office is as it was
abbrev pub PrintsAdded : (moment : ℕ) → Result (List Row) RowFault → (old new : Life) → Outputs
    → CommandEnd → Type 0
PrintsAdded moment (Ok rows) old new o end =
    PrintsReply moment (requests.Import rows) old new o end
PrintsAdded moment (Err fault) old new o end =
    IsTold o [] (refusal_line (refusal_of_rows fault)) Refused end × (new ≡ old)

-- so with the rows of these bytes, by their kind
abbrev pub PrintsImport : (moment : ℕ) → FileKind → (bytes : List ℕ) → (old new : Life) → Outputs
    → CommandEnd → Type 0
PrintsImport moment kind bytes old new o end =
    (records : List Fields) × (rows : Result (List Row) RowFault)
    × AreFileRecords bytes records × IsReading kind records rows
    × PrintsAdded moment rows old new o end

-- the life answered this order with this sale
abbrev pub IsSoldIn : Life → Order → Sale → Type 0
IsSoldIn life order s = (at : Stamped) × (at.request ≡ requests.Sell order)
    × Contains life.exchanges (record { request = at; reply = Ok (answers.Sold s) })

-- ---- by the ask

-- What the command that asks this prints of an office, and what it makes of it. The totals of a
-- shift are printed as `report` prints them, and what else is looked up as `show` and `offer` do.
abbrev pub PrintsAsOnFile : (json : Bool) → Ask → (moment : ℕ) → (old new : Life) → Outputs
    → CommandEnd → Type 0
PrintsAsOnFile json (Import kind csv) moment old new o end =
    PrintsImport moment kind csv old new o end
PrintsAsOnFile json (Do request) moment old new o end = PrintsReply moment request old new o end
PrintsAsOnFile json (Receipt sale) moment old new o end =
    PrintsReply moment (requests.Reprint sale) old new o end
PrintsAsOnFile json (Look (lookups.ShiftTotals number)) moment old new o end =
    PrintsTotals moment number old new o end
PrintsAsOnFile json (Look lookup) moment old new o end =
    PrintsFound moment lookup json old new o end

-- What is looked up alone, and is no page of a list. A health tells of a write that failed too,
-- which no office has.
abbrev pub IsOneLookup : Lookup → Type 0
IsOneLookup lookups.Health = ⊥
IsOneLookup (lookups.Tariffs after) = ⊥
IsOneLookup (lookups.Meters after) = ⊥
IsOneLookup (lookups.Shifts after) = ⊥
IsOneLookup (lookups.Sales after) = ⊥
IsOneLookup lookup = ⊤

-- a command asks this by one message: no page of a list, no health, and no receipt as JSON
abbrev pub IsAskedByOne : (json : Bool) → Ask → Type 0
IsAskedByOne json (Look (lookups.LastSale meter)) = json ≡ false
IsAskedByOne json (Look lookup) = IsOneLookup lookup
IsAskedByOne json ask = ⊤

-- it does not ask for the health of an office, of which no command reads what a desk tells
abbrev pub AsksNoHealth : Ask → Type 0
AsksNoHealth (Look lookups.Health) = ⊥
AsksNoHealth ask = ⊤

-- ---- the pages of a list

-- the words ask this by one message: an import with the rows of its file, which fit into it
abbrev pub AskForOne : AskWords → Ask → Type 0
AskForOne (words.Import kind path) ask =
    (rows : Text) × (length rows ≤ longest_body) × (ask ≡ Import kind rows)
AskForOne (words.Ask it) ask = ask ≡ it
AskForOne asked ask = ⊥

-- they ask for the pages of this list: the one that they name, or all sales
abbrev pub AskForPages : AskWords → Lookup → Type 0
AskForPages (words.List it) list = list ≡ it
AskForPages words.Export list = list ≡ lookups.Sales 0
AskForPages asked list = ⊥

-- At each moment of this day the office has these pages of the list, with this list left behind
-- them; they are printed as the pages that a desk told; and the office is as it was.
pub record PrintsList (day : ℕ) (list : Lookup) (told : List Found) (left : Option Lookup)
    (old new : Life) : Type 0 where
  pub pages : List Found
  pub are : (moment : ℕ) → day_at moment ≡ day
      → ArePages (present old) moment (Some list) pages left
  pub printed : (json : Bool) → pages_text json told ≡ pages_text json pages
  pub same : new ≡ old

-- what came tells a page of the list, or why the office has no answer
abbrev pub IsPageOrRefusal : Lookup → (came : Text) → Type 0
IsPageOrRefusal list came =
    ((page : Found) × IsPageReply list came page)
    ⊎ ((refusal : Refusal) × IsReplyTo (Look list) came (tells.Refused refusal))
