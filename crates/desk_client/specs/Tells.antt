-- What the outcomes of a desk tell.
use Rattle.std.specs.Prelude.{◌≡◌, ℕ, List, Ok, Err}
use Rattle.book_states.specs.declared.lookup.Found.{Found}
use Rattle.book_states.specs.declared.lookup.Found.TheVariants as found
use Rattle.desk_messages.specs.declared.desk_fault.DeskFault.{DeskFault}
use Rattle.desk_messages.specs.declared.desk_fault.DeskFault.TheVariants as faults
use Rattle.desk_messages.specs.declared.reply.form.Form.{Form}
use Rattle.desk_messages.specs.declared.reply.form.Form.TheVariants as forms
use Rattle.desk_messages.specs.declared.reply.outcome.Outcome.{Outcome}
use Rattle.desk_messages.specs.declared.reply.outcome.Outcome.TheVariants as outcomes
use Rattle.papers.specs.Receipt.{receipt_of}
use Rattle.papers.specs.Report.{report_of}
use Rattle.office_rules.specs.declared.decision.answer.Answer.{Answer}
use Rattle.office_rules.specs.declared.decision.answer.Answer.TheVariants as answers
use Rattle.office_rules.specs.declared.office.sale.Sale.{Sale}
use Rattle.desk_client.specs.Page.{page_as_read}
use Rattle.desk_client.specs.declared.told.Granted.TheVariants as granted
use Rattle.desk_client.specs.declared.told.Told.{Told}
use Rattle.desk_client.specs.declared.told.Told.TheVariants as told

-- a sale as it is told, without the nibble of its token
abbrev pub as_told : Sale → Sale
as_told s =
    record {
      number = s.number;
      moment = s.moment;
      shift = s.shift;
      operator = s.operator;
      order_ref = s.order_ref;
      meter = s.meter;
      base = s.base;
      tid = s.tid;
      rnd = 0;
      tenths = s.tenths;
      price = s.price;
      tender = s.tender;
      digits = s.digits;
    }

-- a paper of this text is told
abbrev pub TellsPaper : List ℕ → Told → Type 0
TellsPaper text (told.Granted (granted.Paper paper)) = paper.now ≡ text
TellsPaper text other = ⊥

-- a sale in a form: itself, or its receipt
abbrev pub TellsReplySale : Form → Sale → Told → Type 0
TellsReplySale forms.Json sale t = t ≡ told.Granted (granted.Sale (as_told sale))
TellsReplySale forms.Paper sale t = TellsPaper (receipt_of sale) t

-- an answer, where a sale is to have this form
abbrev pub TellsReplyAnswer : Form → Answer → Told → Type 0
TellsReplyAnswer form answers.Done t = t ≡ told.Granted granted.Done
TellsReplyAnswer form (answers.Imported count) t = t ≡ told.Granted (granted.Imported count)
TellsReplyAnswer form (answers.Withdrawn count) t = t ≡ told.Granted (granted.Withdrawn count)
TellsReplyAnswer form (answers.Opened shift) t = t ≡ told.Granted (granted.Shift shift)
TellsReplyAnswer form (answers.Closed shift) t = t ≡ told.Granted (granted.Shift shift)
TellsReplyAnswer form (answers.Sold sale) t = TellsReplySale form sale t
TellsReplyAnswer form (answers.Reprinted sale) t = TellsReplySale form sale t
TellsReplyAnswer form (answers.Report shift sales) t = TellsPaper (report_of shift sales) t

-- a page is told by the text that the desk writes of it
abbrev pub TellsPage : Found → Told → Type 0
TellsPage page (told.Granted (granted.Page text)) = text.now ≡ page_as_read page
TellsPage page other = ⊥

-- what was found, where a sale is to have this form; the health of an office is not read here
abbrev pub TellsReplyFound : Form → Found → Told → Type 0
TellsReplyFound form (found.Health health) t = ⊥
TellsReplyFound form (found.Meter summary) t = t ≡ told.Granted (granted.Meter summary)
TellsReplyFound form (found.Sale sale) t = TellsReplySale form sale t
TellsReplyFound form (found.Quote quote) t = t ≡ told.Granted (granted.Quote quote)
TellsReplyFound form (found.ShiftTotals number totals) t =
    t ≡ told.Granted (granted.Totals number totals)
TellsReplyFound form (found.Tariffs page) t = TellsPage (found.Tariffs page) t
TellsReplyFound form (found.Meters page) t = TellsPage (found.Meters page) t
TellsReplyFound form (found.Shifts page) t = TellsPage (found.Shifts page) t
TellsReplyFound form (found.Sales page) t = TellsPage (found.Sales page) t

-- the one fault of the desk that a well-formed message may meet
abbrev pub TellsFault : DeskFault → Told → Type 0
TellsFault faults.NoRoute t = ⊥
TellsFault (faults.Method allowed) t = ⊥
TellsFault faults.Clock t = t ≡ told.NoMoment
TellsFault faults.Body t = ⊥

-- what the reply to what came of a message tells
abbrev pub Tells : Outcome → Told → Type 0
Tells (outcomes.Refused fault) t = ⊥
Tells (outcomes.Faulty fault) t = TellsFault fault t
Tells (outcomes.Replied form (Ok answer)) t = TellsReplyAnswer form answer t
Tells (outcomes.Replied form (Err refusal)) t = t ≡ told.Refused refusal
Tells (outcomes.Found form (Ok it)) t = TellsReplyFound form it t
Tells (outcomes.Found form (Err refusal)) t = t ≡ told.Refused refusal
