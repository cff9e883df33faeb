-- What the heads of replies say.
use Rattle.std.specs.Prelude.{ℕ, Bool, true, Option, None, Some, Ok, Err}
use Rattle.conversation.specs.declared.message.method.Method.{Method}
use Rattle.conversation.specs.message.MessageFault.{message_fault_status}
use Rattle.desk_messages.specs.declared.desk_fault.DeskFault.{DeskFault}
use Rattle.desk_messages.specs.declared.desk_fault.DeskFault.TheVariants as faults
use Rattle.desk_messages.specs.declared.reply.form.Form.{Form}
use Rattle.desk_messages.specs.declared.reply.form.Form.TheVariants.{Json, Paper}
use Rattle.desk_messages.specs.declared.reply.outcome.Outcome.{Outcome}
use Rattle.desk_messages.specs.declared.reply.outcome.Outcome.TheVariants.{Refused, Faulty, Replied}
use Rattle.desk_messages.specs.declared.reply.outcome.Outcome.TheVariants as outcomes
use Rattle.desk_messages.specs.declared.reply.head.ReplyHead.{ReplyHead}
use Rattle.desk_messages.specs.DeskFault.{desk_fault_status}
use Rattle.book_states.specs.declared.lookup.Found.{Found}
use Rattle.book_states.specs.declared.lookup.Found.TheVariants as found
use Rattle.office_rules.specs.declared.decision.answer.Answer.{Answer}
use Rattle.office_rules.specs.declared.decision.answer.Answer.TheVariants.{Done, Imported, Opened}
use Rattle.office_rules.specs.declared.decision.answer.Answer.TheVariants.{Closed, Sold, Reprinted}
use Rattle.office_rules.specs.declared.decision.answer.Answer.TheVariants.{Report, Withdrawn}
use Rattle.office_rules.specs.Decision.Refusals.{refusal_category}
use Rattle.office_rules.specs.declared.decision.category.Category.{Category}
use Rattle.office_rules.specs.declared.decision.category.Category.TheVariants.{Missing, Forbidden}
use Rattle.office_rules.specs.declared.decision.category.Category.TheVariants.{Unfit, UnfitRow}
use Rattle.office_rules.specs.declared.decision.category.Category.TheVariants.{Unable}
use Rattle.office_rules.specs.declared.decision.refusal.Refusal.{Refusal}

-- 404 for what is not there, 409 for what the office forbids as it stands, 422 for what cannot be
-- done as it was asked, and 503 where the office is unable to answer
abbrev pub category_status : Category → ℕ
category_status Missing = 404
category_status Forbidden = 409
category_status Unfit = 422
category_status (UnfitRow row cause) = 422
category_status Unable = 503

abbrev pub refusal_status : Refusal → ℕ
refusal_status refusal = category_status (refusal_category refusal)

-- the method that is allowed, where another one than the route's was used
abbrev pub allowed_by : DeskFault → Option Method
allowed_by faults.NoRoute = None
allowed_by (faults.Method allowed) = Some allowed
allowed_by faults.Clock = None
allowed_by faults.Body = None

-- the form of an answer, where a sale is to have this one: a report is a paper, and all else JSON
abbrev pub answer_form : Form → Answer → Form
answer_form form Done = Json
answer_form form (Imported count) = Json
answer_form form (Withdrawn count) = Json
answer_form form (Opened shift) = Json
answer_form form (Closed shift) = Json
answer_form form (Sold sale) = form
answer_form form (Reprinted sale) = form
answer_form form (Report shift sales) = Paper

-- the form of what was found, where a sale is to have this one: all else is JSON
abbrev pub found_form : Form → Found → Form
found_form form (found.Health health) = Json
found_form form (found.Meter summary) = Json
found_form form (found.Sale sale) = form
found_form form (found.Quote quote) = Json
found_form form (found.ShiftTotals number totals) = Json
found_form form (found.Tariffs page) = Json
found_form form (found.Meters page) = Json
found_form form (found.Shifts page) = Json
found_form form (found.Sales page) = Json

-- the head for what came of a message at this moment, if the clock gave one, after which the
-- conversation ends or not; a message that is refused always ends it
abbrev pub head_of : Option ℕ → Outcome → Bool → ReplyHead
head_of dated (Refused fault) closes =
    record {
      status = message_fault_status fault;
      form = Json;
      dated = dated;
      allowed = None;
      closes = true;
    }
head_of dated (Faulty fault) closes =
    record {
      status = desk_fault_status fault;
      form = Json;
      dated = dated;
      allowed = allowed_by fault;
      closes = closes;
    }
head_of dated (Replied form (Ok answer)) closes =
    record {
      status = 200;
      form = answer_form form answer;
      dated = dated;
      allowed = None;
      closes = closes;
    }
head_of dated (Replied form (Err refusal)) closes =
    record {
      status = refusal_status refusal;
      form = Json;
      dated = dated;
      allowed = None;
      closes = closes;
    }
head_of dated (outcomes.Found form (Ok found)) closes =
    record {
      status = 200;
      form = found_form form found;
      dated = dated;
      allowed = None;
      closes = closes;
    }
head_of dated (outcomes.Found form (Err refusal)) closes =
    record {
      status = refusal_status refusal;
      form = Json;
      dated = dated;
      allowed = None;
      closes = closes;
    }
