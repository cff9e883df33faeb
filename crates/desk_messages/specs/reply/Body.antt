-- The bodies of replies.
use Rattle.std.specs.Prelude.{ℕ, List, codes, map, Ok, Err}
use Rattle.conversation.specs.message.MessageFault.{message_fault_word}
use Rattle.records.specs.List.{list_text, page_text, records_text}
use Rattle.records.specs.Record.{record_text}
use Rattle.desk_messages.specs.declared.reply.form.Form.{Form}
use Rattle.desk_messages.specs.declared.reply.form.Form.TheVariants.{Json, Paper}
use Rattle.desk_messages.specs.declared.reply.outcome.Outcome.{Outcome}
use Rattle.desk_messages.specs.declared.reply.outcome.Outcome.TheVariants.{Refused, Faulty, Replied}
use Rattle.desk_messages.specs.declared.reply.outcome.Outcome.TheVariants as outcomes
use Rattle.desk_messages.specs.DeskFault.{desk_fault_word}
use Rattle.desk_messages.specs.reply.Lists.{tariff_text}
use Rattle.desk_messages.specs.reply.Records.{count_text, fault_text, health_text, meter_text}
use Rattle.desk_messages.specs.reply.Records.{listed_meter_cells, listed_meter_names, quote_text}
use Rattle.desk_messages.specs.reply.Records.{listed_shift_cells, listed_shift_names, totals_text}
use Rattle.desk_messages.specs.reply.Records.{refusal_cells, refusal_names, row_cells, row_names}
use Rattle.desk_messages.specs.reply.Records.{sale_cells, sale_names, sale_text}
use Rattle.book_states.specs.declared.lookup.Found.{Found}
use Rattle.book_states.specs.declared.lookup.Found.TheVariants as found
use Rattle.papers.specs.Receipt.{receipt_of}
use Rattle.papers.specs.Report.{report_of}
use Rattle.office_rules.specs.Decision.Refusals.{refusal_category, refusal_name, refusal_number}
use Rattle.office_rules.specs.Decision.RowCauses.{cause_text}
use Rattle.office_rules.specs.declared.decision.answer.Answer.{Answer}
use Rattle.office_rules.specs.declared.decision.answer.Answer.TheVariants.{Done, Imported, Opened}
use Rattle.office_rules.specs.declared.decision.answer.Answer.TheVariants.{Closed, Sold, Reprinted}
use Rattle.office_rules.specs.declared.decision.answer.Answer.TheVariants.{Report, Withdrawn}
use Rattle.office_rules.specs.declared.decision.category.Category.{Category}
use Rattle.office_rules.specs.declared.decision.category.Category.TheVariants.{Missing, Forbidden}
use Rattle.office_rules.specs.declared.decision.category.Category.TheVariants.{Unfit, UnfitRow}
use Rattle.office_rules.specs.declared.decision.category.Category.TheVariants.{Unable}
use Rattle.office_rules.specs.declared.decision.refusal.Refusal.{Refusal}
use Rattle.office_rules.specs.declared.office.sale.Sale.{Sale}

-- a refusal of a row is told by its name and number, the row and the cause
abbrev pub row_text : Refusal → ℕ → List ℕ → List ℕ
row_text refusal row cause =
    record_text row_names (row_cells (refusal_name refusal) (refusal_number refusal) row cause)

-- another refusal of the office is told by its name and number
abbrev pub plain_text : Refusal → List ℕ
plain_text refusal =
    record_text refusal_names (refusal_cells (refusal_name refusal) (refusal_number refusal))

-- what a refusal of this category is told by
abbrev pub text_by : Refusal → Category → List ℕ
text_by refusal (UnfitRow row cause) = row_text refusal row (cause_text cause)
text_by refusal Missing = plain_text refusal
text_by refusal Forbidden = plain_text refusal
text_by refusal Unfit = plain_text refusal
text_by refusal Unable = plain_text refusal

abbrev pub refusal_text : Refusal → List ℕ
refusal_text refusal = text_by refusal (refusal_category refusal)

-- a sale in a form: itself, or its receipt
abbrev pub sale_body : Form → Sale → List ℕ
sale_body Json sale = sale_text sale
sale_body Paper sale = receipt_of sale

-- that it was done
abbrev pub done_text : List ℕ
done_text = codes "{\"done\":true}"

-- an answer, where a sale is to have this form
abbrev pub answer_body : Form → Answer → List ℕ
answer_body form Done = done_text
answer_body form (Imported count) = count_text (codes "added") count
answer_body form (Withdrawn count) = count_text (codes "withdrawn") count
answer_body form (Opened shift) = count_text (codes "shift") shift
answer_body form (Closed shift) = count_text (codes "shift") shift
answer_body form (Sold sale) = sale_body form sale
answer_body form (Reprinted sale) = sale_body form sale
answer_body form (Report shift sales) = report_of shift sales

-- what was found, where a sale is to have this form
abbrev pub found_body : Form → Found → List ℕ
found_body form (found.Health health) = health_text health
found_body form (found.Meter summary) = meter_text summary
found_body form (found.Sale sale) = sale_body form sale
found_body form (found.Quote quote) = quote_text quote
found_body form (found.ShiftTotals number totals) = totals_text number totals
found_body form (found.Tariffs page) =
    page_text (codes "tariffs") (list_text (map tariff_text page.items))
found_body form (found.Meters page) =
    page_text (codes "meters") (records_text listed_meter_names listed_meter_cells page.items)
found_body form (found.Shifts page) =
    page_text (codes "shifts") (records_text listed_shift_names listed_shift_cells page.items)
found_body form (found.Sales page) =
    page_text (codes "sales") (records_text sale_names sale_cells page.items)

-- the body for what came of a message
abbrev pub body_of : Outcome → List ℕ
body_of (Refused fault) = fault_text (message_fault_word fault)
body_of (Faulty fault) = fault_text (desk_fault_word fault)
body_of (Replied form (Ok answer)) = answer_body form answer
body_of (Replied form (Err refusal)) = refusal_text refusal
body_of (outcomes.Found form (Ok found)) = found_body form found
body_of (outcomes.Found form (Err refusal)) = refusal_text refusal
