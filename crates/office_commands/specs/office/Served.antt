-- What is printed of a request that books serve, and the life that they keep with it.
use Rattle.std.specs.Prelude.{◌⊎◌, ⊤, ℕ, [], Result, Ok, Err}
use Rattle.books.specs.Asking.{ReplyAt}
use Rattle.books.specs.Keeps.{Seen}
use Rattle.papers.specs.Receipt.{receipt_of}
use Rattle.papers.specs.Report.{report_of}
use Rattle.sts_fields.specs.Text.{Text}
use Rattle.office_rules.specs.declared.decision.answer.Answer as core
use Rattle.office_rules.specs.declared.decision.answer.Answer.TheVariants.{Done, Imported, Opened}
use Rattle.office_rules.specs.declared.decision.answer.Answer.TheVariants.{Closed, Sold, Reprinted}
use Rattle.office_rules.specs.declared.decision.answer.Answer.TheVariants.{Report, Withdrawn}
use Rattle.office_rules.specs.declared.decision.refusal.Refusal.{Refusal}
use Rattle.office_rules.specs.declared.decision.refusal.Refusal.TheVariants.{Memory}
use Rattle.office_rules.specs.declared.decision.request.Request.{Request}
use Rattle.vend_ports.specs.print.Printed.{added_line, done_line, refusal_line, shift_line}
use Rattle.vend_ports.specs.print.Printed.{withdrawn_line}
use Rattle.vend_ports.specs.print.Told.{Outputs, IsTold}
use Rattle.vend_ports.specs.declared.command_end.CommandEnd.{CommandEnd}
use Rattle.vend_ports.specs.declared.command_end.CommandEnd.TheVariants as how

-- the text of an answer: a sale's receipt, a shift's report, or a line
abbrev pub answer_text : core.Answer → Text
answer_text Done = done_line
answer_text (Imported count) = added_line count
answer_text (Withdrawn count) = withdrawn_line count
answer_text (Opened number) = shift_line number
answer_text (Closed number) = shift_line number
answer_text (Sold sale) = receipt_of sale
answer_text (Reprinted sale) = receipt_of sale
answer_text (Report shift sales) = report_of shift sales

-- an answer whose text is made whole in memory before it is printed: a report, which changes
-- nothing
abbrev pub TakesAnswerRoom : core.Answer → Type 0
TakesAnswerRoom Done = ⊥
TakesAnswerRoom (Imported count) = ⊥
TakesAnswerRoom (Withdrawn count) = ⊥
TakesAnswerRoom (Opened number) = ⊥
TakesAnswerRoom (Closed number) = ⊥
TakesAnswerRoom (Sold sale) = ⊥
TakesAnswerRoom (Reprinted sale) = ⊥
TakesAnswerRoom (Report shift sales) = ⊤

-- the text of the answer is told; or there is no room to make a report, and that is told
abbrev pub TellsAnswer : core.Answer → Outputs → CommandEnd → Type 0
TellsAnswer answer o end =
    IsTold o (answer_text answer) [] how.Done end
    ⊎ (TakesAnswerRoom answer × IsTold o [] (refusal_line Memory) how.Refused end)

-- the text of this reply is told, and nothing else
abbrev pub TellsReply : Result core.Answer Refusal → Outputs → CommandEnd → Type 0
TellsReply (Ok answer) o end = TellsAnswer answer o end
TellsReply (Err refusal) o end = IsTold o [] (refusal_line refusal) how.Refused end

-- Books replied to the request at this moment, and the text of that reply is told.
pub record IsServedAndTold (moment : ℕ) (request : Request) (old new : Seen) (o : Outputs)
    (end : CommandEnd)
    : Type 0 where
  pub reply : Result core.Answer Refusal
  pub replied : ReplyAt moment request reply old new
  pub told : TellsReply reply o end
