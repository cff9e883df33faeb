-- What a desk answers to what it is asked is read whole.
use Rattle.std.proofs.Common.{◌≡◌, ◌∙◌, ℕ, ℤ, pos, ◌≤◌, false, List, length, Option, Some, Result, Ok, Err, sym, ap, subst, arith}
use Rattle.sts_fields.specs.Moment.{IsMoment}
use Rattle.papers.specs.declared.file_kind.FileKind.{FileKind}
use Rattle.papers.specs.declared.row_fault.RowFault.{RowFault}
use Rattle.papers.specs.declared.row_fault.RowFault.TheVariants as row_faults
use Rattle.vend_core.specs.Law.Life.{IsLife, Life}
use Rattle.vend_core.specs.Law.Reached.{IsPlausible}
use Rattle.office_rules.specs.Office.{IsOffice}
use Rattle.office_rules.specs.declared.decision.answer.Answer.{Answer}
use Rattle.office_rules.specs.declared.decision.refusal.Refusal.{Refusal}
use Rattle.office_rules.specs.declared.decision.request.Request.{Request}
use Rattle.office_rules.specs.declared.decision.request.Request.TheVariants as requests
use Rattle.office_rules.specs.declared.decision.row_cause.RowCause.{RowCause}
use Rattle.office_rules.specs.declared.decision.row_cause.RowCause.TheVariants as causes
use Rattle.office_rules.specs.declared.office.row.Row.{Row}
use Rattle.asks.specs.Ask.{IsAskable}
use Rattle.asks.specs.declared.ask.Ask.{Ask}
use Rattle.asks.specs.declared.ask.Ask.TheVariants.{Do, Import, Look, Receipt}
use Rattle.conversation.specs.Exchanges.{Timed}
use Rattle.desk.specs.Answering.{IsImported, IsServed, LifeReplies, life_serves}
use Rattle.desk_messages.specs.declared.reply.outcome.Outcome.{Outcome}
use Rattle.desk_messages.specs.reply.HttpDate.{moment_given}
use Rattle.desk_messages.specs.reply.Text.{reply_bytes_of}
use Rattle.desk_client.specs.Answers.{Answers, IsReplyTo, IsRowRefused}
use Rattle.desk_client.specs.Reply.{IsReply, longest_reply_body, reply_text}
use Rattle.desk_client.specs.Sent.{CanSend, ask_text, wanted_by}
use Rattle.desk_client.specs.declared.told.Told.{Told}
use Rattle.desk_client.proofs.TellsLemmas.{date_given, given_dated, says}
use Rattle.program_laws.specs.AtDesk.{AsksNoHealth, IsAnsweredAt}
use Rattle.program_laws.proofs.LookupLemmas.{look_answers}
use Rattle.program_laws.proofs.AtDeskLemmas.OneLemmas.{DeskLaws, Reads, came_of, few_fields, few_rows, may_be, reply_length, served_at, what_came}
use Rattle.program_laws.proofs.AtDeskLemmas.MeaningLemmas.{IsRead, is_read}
use Rattle.program_laws.proofs.AtDeskLemmas.AnswerLemmas.{answers_do, answers_import, answers_receipt}
use Rattle.program_laws.proofs.AtDeskLemmas.RuleLemmas.{MayReplyTo, present_is}
use Rattle.program_laws.proofs.AtDeskLemmas.TellableLemmas.{told_of}
use Rattle.program_laws.proofs.AtDeskLemmas.TokenLemmas.{HasToken, plausible_present, reply_tokens}
use Rattle.office_rules.specs.Law.Handed.{sales_of}
use Rattle.std.specs.Prelude.{All}

-- what came of an ask answers it, as it is told
abbrev AnswersSo : Ask → Outcome → Type 0
AnswersSo ask outcome = Answers ask (told_of outcome)

-- a fault that was found in a row of a file is one that a row may be refused for
row_refused : (kind : FileKind) (csv : List ℕ) (row : ℕ) (cause : RowCause) → IsRead kind csv (Err (row_faults.At row cause)) → IsRowRefused row cause
row_refused kind csv row causes.Header read = read.reading.here.0
row_refused kind csv row causes.Columns read = (read.reading.here.3.from_one, read.reading.here.3.few)
row_refused kind csv row (causes.Field k) read =
    let outside = read.reading.here.4 in (
      (read.reading.here.3.from_one, read.reading.here.3.few),
      outside.1.from_one,
      omega (arith, outside.1.within, outside.0, few_fields kind read.records row k read.reading.here),
    )
row_refused kind csv row causes.TooManyRows read = read.reading.here.0
row_refused kind csv row causes.Differs read = absurd read.reading.here
row_refused kind csv row causes.NoTariff read = absurd read.reading.here
row_refused kind csv row causes.DayPast read = absurd read.reading.here

module _ (laws : DeskLaws) (moment : ℕ) (old new : Life) (opening : IsOffice old.opening) (plausible : IsPlausible old.opening) (life : IsLife new) where
  tokens : (request : Request) (r : Result Answer Refusal) → LifeReplies moment request r old new → All HasToken (sales_of r)
  tokens request r replies = reply_tokens laws.one_step laws.plausible laws.along laws.stand old new moment request r life opening plausible replies

  may : (request : Request) (r : Result Answer Refusal) → LifeReplies moment request r old new → MayReplyTo request r
  may request r replies = (may_be laws old new moment request r life opening replies).0

  import_answers : (kind : FileKind) (csv : List ℕ) (read : Result (List Row) RowFault) → IsRead kind csv read → (outcome : Outcome)
      → IsImported life_serves moment read outcome old new → AnswersSo (Import kind csv) outcome
  import_answers kind csv (Ok rows) is outcome (r, same, replies) =
      subst (AnswersSo (Import kind csv)) (sym same) (answers_import kind csv rows r (few_rows kind csv rows is) (may (requests.Import rows) r replies))
  import_answers kind csv (Err (row_faults.At row cause)) is outcome (same, stays) =
      subst (AnswersSo (Import kind csv)) (sym same) (row_refused kind csv row cause is)
  import_answers kind csv (Err row_faults.Memory) is outcome none = absurd none

  -- what came of an ask answers it
  came_answers : (ask : Ask) → AsksNoHealth ask → IsAskable ask → (outcome : Outcome) → IsServed life_serves moment ask outcome old new → AnswersSo ask outcome
  came_answers (Import kind csv) none askable outcome (read, is, imported) = import_answers kind csv read (is_read kind csv read is) outcome imported
  came_answers (Do request) none askable outcome (r, same, replies) =
      subst (AnswersSo (Do request)) (sym same) (answers_do request askable r (tokens request r replies) (may request r replies))
  came_answers (Receipt number) none askable outcome (r, same, replies) =
      subst (AnswersSo (Receipt number)) (sym same) (answers_receipt number r (tokens (requests.Reprint number) r replies)
      (may_be laws old new moment (requests.Reprint number) r life opening replies).1 (may (requests.Reprint number) r replies))
  came_answers (Look lookup) none askable outcome (r, same, (found, stays)) =
      let before : IsLife old = subst IsLife stays life in
      subst (AnswersSo (Look lookup)) (sym same) (look_answers old moment lookup r found (present_is laws.along old before opening)
      (plausible_present laws.one_step laws.plausible old before opening plausible))

-- a reply that is not too long tells it
pub whole_reply : (laws : DeskLaws) (ask : Ask) (now : Option ℤ) (outcome : Outcome) (came : List ℕ)
    → came ≡ reply_bytes_of (moment_given now) outcome false → length came ≤ longest_reply_body
    → Reads ask outcome → IsReply (wanted_by ask) came (told_of outcome)
whole_reply laws ask now outcome came is few reads =
    let date = date_given now in
    let text : came ≡ reply_text date (told_of outcome) = is ∙ says (moment_given now) outcome (told_of outcome) reads.tells in
    record {
      tellable = reads.tellable;
      short = omega (arith, few, ap length text, reply_length date (told_of outcome));
      dated = date;
      is_dated = given_dated laws.dates now;
      is_text = text;
    }

-- what a desk answers to what it is asked is read whole
pub ask_read : (laws : DeskLaws) (ask : Ask) (moment : ℕ) (old new : Timed Life) (came : List ℕ) → AsksNoHealth ask → CanSend ask → IsMoment moment
    → IsOffice old.0.opening → IsPlausible old.0.opening → IsLife new.0
    → IsAnsweredAt (pos moment) old (ask_text ask) came new → length came ≤ longest_reply_body → (t : Told) × IsReplyTo ask came t
ask_read laws ask moment old new came none can is_moment opening plausible life at few =
    let c = came_of laws ask (pos moment) old new came can at in
    let serves = served_at laws ask can.askable moment is_moment old new came c in
    let reads = what_came laws moment old.0 new.0 opening life ask none can.askable c.outcome serves in (
      told_of c.outcome,
      record {
        reply = whole_reply laws ask (Some (pos moment)) c.outcome came c.text few reads;
        answers = came_answers laws moment old.0 new.0 opening plausible life ask none can.askable c.outcome serves;
      },
    )
