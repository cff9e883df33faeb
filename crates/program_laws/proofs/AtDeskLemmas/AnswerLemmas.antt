-- What a desk tells of its office's reply to a request answers the ask of it.
use Rattle.std.proofs.Common.{ℕ, ◌≤◌, List, length, Result, Ok, Err, refl, arith}
use Rattle.std.proofs.Common.{[]}
use Rattle.std.proofs.lemmas.List.Elements.{All-head}
use Rattle.std.specs.Prelude.{All}
use Rattle.papers.specs.declared.file_kind.FileKind.{FileKind}
use Rattle.office_rules.specs.Law.Handed.{sales_of}
use Rattle.office_rules.specs.declared.decision.answer.Answer.{Answer}
use Rattle.office_rules.specs.declared.decision.answer.Answer.TheVariants as answers
use Rattle.office_rules.specs.declared.decision.refusal.Refusal.{Refusal}
use Rattle.office_rules.specs.declared.decision.refusal.Refusal.TheVariants as refusals
use Rattle.office_rules.specs.declared.decision.request.Request.{Request}
use Rattle.office_rules.specs.declared.decision.request.Request.TheVariants as requests
use Rattle.office_rules.specs.declared.decision.row_cause.RowCause.TheVariants as causes
use Rattle.office_rules.specs.declared.office.row.Row.{Row}
use Rattle.asks.specs.Ask.{IsAskable}
use Rattle.asks.specs.declared.ask.Ask.TheVariants.{Do, Import, Receipt}
use Rattle.desk_messages.specs.declared.reply.form.Form.TheVariants as forms
use Rattle.desk_client.specs.Answers.{Answers, MayRefuse}
use Rattle.desk_client.specs.Sale.{IsSaleTold}
use Rattle.desk_client.specs.Tells.{as_told}
use Rattle.program_laws.proofs.AtDeskLemmas.RuleLemmas.{MayAnswer, MayReplyTo, RefusesRows}
use Rattle.program_laws.proofs.AtDeskLemmas.TellableLemmas.{AreToldSales, told_answer, told_reply}
use Rattle.program_laws.proofs.AtDeskLemmas.TokenLemmas.{HasToken}

-- the answer to a request is one to the ask of it
answers_answer : (request : Request) (answer : Answer) → All HasToken (sales_of (Ok answer)) → MayAnswer request answer
    → Answers (Do request) (told_answer forms.Json answer)
answers_answer (requests.Sell order) (answers.Sold s) tokens may =
    (All-head HasToken s [] tokens, record { operator = may.operator; order_ref = may.order_ref; meter = may.meter; tender = may.tender })
answers_answer (requests.Reprint number) (answers.Reprinted s) tokens may = (All-head HasToken s [] tokens, may)
answers_answer (requests.ShiftReport number) (answers.Report shift sales) tokens may =
    record { shift = shift; sales = sales; told = may.1; named = may.0; lines = may.2; written = refl }
answers_answer request answers.Done tokens may = tt
answers_answer request (answers.Imported n) tokens may = tt
answers_answer request (answers.Withdrawn n) tokens may = tt
answers_answer request (answers.Opened n) tokens may = tt
answers_answer request (answers.Closed n) tokens may = tt
answers_answer request answer tokens may = absurd may

-- so is the reply
pub answers_do : (request : Request) → IsAskable (Do request) → (r : Result Answer Refusal) → All HasToken (sales_of r) → MayReplyTo request r
    → Answers (Do request) (told_reply forms.Json r)
answers_do request askable (Ok answer) tokens may = answers_answer request answer tokens may
answers_do (requests.Import rows) askable (Err refusal) tokens may = absurd askable.body.1
answers_do request askable (Err refusal) tokens may = may

-- that to a reprint, to the ask for a receipt
pub answers_receipt : (number : ℕ) (r : Result Answer Refusal) → All HasToken (sales_of r) → AreToldSales r → MayReplyTo (requests.Reprint number) r
    → Answers (Receipt number) (told_reply forms.Paper r)
answers_receipt number (Ok (answers.Reprinted s)) tokens sales may =
    let rules = All-head (λ s. IsSaleTold (as_told s)) s [] sales in
    record {
      sale = s;
      told = record {
        number = rules.number;
        meter = rules.meter;
        moment = rules.moment;
        tenths = rules.tenths;
        price = rules.price;
        tender = rules.tender;
        digits = All-head HasToken s [] tokens;
      };
      named = may;
      written = refl;
    }
answers_receipt number (Ok answer) tokens sales may = absurd may
answers_receipt number (Err refusals.NoSale) tokens sales may = tt
answers_receipt number (Err refusals.Memory) tokens sales may = tt
answers_receipt number (Err refusals.Store) tokens sales may = tt
answers_receipt number (Err refusals.Stopped) tokens sales may = tt
answers_receipt number (Err refusal) tokens sales may = absurd may

rows_refused : (kind : FileKind) (csv : List ℕ) (most : ℕ) (refusal : Refusal) → most ≤ 10000 → RefusesRows most refusal
    → MayRefuse refusal (Import kind csv)
rows_refused kind csv most (refusals.ImportRow row causes.Header) few h = absurd h.2
rows_refused kind csv most (refusals.ImportRow row causes.Columns) few h = absurd h.2
rows_refused kind csv most (refusals.ImportRow row (causes.Field k)) few h = absurd h.2
rows_refused kind csv most (refusals.ImportRow row causes.TooManyRows) few h = absurd h.2
rows_refused kind csv most (refusals.ImportRow row causes.Differs) few h = (h.0, omega (arith, h.1, few))
rows_refused kind csv most (refusals.ImportRow row causes.NoTariff) few h = (h.0, omega (arith, h.1, few))
rows_refused kind csv most (refusals.ImportRow row causes.DayPast) few h = (h.0, omega (arith, h.1, few))
rows_refused kind csv most refusals.Memory few h = tt
rows_refused kind csv most refusals.Store few h = tt
rows_refused kind csv most refusals.Stopped few h = tt
rows_refused kind csv most refusal few h = absurd h

-- and of an import of no more rows than a file has
pub answers_import : (kind : FileKind) (csv : List ℕ) (rows : List Row) (r : Result Answer Refusal) → length rows ≤ 10000
    → MayReplyTo (requests.Import rows) r → Answers (Import kind csv) (told_reply forms.Json r)
answers_import kind csv rows (Ok (answers.Imported n)) few h = tt
answers_import kind csv rows (Ok answer) few h = absurd h
answers_import kind csv rows (Err refusal) few h = rows_refused kind csv (length rows) refusal few h
