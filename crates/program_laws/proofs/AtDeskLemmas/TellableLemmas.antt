-- What a desk tells of its office keeps the rules of what is told.
use Rattle.std.proofs.Common.{◌≡◌, ◌≢◌, ◌↔◌, ℕ, ◌^◌, ◌<◌, ◌≤◌, List, [], length, None, Some, Result, Ok, Err, refl, arith}
use Rattle.std.specs.Prelude.{⊤, All, Contains}
use Rattle.std.proofs.lemmas.List.Elements.{All-head}
use Rattle.sts_fields.specs.Amount.{IsRepresentable, greatest_amount}
use Rattle.tariff.specs.Purchase.{IsPurchase, purchase_of}
use Rattle.tariff.specs.declared.bought.Buy.{Buy}
use Rattle.tariff.specs.declared.step.Step.{Step}
use Rattle.papers.specs.Receipt.{receipt_of}
use Rattle.papers.specs.Report.{report_of}
use Rattle.office_rules.specs.Law.Handed.{sales_of}
use Rattle.office_rules.specs.Office.{IsOffice, Office}
use Rattle.office_rules.specs.Office.Lookup.{prior}
use Rattle.office_rules.specs.declared.decision.answer.Answer.{Answer}
use Rattle.office_rules.specs.declared.decision.answer.Answer.TheVariants as answers
use Rattle.office_rules.specs.declared.decision.refusal.Refusal.{Refusal}
use Rattle.office_rules.specs.declared.decision.refusal.Refusal.TheVariants as refusals
use Rattle.office_rules.specs.declared.decision.request.Request.{Request}
use Rattle.office_rules.specs.declared.decision.request.Request.TheVariants as requests
use Rattle.office_rules.specs.declared.decision.row_cause.RowCause.{RowCause}
use Rattle.office_rules.specs.declared.decision.row_cause.RowCause.TheVariants as causes
use Rattle.office_rules.specs.declared.office.sale.Sale.{Sale}
use Rattle.asks.specs.declared.lookup.Lookup.{Lookup}
use Rattle.asks.specs.declared.lookup.Lookup.TheVariants as lookups
use Rattle.book_states.specs.declared.lookup.Found.{Found}
use Rattle.book_states.specs.declared.lookup.Found.TheVariants as found
use Rattle.desk_messages.specs.declared.reply.form.Form.{Form}
use Rattle.desk_messages.specs.declared.reply.form.Form.TheVariants as forms
use Rattle.desk_messages.specs.declared.reply.outcome.Outcome.{Outcome}
use Rattle.desk_messages.specs.declared.reply.outcome.Outcome.TheVariants as outcomes
use Rattle.asks.specs.declared.ask.Ask.TheVariants.{Do, Import, Look, Receipt}
use Rattle.asks.specs.declared.endpoint.Grants.{Grants}
use Rattle.asks.specs.declared.endpoint.Grants.TheVariants as wanted
use Rattle.papers.specs.declared.file_kind.FileKind.{FileKind}
use Rattle.papers.specs.declared.file_kind.FileKind.TheVariants as files
use Rattle.desk_client.specs.Page.{page_as_read}
use Rattle.desk_client.specs.Sale.{IsSaleTold}
use Rattle.desk_client.specs.Tells.{Tells, as_told}
use Rattle.desk_client.specs.Sent.{wanted_by}
use Rattle.desk_client.specs.Told.{IsGrantOf, IsTellable, IsTellableRefusal}
use Rattle.desk_client.specs.declared.told.Granted.TheVariants as granted
use Rattle.desk_client.specs.declared.told.Told.{Told}
use Rattle.desk_client.specs.declared.told.Told.TheVariants as told
use Rattle.program_laws.proofs.AtDeskLemmas.RangeLemmas.{meter_row, sale_numbered, sale_row, sale_shift}
use Rattle.program_laws.proofs.AtDeskLemmas.RuleLemmas.{IsRowFrom, MayAnswer, MayRefuseSo, MayReplyTo, RefusesRows}

-- ---- what is told of a reply, and of what was looked up

-- a paper
abbrev pub paper : List ℕ → Told
paper text = told.Granted (granted.Paper (record { ref_ptr = (0, 0); now = text }))

-- a page of a list, by its text
abbrev pub page : List ℕ → Told
page text = told.Granted (granted.Page (record { ref_ptr = (0, 0); now = text }))

-- what is told of a sale: its values without the nibble, or its receipt on paper
abbrev pub told_sale : Form → Sale → Told
told_sale forms.Json s = told.Granted (granted.Sale (as_told s))
told_sale forms.Paper s = paper (receipt_of s)

-- what is told of the answer to a request
abbrev pub told_answer : Form → Answer → Told
told_answer form answers.Done = told.Granted granted.Done
told_answer form (answers.Imported n) = told.Granted (granted.Imported n)
told_answer form (answers.Withdrawn n) = told.Granted (granted.Withdrawn n)
told_answer form (answers.Opened n) = told.Granted (granted.Shift n)
told_answer form (answers.Closed n) = told.Granted (granted.Shift n)
told_answer form (answers.Sold s) = told_sale form s
told_answer form (answers.Reprinted s) = told_sale form s
told_answer form (answers.Report shift sales) = paper (report_of shift sales)

-- what is told of a reply: its answer, or the refusal
abbrev pub told_reply : Form → Result Answer Refusal → Told
told_reply form (Ok answer) = told_answer form answer
told_reply form (Err refusal) = told.Refused refusal

-- what is told of something that was found
abbrev pub told_found : Form → Found → Told
told_found form (found.Health health) = told.Granted granted.Done
told_found form (found.Meter m) = told.Granted (granted.Meter m)
told_found form (found.Sale s) = told_sale form s
told_found form (found.Quote q) = told.Granted (granted.Quote q)
told_found form (found.ShiftTotals n totals) = told.Granted (granted.Totals n totals)
told_found form (found.Tariffs items) = page (page_as_read (found.Tariffs items))
told_found form (found.Meters items) = page (page_as_read (found.Meters items))
told_found form (found.Shifts items) = page (page_as_read (found.Shifts items))
told_found form (found.Sales items) = page (page_as_read (found.Sales items))

-- what is told of a look-up: what was found, or the refusal
abbrev pub told_look : Form → Result Found Refusal → Told
told_look form (Ok it) = told_found form it
told_look form (Err refusal) = told.Refused refusal

-- what is told of what came of a message
abbrev pub told_of : Outcome → Told
told_of (outcomes.Replied form r) = told_reply form r
told_of (outcomes.Found form r) = told_look form r
told_of outcome = told.NoMoment

sale_tells : (form : Form) (s : Sale) → Tells (outcomes.Replied form (Ok (answers.Sold s))) (told_sale form s)
sale_tells forms.Json s = refl
sale_tells forms.Paper s = refl

-- the desk's reply to a request tells this of it
pub reply_tells : (form : Form) (r : Result Answer Refusal) → Tells (outcomes.Replied form r) (told_reply form r)
reply_tells form (Ok answers.Done) = refl
reply_tells form (Ok (answers.Imported n)) = refl
reply_tells form (Ok (answers.Withdrawn n)) = refl
reply_tells form (Ok (answers.Opened n)) = refl
reply_tells form (Ok (answers.Closed n)) = refl
reply_tells form (Ok (answers.Sold s)) = sale_tells form s
reply_tells form (Ok (answers.Reprinted s)) = sale_tells form s
reply_tells form (Ok (answers.Report shift sales)) = refl
reply_tells form (Err refusal) = refl

-- what was found is not the health of an office
abbrev pub IsNoHealth : Result Found Refusal → Type 0
IsNoHealth (Ok (found.Health health)) = ⊥
IsNoHealth r = ⊤

-- so does its reply to a look-up, but for the health of an office
pub look_tells : (form : Form) (r : Result Found Refusal) → IsNoHealth r → Tells (outcomes.Found form r) (told_look form r)
look_tells form (Ok (found.Health health)) h = absurd h
look_tells form (Ok (found.Meter m)) h = refl
look_tells form (Ok (found.Sale s)) h = sale_tells form s
look_tells form (Ok (found.Quote q)) h = refl
look_tells form (Ok (found.ShiftTotals n totals)) h = refl
look_tells form (Ok (found.Tariffs items)) h = refl
look_tells form (Ok (found.Meters items)) h = refl
look_tells form (Ok (found.Shifts items)) h = refl
look_tells form (Ok (found.Sales items)) h = refl
look_tells form (Err refusal) h = refl

-- that it was done is told where this is wanted alone
done_wanted : (w : Grants) → IsGrantOf w granted.Done → w ≡ wanted.Done
done_wanted wanted.Done h = refl
done_wanted w h = absurd h

-- where something else is wanted, it is told of no health
pub no_health : (form : Form) (w : Grants) (r : Result Found Refusal) → w ≢ wanted.Done → IsTellable w (told_look form r) → IsNoHealth r
no_health form w (Ok (found.Health health)) other h = absurd (other (done_wanted w h.1))
no_health form w (Ok (found.Meter m)) other h = tt
no_health form w (Ok (found.Sale s)) other h = tt
no_health form w (Ok (found.Quote q)) other h = tt
no_health form w (Ok (found.ShiftTotals n totals)) other h = tt
no_health form w (Ok (found.Tariffs items)) other h = tt
no_health form w (Ok (found.Meters items)) other h = tt
no_health form w (Ok (found.Shifts items)) other h = tt
no_health form w (Ok (found.Sales items)) other h = tt
no_health form w (Err refusal) other h = tt

-- so it is of each look-up
pub look_wanted : (lookup : Lookup) → wanted_by (Look lookup) ≢ wanted.Done
look_wanted (lookups.Tariffs None) e = absurd cc
look_wanted (lookups.Tariffs (Some name)) e = absurd cc
look_wanted (lookups.Meters None) e = absurd cc
look_wanted (lookups.Meters (Some number)) e = absurd cc
look_wanted lookup e = absurd cc

-- ---- sales and refusals

-- a sale of an office keeps the rules of a sale that is told
pub sale_told : (o : Office) (s : Sale) → IsOffice o → Contains o.sales s → IsSaleTold (as_told s)
sale_told o s office there =
    let row = sale_row o s office there in
    record {
      number = sale_numbered o s office there;
      moment = row.moment;
      shift = sale_shift o s office there;
      operator = row.operator;
      order_ref = row.order_ref;
      meter = meter_row o s.meter office row.meter;
      tid = row.tid;
      nibble = refl;
      tenths = row.tenths;
      price = row.price;
      tender = row.tender;
      digits = row.digits;
    }

tellable_row : (most row : ℕ) (cause : RowCause) → most < 4294967295 → IsRowFrom 1 most row cause → IsTellableRefusal (refusals.ImportRow row cause)
tellable_row most row causes.Header few h = absurd h.2
tellable_row most row causes.Columns few h = absurd h.2
tellable_row most row (causes.Field number) few h = absurd h.2
tellable_row most row causes.TooManyRows few h = absurd h.2
tellable_row most row causes.Differs few h = (omega (arith, h.1, few), tt)
tellable_row most row causes.NoTariff few h = (omega (arith, h.1, few), tt)
tellable_row most row causes.DayPast few h = (omega (arith, h.1, few), tt)

-- a refusal of some rows can be told, where they are fewer than 32 bits count
tellable_rows : (most : ℕ) (refusal : Refusal) → most < 4294967295 → RefusesRows most refusal → IsTellableRefusal refusal
tellable_rows most (refusals.ImportRow row cause) few h = tellable_row most row cause few h
tellable_rows most refusal few h = tt

-- ---- replies

-- rows are no more than a file has
abbrev pub FitsFile : Request → Type 0
FitsFile (requests.Import rows) = length rows ≤ 10000
FitsFile request = ⊤

-- the sales of a reply keep the rules
abbrev pub AreToldSales : Result Answer Refusal → Type 0
AreToldSales r = All (λ s. IsSaleTold (as_told s)) (sales_of r)

tellable_refusal : (request : Request) (refusal : Refusal) → FitsFile request → MayRefuseSo request refusal → IsTellableRefusal refusal
tellable_refusal (requests.Import rows) refusal fits may = tellable_rows (length rows) refusal (omega (arith, fits)) may
tellable_refusal request (refusals.ImportRow row cause) fits may = absurd may
tellable_refusal request refusal fits may = tt

tellable_answer : (request : Request) (answer : Answer) → FitsFile request → AreToldSales (Ok answer) → MayAnswer request answer
    → IsTellable (wanted_by (Do request)) (told_answer forms.Json answer)
tellable_answer (requests.AddTariff name steps) answers.Done fits sales may = (tt, tt)
tellable_answer (requests.AddSteps name day steps) answers.Done fits sales may = (tt, tt)
tellable_answer (requests.AddMeter number m) answers.Done fits sales may = (tt, tt)
tellable_answer (requests.Import rows) (answers.Imported n) fits sales may = (omega (arith, may, fits), tt)
tellable_answer (requests.SetTariff number name) answers.Done fits sales may = (tt, tt)
tellable_answer (requests.WithdrawSteps name day) (answers.Withdrawn n) fits sales may = (may, tt)
tellable_answer (requests.MoveBase number base) answers.Done fits sales may = (tt, tt)
tellable_answer (requests.SetKey number key) answers.Done fits sales may = (tt, tt)
tellable_answer (requests.OpenShift operator) (answers.Opened n) fits sales may = (may, tt)
tellable_answer (requests.CloseShift operator) (answers.Closed n) fits sales may = (may, tt)
tellable_answer (requests.Sell order) (answers.Sold s) fits sales may = (All-head (λ s. IsSaleTold (as_told s)) s [] sales, tt)
tellable_answer (requests.Reprint number) (answers.Reprinted s) fits sales may = (All-head (λ s. IsSaleTold (as_told s)) s [] sales, tt)
tellable_answer (requests.ShiftReport number) (answers.Report shift sold) fits sales may = (tt, tt)
tellable_answer request answer fits sales may = absurd may

-- the reply to a request can be told as what is wanted
pub tellable_reply : (request : Request) (r : Result Answer Refusal) → FitsFile request → AreToldSales r → MayReplyTo request r
    → IsTellable (wanted_by (Do request)) (told_reply forms.Json r)
tellable_reply request (Ok answer) fits sales may = tellable_answer request answer fits sales may
tellable_reply request (Err refusal) fits sales may = tellable_refusal request refusal fits may

-- so can that to a reprint, on paper
pub tellable_receipt : (number : ℕ) (r : Result Answer Refusal) → MayReplyTo (requests.Reprint number) r
    → IsTellable (wanted_by (Receipt number)) (told_reply forms.Paper r)
tellable_receipt number (Ok (answers.Reprinted s)) may = (tt, tt)
tellable_receipt number (Ok answer) may = absurd may
tellable_receipt number (Err refusal) may = tellable_refusal (requests.Reprint number) refusal tt may

-- what is wanted of an import
pub import_wanted : (kind : FileKind) (csv : List ℕ) → wanted_by (Import kind csv) ≡ wanted.Imported
import_wanted files.Meters csv = refl
import_wanted files.Tariffs csv = refl

-- ---- lower laws

-- what lower laws say of amounts, of the tenths of a month and of purchases
pub record RangeLaws : Type 0 where
  pub greatest : (t : ℕ) → IsRepresentable t → t ≤ greatest_amount
  pub prior : (o : Office) (number : List ℕ) (month : ℕ) → IsOffice o → prior o number month ≤ 10 ^ 17
  pub purchase : (steps : List Step) (before tender : ℕ) (b : Buy) → (purchase_of steps before tender ≡ Some b) ↔ IsPurchase steps before tender b
