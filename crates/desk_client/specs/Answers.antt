-- Which replies answer an ask: those that tell what it asks for, or why an office refuses it.
use Rattle.std.specs.Prelude.{◌≡◌, ⊤, ℕ, ◌+◌, ◌≤◌, List}
use Rattle.sts_token.specs.Reading.{IsOfClassZero}
use Rattle.office_rules.specs.Office.Rows.{greatest_rows}
use Rattle.office_rules.specs.declared.decision.refusal.Refusal.{Refusal}
use Rattle.office_rules.specs.declared.decision.refusal.Refusal.TheVariants as refusals
use Rattle.office_rules.specs.declared.decision.request.Order.{Order}
use Rattle.office_rules.specs.declared.decision.request.Request.TheVariants as requests
use Rattle.office_rules.specs.declared.decision.row_cause.RowCause.{RowCause}
use Rattle.office_rules.specs.declared.decision.row_cause.RowCause.TheVariants as causes
use Rattle.office_rules.specs.declared.office.sale.Sale.{Sale}
use Rattle.asks.specs.declared.ask.Ask.{Ask}
use Rattle.asks.specs.declared.ask.Ask.TheVariants.{Import, Do, Receipt, Look}
use Rattle.asks.specs.declared.lookup.Lookup.TheVariants as lookups
use Rattle.desk_client.specs.Receipt.{IsReceiptNumbered, IsReceiptOf}
use Rattle.desk_client.specs.Reply.{IsReply}
use Rattle.desk_client.specs.Report.{IsReportOf}
use Rattle.desk_client.specs.Sent.{wanted_by}
use Rattle.desk_client.specs.declared.told.Granted.{Granted}
use Rattle.desk_client.specs.declared.told.Granted.TheVariants as grants
use Rattle.desk_client.specs.declared.told.Told.{Told}
use Rattle.desk_client.specs.declared.told.Told.TheVariants as tells

-- ---- what is granted

-- the sale of an order: the operator, the ref, the meter and the tender of both are the same
pub record IsSaleFor (order : Order) (s : Sale) : Type 0 where
  pub operator : s.operator ≡ order.operator
  pub order_ref : s.order_ref ≡ order.order_ref
  pub meter : s.meter ≡ order.meter
  pub tender : s.tender ≡ order.tender

-- a sale is the one that the ask names: that of an order, of a number, or of an operator's ref
abbrev pub IsNamedSale : Sale → Ask → Type 0
IsNamedSale s (Do (requests.Sell order)) = IsSaleFor order s
IsNamedSale s (Do (requests.Reprint number)) = s.number ≡ number
IsNamedSale s (Look (lookups.SaleOfRef operator order_ref)) =
    (s.operator ≡ operator) × (s.order_ref ≡ order_ref)
IsNamedSale s ask = ⊤

-- What is granted is what the ask names: the sale, whose digits can be a token's, or its receipt;
-- the totals or the report of the shift; the meter, or the receipt of a sale to it; or a quote for
-- the meter and the tender.
abbrev pub GrantsWhat : Granted → Ask → Type 0
GrantsWhat (grants.Sale s) ask = IsOfClassZero s.digits × IsNamedSale s ask
GrantsWhat (grants.Totals shift totals) (Look (lookups.ShiftTotals number)) = shift ≡ number
GrantsWhat (grants.Paper text) (Do (requests.ShiftReport number)) = IsReportOf number text.now
GrantsWhat (grants.Paper text) (Receipt number) = IsReceiptNumbered number text.now
GrantsWhat (grants.Paper text) (Look (lookups.LastSale meter)) = IsReceiptOf meter text.now
GrantsWhat (grants.Meter m) (Look (lookups.Meter meter)) = m.number ≡ meter
GrantsWhat (grants.Quote q) (Look (lookups.Quote meter tender)) =
    (q.meter ≡ meter) × (q.tender ≡ tender)
GrantsWhat granted ask = ⊤

-- ---- what is refused

-- the number of a row that a file may have
abbrev pub IsFileRow : ℕ → Type 0
IsFileRow row = (1 ≤ row) × (row ≤ greatest_rows)

-- a row of a file that may be refused for this cause: the header is at 0, behind the last row that
-- a file may have there is one too many, and no row has more than four fields
abbrev pub IsRowRefused : ℕ → RowCause → Type 0
IsRowRefused row causes.Header = row ≡ 0
IsRowRefused row causes.Columns = IsFileRow row
IsRowRefused row (causes.Field number) = IsFileRow row × (1 ≤ number) × (number ≤ 4)
IsRowRefused row causes.TooManyRows = row ≡ greatest_rows + 1
IsRowRefused row causes.Differs = IsFileRow row
IsRowRefused row causes.NoTariff = IsFileRow row
IsRowRefused row causes.DayPast = IsFileRow row

-- The office has this refusal for this ask. Whatever is asked, it may lack memory, its store may
-- fail, or it may have stopped.
abbrev pub MayRefuse : Refusal → Ask → Type 0
MayRefuse refusals.RefReused (Do (requests.Sell order)) = ⊤
MayRefuse refusals.NoShift (Do (requests.CloseShift operator)) = ⊤
MayRefuse refusals.NoShift (Do (requests.Sell order)) = ⊤
MayRefuse refusals.ShiftOpen (Do (requests.OpenShift operator)) = ⊤
MayRefuse refusals.NoMeter (Do (requests.SetTariff meter tariff)) = ⊤
MayRefuse refusals.NoMeter (Do (requests.MoveBase meter base)) = ⊤
MayRefuse refusals.NoMeter (Do (requests.SetKey meter key)) = ⊤
MayRefuse refusals.NoMeter (Do (requests.Sell order)) = ⊤
MayRefuse refusals.NoMeter (Look (lookups.Meter meter)) = ⊤
MayRefuse refusals.NoMeter (Look (lookups.LastSale meter)) = ⊤
MayRefuse refusals.NoMeter (Look (lookups.Quote meter tender)) = ⊤
MayRefuse refusals.NoTariff (Do (requests.AddSteps tariff day steps)) = ⊤
MayRefuse refusals.NoTariff (Do (requests.AddMeter number meter)) = ⊤
MayRefuse refusals.NoTariff (Do (requests.SetTariff meter tariff)) = ⊤
MayRefuse refusals.NoTariff (Do (requests.WithdrawSteps tariff day)) = ⊤
MayRefuse refusals.BeforeBase (Do (requests.MoveBase meter base)) = ⊤
MayRefuse refusals.BeforeBase (Do (requests.Sell order)) = ⊤
MayRefuse refusals.BeforeBase (Look (lookups.Quote meter tender)) = ⊤
MayRefuse refusals.IdentifiersSpent (Do (requests.Sell order)) = ⊤
MayRefuse refusals.IdentifiersSpent (Look (lookups.Quote meter tender)) = ⊤
MayRefuse refusals.IdentifierAhead (Do (requests.Sell order)) = ⊤
MayRefuse refusals.IdentifierAhead (Look (lookups.Quote meter tender)) = ⊤
MayRefuse refusals.TooLittle (Do (requests.Sell order)) = ⊤
MayRefuse refusals.TooLittle (Look (lookups.Quote meter tender)) = ⊤
MayRefuse refusals.OfficeFull (Do (requests.OpenShift operator)) = ⊤
MayRefuse refusals.OfficeFull (Do (requests.Sell order)) = ⊤
MayRefuse refusals.OfficeFull (Look (lookups.Quote meter tender)) = ⊤
MayRefuse refusals.NoSale (Do (requests.Reprint number)) = ⊤
MayRefuse refusals.NoSale (Receipt number) = ⊤
MayRefuse refusals.NoSale (Look (lookups.LastSale meter)) = ⊤
MayRefuse refusals.NoSale (Look (lookups.SaleOfRef operator order_ref)) = ⊤
MayRefuse refusals.NoSuchShift (Do (requests.ShiftReport number)) = ⊤
MayRefuse refusals.NoSuchShift (Look (lookups.ShiftTotals number)) = ⊤
MayRefuse (refusals.ImportRow row cause) (Import kind csv) = IsRowRefused row cause
MayRefuse refusals.Memory ask = ⊤
MayRefuse refusals.Store ask = ⊤
MayRefuse refusals.Stopped ask = ⊤
MayRefuse refusals.NotLater (Do (requests.MoveBase meter base)) = ⊤
MayRefuse refusals.DayPast (Do (requests.AddSteps tariff day steps)) = ⊤
MayRefuse refusals.DayPast (Do (requests.WithdrawSteps tariff day)) = ⊤
MayRefuse refusals.HasSales (Do (requests.SetKey meter key)) = ⊤
MayRefuse refusals.Differs (Do (requests.AddTariff tariff steps)) = ⊤
MayRefuse refusals.Differs (Do (requests.AddSteps tariff day steps)) = ⊤
MayRefuse refusals.Differs (Do (requests.AddMeter number meter)) = ⊤
MayRefuse refusal ask = ⊥

-- ---- a reply

-- what is told answers the ask; a clock without a moment says nothing of any
abbrev pub Answers : Ask → Told → Type 0
Answers ask (tells.Granted granted) = GrantsWhat granted ask
Answers ask (tells.Refused refusal) = MayRefuse refusal ask
Answers ask tells.NoMoment = ⊤

-- the text is a whole reply to the message of an ask, and what it tells answers it
pub record IsReplyTo (ask : Ask) (text : List ℕ) (told : Told) : Type 0 where
  pub reply : IsReply (wanted_by ask) text told
  pub answers : Answers ask told
