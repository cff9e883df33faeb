-- What replies tell, and their bodies.
use Rattle.std.specs.Prelude.{◌≡◌, ℕ, ◌≤◌, List, codes, ⊤}
use Rattle.desk_messages.specs.reply.Body.{done_text, refusal_text}
use Rattle.desk_messages.specs.reply.Records.{count_text, fault_text, meter_text, quote_text}
use Rattle.desk_messages.specs.reply.Records.{sale_text, totals_text}
use Rattle.asks.specs.Value.{IsTargetNumber}
use Rattle.office_rules.specs.Decision.Refusals.{refusal_category}
use Rattle.office_rules.specs.Office.Rows.{greatest_rows}
use Rattle.office_rules.specs.declared.decision.category.Category.{Category}
use Rattle.office_rules.specs.declared.decision.category.Category.TheVariants.{Missing, Forbidden}
use Rattle.office_rules.specs.declared.decision.category.Category.TheVariants.{Unfit, UnfitRow}
use Rattle.office_rules.specs.declared.decision.category.Category.TheVariants.{Unable}
use Rattle.office_rules.specs.declared.decision.refusal.Refusal.{Refusal}
use Rattle.desk_client.specs.Meter.{IsToldMeter}
use Rattle.desk_client.specs.Quote.{IsToldQuote}
use Rattle.desk_client.specs.Refusal.{IsRowCause}
use Rattle.desk_client.specs.Sale.{IsSaleTold}
use Rattle.desk_client.specs.Start.{category_start}
use Rattle.desk_client.specs.Totals.{IsToldTotals}
use Rattle.desk_client.specs.declared.start.Start.{Start}
use Rattle.desk_client.specs.declared.start.Start.TheVariants as starts
use Rattle.desk_client.specs.declared.told.Granted.{Granted}
use Rattle.desk_client.specs.declared.told.Granted.TheVariants.{Done, Imported, Shift, Sale, Meter}
use Rattle.desk_client.specs.declared.told.Granted.TheVariants.{Quote, Totals, Paper, Page}
use Rattle.desk_client.specs.declared.told.Granted.TheVariants.{Withdrawn}
use Rattle.desk_client.specs.declared.told.Told.{Told}
use Rattle.desk_client.specs.declared.told.Told.TheVariants as told
use Rattle.asks.specs.declared.endpoint.Grants.{Grants}
use Rattle.asks.specs.declared.endpoint.Grants.TheVariants as wanted

-- what is told where this is granted; each page is told by its text
abbrev pub IsGrantOf : Grants → Granted → Type 0
IsGrantOf wanted.Done Done = ⊤
IsGrantOf wanted.Imported (Imported count) = ⊤
IsGrantOf wanted.Withdrawn (Withdrawn count) = ⊤
IsGrantOf wanted.Shift (Shift number) = ⊤
IsGrantOf wanted.Sale (Sale sale) = ⊤
IsGrantOf wanted.Meter (Meter meter) = ⊤
IsGrantOf wanted.Quote (Quote quote) = ⊤
IsGrantOf wanted.Totals (Totals number totals) = ⊤
IsGrantOf wanted.Paper (Paper text) = ⊤
IsGrantOf wanted.Tariffs (Page text) = ⊤
IsGrantOf wanted.Meters (Page text) = ⊤
IsGrantOf wanted.Shifts (Page text) = ⊤
IsGrantOf wanted.Sales (Page text) = ⊤
IsGrantOf asked granted = ⊥

-- what it tells keeps its rules
abbrev pub IsAnswer : Granted → Type 0
IsAnswer Done = ⊤
IsAnswer (Imported count) = count ≤ greatest_rows
IsAnswer (Withdrawn count) = count ≤ 1
IsAnswer (Shift number) = IsTargetNumber number
IsAnswer (Sale sale) = IsSaleTold sale
IsAnswer (Meter meter) = IsToldMeter meter
IsAnswer (Quote quote) = IsToldQuote quote
IsAnswer (Totals number totals) = IsToldTotals number totals
IsAnswer (Paper text) = ⊤
IsAnswer (Page text) = ⊤

-- the body that tells what is granted
abbrev pub granted_text : Granted → List ℕ
granted_text Done = done_text
granted_text (Imported count) = count_text (codes "added") count
granted_text (Withdrawn count) = count_text (codes "withdrawn") count
granted_text (Shift number) = count_text (codes "shift") number
granted_text (Sale sale) = sale_text sale
granted_text (Meter meter) = meter_text meter
granted_text (Quote quote) = quote_text quote
granted_text (Totals number totals) = totals_text number totals
granted_text (Paper text) = text.now
granted_text (Page text) = text.now

-- and what its reply begins with
abbrev pub granted_start : Grants → Start
granted_start wanted.Paper = starts.Paper
granted_start asked = starts.Json

-- a row's number has 32 bits
abbrev pub IsTellableBy : Category → Type 0
IsTellableBy (UnfitRow row cause) = IsRowCause row cause
IsTellableBy Missing = ⊤
IsTellableBy Forbidden = ⊤
IsTellableBy Unfit = ⊤
IsTellableBy Unable = ⊤

abbrev pub IsTellableRefusal : Refusal → Type 0
IsTellableRefusal refusal = IsTellableBy (refusal_category refusal)

abbrev pub refusal_start : Refusal → Start
refusal_start refusal = category_start (refusal_category refusal)

-- a start of a reply, where this is wanted: that of what is granted, or of a refusal
abbrev pub IsStart : Grants → Start → Type 0
IsStart asked starts.Json = granted_start asked ≡ starts.Json
IsStart asked starts.Paper = granted_start asked ≡ starts.Paper
IsStart asked starts.Missing = ⊤
IsStart asked starts.Forbidden = ⊤
IsStart asked starts.Unfit = ⊤
IsStart asked starts.Unable = ⊤

-- what a reply may tell, where this is wanted
abbrev pub IsTellable : Grants → Told → Type 0
IsTellable asked (told.Granted granted) = IsAnswer granted × IsGrantOf asked granted
IsTellable asked (told.Refused refusal) = IsTellableRefusal refusal
IsTellable asked told.NoMoment = ⊤

-- what a reply begins with that grants this
abbrev pub start_of : Granted → Start
start_of (Paper text) = starts.Paper
start_of granted = starts.Json

-- the start of its reply
abbrev pub told_start : Told → Start
told_start (told.Granted granted) = start_of granted
told_start (told.Refused refusal) = refusal_start refusal
told_start told.NoMoment = starts.Unable

-- and its body
abbrev pub told_text : Told → List ℕ
told_text (told.Granted granted) = granted_text granted
told_text (told.Refused refusal) = refusal_text refusal
told_text told.NoMoment = fault_text (codes "Clock")
