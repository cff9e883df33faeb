-- What the words of each command say, by its rows.
use Rattle.std.specs.Prelude.{◌≡◌, ℕ, false, List, Option, Some, None, codes}
use Rattle.asks.specs.declared.ask.Ask.{Ask}
use Rattle.asks.specs.declared.ask.Ask.TheVariants as asks
use Rattle.asks.specs.declared.lookup.Lookup.{Lookup}
use Rattle.asks.specs.declared.lookup.Lookup.TheVariants as lookups
use Rattle.clap.specs.Walk.{Row}
use Rattle.papers.specs.declared.file_kind.FileKind.{FileKind}
use Rattle.papers.specs.declared.file_kind.FileKind.TheVariants.{Meters, Tariffs}
use Rattle.sts_fields.specs.Text.{Text}
use Rattle.command_line.specs.Address.{SaysAddress}
use Rattle.command_line.specs.Place.{SaysPlace}
use Rattle.command_line.specs.Said.{IsArgument, IsArgumentOr, IsOptionalArgument, parsed_argument}
use Rattle.command_line.specs.Said.{parsed_arguments}
use Rattle.command_line.specs.Values.{SayEach, SaysAfter, SaysAmount, SaysBase, SaysConnections}
use Rattle.command_line.specs.Values.{SaysDay}
use Rattle.command_line.specs.Values.{SaysFlag, SaysItem, SaysKey, SaysMeterNo, SaysMoment}
use Rattle.command_line.specs.Values.{SaysOperator, SaysPrior, SaysRef, SaysSteps, SaysTariff}
use Rattle.command_line.specs.Values.{SaysSyncs, SaysTender, SaysText, SaysTransform}
use Rattle.command_line.specs.Values.{SaysWait, default_transform, default_wait, no_flag}
use Rattle.command_line.specs.declared.commands.audit.AuditWords.{AuditWords}
use Rattle.command_line.specs.declared.commands.meter.MeterWords.{MeterWords}
use Rattle.command_line.specs.declared.commands.quote.QuoteWords.{QuoteWords}
use Rattle.command_line.specs.declared.commands.selfcheck.SelfcheckWords.{SelfcheckWords}
use Rattle.command_line.specs.declared.commands.serve.ServeWords.{ServeWords}
use Rattle.command_line.specs.declared.commands.trial.TrialWords.{TrialWords}
use Rattle.command_line.specs.declared.office_words.AskWords.{AskWords}
use Rattle.command_line.specs.declared.office_words.AskWords.TheVariants as office
use Rattle.command_line.specs.declared.office_words.OfficeWords.{OfficeWords}
use Rattle.office_rules.specs.declared.decision.request.Order.{Order}
use Rattle.office_rules.specs.declared.decision.request.Request.{Request}
use Rattle.office_rules.specs.declared.decision.request.Request.TheVariants.{SetTariff, MoveBase}
use Rattle.office_rules.specs.declared.decision.request.Request.TheVariants.{WithdrawSteps, SetKey}
use Rattle.office_rules.specs.declared.decision.request.Request.TheVariants.{OpenShift, CloseShift}
use Rattle.office_rules.specs.declared.decision.request.Request.TheVariants.{Sell, ShiftReport}

pub record SaysTrial (rows : List Row) (words : TrialWords) : Type 0 where
  pub transform : IsArgumentOr SaysTransform default_transform
      (parsed_argument (codes "transform") rows) words.transform
  pub base : IsArgument SaysBase (parsed_argument (codes "base") rows) words.base
  pub key : IsArgument SaysKey (parsed_argument (codes "key") rows) words.key
  pub at : IsOptionalArgument SaysMoment (parsed_argument (codes "at") rows) words.at
  pub amounts : IsArgument (SayEach SaysAmount)
      (parsed_arguments (codes "amounts") rows) words.amounts.items

-- tokens are any texts
pub record SaysMeterCommand (rows : List Row) (words : MeterWords) : Type 0 where
  pub transform : IsArgumentOr SaysTransform default_transform
      (parsed_argument (codes "transform") rows) words.transform
  pub key : IsArgument SaysKey (parsed_argument (codes "key") rows) words.key
  pub tokens : IsArgument (SayEach SaysText)
      (parsed_arguments (codes "tokens") rows) words.tokens.now

pub record SaysQuote (rows : List Row) (words : QuoteWords) : Type 0 where
  pub transform : IsArgumentOr SaysTransform default_transform
      (parsed_argument (codes "transform") rows) words.transform
  pub steps : IsArgument SaysSteps (parsed_argument (codes "steps") rows) words.steps
  pub prior : IsArgument SaysPrior (parsed_argument (codes "prior") rows) words.prior
  pub tender : IsArgument SaysTender (parsed_argument (codes "tender") rows) words.tender

pub record SaysSelfcheck (rows : List Row) (words : SelfcheckWords) : Type 0 where
  pub transform : IsArgumentOr SaysTransform default_transform
      (parsed_argument (codes "transform") rows) words.transform

pub record SaysAudit (rows : List Row) (words : AuditWords) : Type 0 where
  pub file : IsArgument SaysText (parsed_argument (codes "file") rows) words.file
  pub wait : IsArgumentOr SaysWait default_wait (parsed_argument (codes "wait") rows) words.wait
  pub transform : IsOptionalArgument SaysTransform
      (parsed_argument (codes "transform") rows) words.transform

-- the files of an import, by their kind
abbrev pub kind_name : FileKind → Text
kind_name Tariffs = codes "tariffs"
kind_name Meters = codes "meters"

abbrev pub SaysKind : Text → FileKind → Type 0
SaysKind text kind = text ≡ kind_name kind

pub record SaysOrder (rows : List Row) (order : Order) : Type 0 where
  pub operator : IsArgument SaysOperator (parsed_argument (codes "operator") rows) order.operator
  pub order_ref : IsArgument SaysRef (parsed_argument (codes "ref") rows) order.order_ref
  pub meter : IsArgument SaysMeterNo (parsed_argument (codes "meter") rows) order.meter
  pub tender : IsArgument SaysTender (parsed_argument (codes "tender") rows) order.tender

-- `tariff` gives a meter another tariff, `withdraw` takes back steps of one, `base` moves a meter,
-- `key` gives it another key, `shift` opens or closes an operator's shift, `sell` sells an order,
-- `report` reports a shift
abbrev pub SaysRequest : (name : Text) → List Row → Request → Type 0
SaysRequest name rows (SetTariff meter tariff) = (name ≡ codes "tariff")
    × IsArgument SaysMeterNo (parsed_argument (codes "meter") rows) meter
    × IsArgument SaysTariff (parsed_argument (codes "tariff") rows) tariff
SaysRequest name rows (WithdrawSteps tariff from) = (name ≡ codes "withdraw")
    × IsArgument SaysTariff (parsed_argument (codes "tariff") rows) tariff
    × IsArgument SaysDay (parsed_argument (codes "from") rows) from
SaysRequest name rows (MoveBase meter base) = (name ≡ codes "base")
    × IsArgument SaysMeterNo (parsed_argument (codes "meter") rows) meter
    × IsArgument SaysBase (parsed_argument (codes "base") rows) base
SaysRequest name rows (SetKey meter key) = (name ≡ codes "key")
    × IsArgument SaysMeterNo (parsed_argument (codes "meter") rows) meter
    × IsArgument SaysKey (parsed_argument (codes "key") rows) key
SaysRequest name rows (OpenShift operator) = (name ≡ codes "shift")
    × (parsed_argument (codes "act") rows ≡ Some (codes "open"))
    × IsArgument SaysOperator (parsed_argument (codes "operator") rows) operator
SaysRequest name rows (CloseShift operator) = (name ≡ codes "shift")
    × (parsed_argument (codes "act") rows ≡ Some (codes "close"))
    × IsArgument SaysOperator (parsed_argument (codes "operator") rows) operator
SaysRequest name rows (Sell order) = (name ≡ codes "sell") × SaysOrder rows order
SaysRequest name rows (ShiftReport number) = (name ≡ codes "report")
    × (parsed_argument (codes "kind") rows ≡ Some (codes "shift"))
    × IsArgument SaysItem (parsed_argument (codes "number") rows) number
SaysRequest name rows request = ⊥

-- `show` looks up a meter, or its last sale, by its number, and a sale by its operator and ref; the
-- last sale is shown by its receipt, which is no JSON. `offer` looks up what a tender would buy for
-- a meter, `report` the totals of a shift.
abbrev pub SaysLookup : (name : Text) → List Row → Lookup → Type 0
SaysLookup name rows (lookups.Meter meter) = (name ≡ codes "show")
    × (parsed_argument (codes "what") rows ≡ Some (codes "meter"))
    × IsArgument SaysMeterNo (parsed_argument (codes "meter") rows) meter
SaysLookup name rows (lookups.LastSale meter) = (name ≡ codes "show")
    × (parsed_argument (codes "what") rows ≡ Some (codes "last"))
    × IsArgumentOr SaysFlag no_flag (parsed_argument (codes "json") rows) false
    × IsArgument SaysMeterNo (parsed_argument (codes "meter") rows) meter
SaysLookup name rows (lookups.SaleOfRef operator order_ref) = (name ≡ codes "show")
    × (parsed_argument (codes "what") rows ≡ Some (codes "sale"))
    × IsArgument SaysOperator (parsed_argument (codes "operator") rows) operator
    × IsArgument SaysRef (parsed_argument (codes "ref") rows) order_ref
SaysLookup name rows (lookups.Quote meter tender) = (name ≡ codes "offer")
    × IsArgument SaysMeterNo (parsed_argument (codes "meter") rows) meter
    × IsArgument SaysTender (parsed_argument (codes "tender") rows) tender
SaysLookup name rows (lookups.ShiftTotals number) = (name ≡ codes "report")
    × (parsed_argument (codes "kind") rows ≡ Some (codes "totals"))
    × IsArgument SaysItem (parsed_argument (codes "number") rows) number
SaysLookup name rows lookup = ⊥

-- the number of the member after which a list begins, or 0 where it is left out
abbrev pub IsNumberOrNone : Option Text → ℕ → Type 0
IsNumberOrNone None number = number ≡ 0
IsNumberOrNone (Some text) number = SaysAfter text number

-- the first page of the members after one of them, or of all where none is given
abbrev pub SaysListed : List Row → Lookup → Type 0
SaysListed rows (lookups.Tariffs after) =
    (parsed_argument (codes "what") rows ≡ Some (codes "tariffs"))
    × IsOptionalArgument SaysTariff (parsed_argument (codes "after") rows) after
SaysListed rows (lookups.Meters after) =
    (parsed_argument (codes "what") rows ≡ Some (codes "meters"))
    × IsOptionalArgument SaysMeterNo (parsed_argument (codes "after") rows) after
SaysListed rows (lookups.Shifts after) =
    (parsed_argument (codes "what") rows ≡ Some (codes "shifts"))
    × IsNumberOrNone (parsed_argument (codes "after") rows) after
SaysListed rows (lookups.Sales after) =
    (parsed_argument (codes "what") rows ≡ Some (codes "sales"))
    × IsNumberOrNone (parsed_argument (codes "after") rows) after
SaysListed rows lookup = ⊥

pub record SaysServe (rows : List Row) (words : ServeWords) : Type 0 where
  pub transform : IsArgumentOr SaysTransform default_transform
      (parsed_argument (codes "transform") rows) words.transform
  pub file : IsArgument SaysText (parsed_argument (codes "file") rows) words.file
  pub wait : IsArgumentOr SaysWait default_wait (parsed_argument (codes "wait") rows) words.wait
  pub syncs : IsArgument SaysSyncs (parsed_argument (codes "sync") rows) words.syncs
  pub listen : IsArgument SaysAddress (parsed_argument (codes "listen") rows) words.listen
  pub connections : IsArgument SaysConnections
      (parsed_argument (codes "connections") rows) words.connections

-- one thing that a command of this name asks; rows are imported by the path of their file alone
abbrev pub SaysAsk : (name : Text) → List Row → Ask → Type 0
SaysAsk name rows (asks.Import kind csv) = ⊥
SaysAsk name rows (asks.Do request) = SaysRequest name rows request
SaysAsk name rows (asks.Receipt number) = (name ≡ codes "report")
    × (parsed_argument (codes "kind") rows ≡ Some (codes "receipt"))
    × IsArgument SaysItem (parsed_argument (codes "number") rows) number
SaysAsk name rows (asks.Look lookup) = SaysLookup name rows lookup

-- what a command of this name asks; an export of all sales has no number, and takes any word for it
abbrev pub SaysAskWords : (name : Text) → List Row → AskWords → Type 0
SaysAskWords name rows (office.Import kind csv) = (name ≡ codes "import")
    × IsArgument SaysKind (parsed_argument (codes "kind") rows) kind
    × IsArgument SaysText (parsed_argument (codes "csv") rows) csv
SaysAskWords name rows (office.Ask ask) = SaysAsk name rows ask
SaysAskWords name rows (office.List lookup) = (name ≡ codes "list") × SaysListed rows lookup
SaysAskWords name rows office.Export = (name ≡ codes "report")
    × (parsed_argument (codes "kind") rows ≡ Some (codes "sales"))

-- an office, and what it is asked
pub record SaysOffice (name : Text) (rows : List Row) (words : OfficeWords) : Type 0 where
  pub place : SaysPlace rows words.place
  pub ask : SaysAskWords name rows words.ask
  pub json : IsArgumentOr SaysFlag no_flag (parsed_argument (codes "json") rows) words.json
