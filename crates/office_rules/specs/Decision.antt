-- How the office decides a request: the tests in their order, and what a granted request changes.
pub mod Edits
pub mod Facts
pub mod Fold
pub mod Refusals
pub mod Requests
pub mod RowCauses
use Rattle.std.specs.Prelude.{ℕ, ◌+◌, ◌&&◌, ◌==◌, Bool, true, false, List, [], ◌∷◌, length, nat_lt}
use Rattle.std.specs.Prelude.{if◌then◌else◌, Option, Some, None, Result, Ok, Err, is_some}
use Rattle.std.specs.Prelude.{not, option_map, bytes_eq}
use Rattle.std.specs.Option.{ok_or}
use Rattle.sts_fields.specs.Calendar.{month_at}
use Rattle.sts_fields.specs.Day.{day_at}
use Rattle.sts_fields.specs.Tid.{fresh_after, minute_of}
use Rattle.sts_fields.specs.declared.fault.TidFault.{TidFault}
use Rattle.sts_fields.specs.declared.fault.TidFault.TheVariants.{BeforeBase, PastEnd}
use Rattle.sts_fields.specs.declared.fault.TidFault.TheVariants.{IdentifiersSpent, IdentifierAhead}
use Rattle.sts_token.specs.Token.{BlockFunction, token_of}
use Rattle.tariff.specs.Purchase.{purchase_of}
pub use Rattle.tariff.specs.StepsEq.{step_eq, steps_eq}
use Rattle.tariff.specs.declared.step.Step.{Step}
use Rattle.office_rules.specs.Decision.Edits.{office_after}
use Rattle.sts_fields.specs.Base.{base_date, base_eq, year_of}
use Rattle.sts_fields.specs.declared.base.Base.{Base}
use Rattle.office_rules.specs.Office.Lookup.{greatest_of, has_sales, open_shift, prior}
use Rattle.office_rules.specs.Office.Lookup.{sale_numbered, sale_of_ref, sales_of_shift}
use Rattle.office_rules.specs.Office.Lookup.{shift_numbered, sold_since, steps_on, used}
use Rattle.office_rules.specs.Office.{Office, greatest_count}
use Rattle.office_rules.specs.declared.decision.answer.Answer.{Answer}
use Rattle.office_rules.specs.declared.decision.answer.Answer.TheVariants as answers
use Rattle.office_rules.specs.declared.decision.change.Change.{Change}
use Rattle.office_rules.specs.declared.decision.change.Edit.{Edit}
use Rattle.office_rules.specs.declared.decision.change.Edit.TheVariants as edits
use Rattle.office_rules.specs.declared.office.meter.Meter.{Meter}
use Rattle.office_rules.specs.declared.decision.refusal.Refusal.{Refusal}
use Rattle.office_rules.specs.declared.decision.refusal.Refusal.TheVariants as refusals
use Rattle.office_rules.specs.declared.decision.request.Order.{Order}
use Rattle.office_rules.specs.declared.decision.request.Request.{Request}
use Rattle.office_rules.specs.declared.decision.request.Request.TheVariants as requests
use Rattle.office_rules.specs.declared.decision.request.Stamped.{Stamped}
use Rattle.office_rules.specs.declared.office.row.Row.{Row}
use Rattle.office_rules.specs.declared.office.row.Row.TheVariants as kinds
use Rattle.office_rules.specs.declared.decision.row_cause.RowCause.TheVariants as causes
use Rattle.office_rules.specs.declared.office.sale.Sale.{Sale}
use Rattle.office_rules.specs.declared.office.shift.Shift.{Shift}

-- the next test, if the one before is passed
infixl 10 ◌>>=◌
abbrev pub ◌>>=◌ : {A B : Type 0} → Result A Refusal → (A → Result B Refusal) → Result B Refusal
(Ok x) >>= f = f x
(Err e) >>= f = Err e

-- a request is granted, and changes nothing
abbrev pub unchanged : Answer → Result Change Refusal
unchanged answer = Ok (record { edit = None; answer = answer })

-- a request is granted, and makes an edit
abbrev pub changed : Edit → Answer → Result Change Refusal
changed edit answer = Ok (record { edit = Some edit; answer = answer })

-- two meters are the same
abbrev pub meter_eq : Meter → Meter → Bool
meter_eq a b = base_eq a.base b.base && bytes_eq a.tariff b.tariff && (a.key == b.key)

-- the base is earlier than the other
abbrev pub is_earlier : Base → Base → Bool
is_earlier a b = nat_lt (year_of a) (year_of b)

-- why a moment has no minute, or a sale no identifier, as a refusal
abbrev pub refusal_of : TidFault → Refusal
refusal_of BeforeBase = refusals.BeforeBase
refusal_of PastEnd = refusals.IdentifiersSpent
refusal_of IdentifiersSpent = refusals.IdentifiersSpent
refusal_of IdentifierAhead = refusals.IdentifierAhead

abbrev pub or_refusal : {A : Type 0} → Result A TidFault → Result A Refusal
or_refusal (Ok x) = Ok x
or_refusal (Err fault) = Err (refusal_of fault)

-- the number of the next row, where there is room for one: counts go up to a thousand million
abbrev pub next_number : ℕ → Result ℕ Refusal
next_number count = if nat_lt count greatest_count then Ok (count + 1) else Err refusals.OfficeFull

-- AddTariff, where there are these steps under the name
abbrev pub add_tariff : List ℕ → List Step → Option (List Step) → Result Change Refusal
add_tariff name steps None = changed (edits.AddTariff name steps) answers.Done
add_tariff name steps (Some there) =
    if steps_eq there steps then unchanged answers.Done else Err refusals.Differs

-- steps that no day has yet are added, where their first day is later than today
abbrev pub added_if_later : List ℕ → ℕ → List Step → (later : Bool) → Result Change Refusal
added_if_later name day steps later =
    if later then changed (edits.AddSteps name day steps) answers.Done else Err refusals.DayPast

-- AddSteps from a day on, where it is today, and there are a tariff of the name or none and these
-- steps of the same first day
abbrev pub add_steps : List ℕ → ℕ → List Step → ℕ → Bool → Option (List Step)
    → Result Change Refusal
add_steps name day steps today false there = Err refusals.NoTariff
add_steps name day steps today true (Some there) =
    if steps_eq there steps then unchanged answers.Done else Err refusals.Differs
add_steps name day steps today true None = added_if_later name day steps (nat_lt today day)

-- steps are withdrawn where they are free: their first day is later than today, and nothing was
-- sold since it
abbrev pub withdrawn_if_free : List ℕ → ℕ → (free : Bool) → Result Change Refusal
withdrawn_if_free name day free =
    if free then changed (edits.WithdrawSteps name day) (answers.Withdrawn 1)
    else Err refusals.DayPast

-- WithdrawSteps from a day on, where it is today, there are a tariff of the name or none and these
-- steps of the same first day, and a sale was made on that day or later, or none was
abbrev pub withdraw_steps : List ℕ → ℕ → ℕ → Bool → Option (List Step) → Bool
    → Result Change Refusal
withdraw_steps name day today false there sold = Err refusals.NoTariff
withdraw_steps name day today true None sold = unchanged (answers.Withdrawn 0)
withdraw_steps name day today true (Some there) sold =
    withdrawn_if_free name day (nat_lt today day && not sold)

-- AddMeter, where there is this meter under the number, and a tariff of its tariff's name or none
abbrev pub add_meter : List ℕ → Meter → Option Meter → Bool → Result Change Refusal
add_meter number m (Some there) has_tariff =
    if meter_eq there m then unchanged answers.Done else Err refusals.Differs
add_meter number m None true = changed (edits.AddMeter number m) answers.Done
add_meter number m None false = Err refusals.NoTariff

-- a row of an import in an office, where it is today: AddTariff, AddSteps or AddMeter
abbrev pub row_decision : Office → ℕ → Row → Result Change Refusal
row_decision o today (kinds.Tariff name steps) = add_tariff name steps (o.tariffs name)
row_decision o today (kinds.Steps name day steps) =
    add_steps name day steps today (is_some (o.tariffs name)) (o.dated_steps name day)
row_decision o today (kinds.Meter number m) =
    add_meter number m (o.meters number) (is_some (o.tariffs m.tariff))

-- whether a granted request changes something, or why it is refused
abbrev pub is_new : Result Change Refusal → Result Bool Refusal
is_new (Ok change) = Ok (is_some change.edit)
is_new (Err refusal) = Err refusal

-- a row's refusal is that of the import, with the row's number and the cause; a row has no other
abbrev pub at_row : ℕ → Result Change Refusal → Result Change Refusal
at_row number (Ok change) = Ok change
at_row number (Err refusals.Differs) = Err (refusals.ImportRow number causes.Differs)
at_row number (Err refusals.NoTariff) = Err (refusals.ImportRow number causes.NoTariff)
at_row number (Err refusals.DayPast) = Err (refusals.ImportRow number causes.DayPast)
at_row number (Err refusal) = Err refusal

-- the new ones of some rows, of which the first has this number, or why one is refused:
-- each row sees the rows before it
abbrev pub new_rows : Office → ℕ → ℕ → List Row → Result (List Row) Refusal
new_rows o today number [] = Ok []
new_rows o today number (row ∷ rest) = do
  change ← at_row number (row_decision o today row)
  new ← new_rows (office_after o (Ok change)) today (number + 1) rest
  Ok (if is_some change.edit then row ∷ new else new)

-- Import, with these new rows: all are added, or there is none and nothing changes
abbrev pub add_rows : List Row → Result Change Refusal
add_rows [] = unchanged (answers.Imported 0)
add_rows (row ∷ rest) =
    changed (edits.AddRows (row ∷ rest)) (answers.Imported (length (row ∷ rest)))

-- Import: the first row that is refused refuses them all
abbrev pub import : Office → ℕ → List Row → Result Change Refusal
import o today rows = do
  new ← new_rows o today 1 rows
  add_rows new

-- SetTariff, where there is this meter, and a tariff of the name or none;
-- a meter that has it is left alone
abbrev pub set_tariff : List ℕ → List ℕ → Option Meter → Bool → Result Change Refusal
set_tariff number name None has_tariff = Err refusals.NoMeter
set_tariff number name (Some m) false = Err refusals.NoTariff
set_tariff number name (Some m) true =
    if bytes_eq m.tariff name then unchanged answers.Done
    else changed (edits.SetTariff number name) answers.Done

-- a meter is moved to a base, unless it has this one, or a later one, or the base is still to come
abbrev pub moved_unless : List ℕ → Base → (same earlier before : Bool) → Result Change Refusal
moved_unless number base same earlier before =
    if same then unchanged answers.Done
    else (if earlier then Err refusals.NotLater
    else (if before then Err refusals.BeforeBase
    else changed (edits.MoveBase number base) answers.Done))

-- MoveBase, where there is this meter; one that has the base is left alone
abbrev pub move_base : List ℕ → Base → ℕ → Option Meter → Result Change Refusal
move_base number base moment None = Err refusals.NoMeter
move_base number base moment (Some m) =
    moved_unless number base (base_eq m.base base) (is_earlier base m.base)
    (nat_lt moment (base_date base))

-- a meter is given a key, unless it has this one, or something was sold to it
abbrev pub keyed_unless : List ℕ → ℕ → (same sold : Bool) → Result Change Refusal
keyed_unless number key same sold =
    if same then unchanged answers.Done
    else (if sold then Err refusals.HasSales
    else changed (edits.SetKey number key) answers.Done)

-- SetKey, where there is this meter, and a sale to it or none; one that has the key is left alone
abbrev pub set_key : List ℕ → ℕ → Option Meter → Bool → Result Change Refusal
set_key number key None sold = Err refusals.NoMeter
set_key number key (Some m) sold = keyed_unless number key (m.key == key) sold

-- OpenShift, where the operator has this open shift and there are so many shifts
abbrev pub open_a_shift : ℕ → List ℕ → Option Shift → ℕ → Result Change Refusal
open_a_shift moment operator (Some there) count = Err refusals.ShiftOpen
open_a_shift moment operator None count = do
  number ← next_number count
  let shift : Shift = record {
    number = number;
    operator = operator;
    opened = moment;
    closed = None;
  } in changed (edits.OpenShift shift) (answers.Opened number)

-- CloseShift
abbrev pub close_shift : ℕ → Option Shift → Result Change Refusal
close_shift moment shift = do
  s ← ok_or shift refusals.NoShift
  changed (edits.CloseShift s.number moment) (answers.Closed s.number)

-- Sell, where this sale was made under the operator's ref: the same order gets it again
abbrev pub sell_again : Order → Sale → Result Change Refusal
sell_again order first =
    if bytes_eq first.meter order.meter && (first.tender == order.tender)
    then unchanged (answers.Sold first)
    else Err refusals.RefReused

-- what a sale looks at of its meter: the meter, the steps of its tariff on the day, the last
-- identifier under its base, the month's tenths
pub record MeterAccount : Type 0 where
  pub meter : Meter
  pub steps : List Step
  pub last : Option ℕ
  pub prior : ℕ

-- a new sale: the operator's open shift, the meter, its minute, the fresh identifier,
-- the purchase, and room for one more
abbrev pub sell : BlockFunction → ℕ → ℕ → Order → Option Shift → Option MeterAccount → ℕ
    → Result Change Refusal
sell forward moment nibble order shift meter count = do
  s ← ok_or shift refusals.NoShift
  m ← ok_or meter refusals.NoMeter
  now ← or_refusal (minute_of m.meter.base moment)
  tid ← or_refusal (fresh_after now m.last)
  buy ← ok_or (purchase_of m.steps m.prior order.tender) refusals.TooLittle
  number ← next_number count
  let sale : Sale = record {
    number = number;
    moment = moment;
    shift = s.number;
    operator = order.operator;
    order_ref = order.order_ref;
    meter = order.meter;
    base = m.meter.base;
    tid = tid;
    rnd = nibble;
    tenths = buy.tenths;
    price = buy.price;
    tender = order.tender;
    digits = token_of forward m.meter.key (record { rnd = nibble; tid = tid; tenths = buy.tenths });
  } in changed (edits.AddSale sale) (answers.Sold sale)

-- Sell, where the operator made this sale under the ref
abbrev pub sell_once : BlockFunction → ℕ → ℕ → Order → Option Sale → Option Shift
    → Option MeterAccount → ℕ
    → Result Change Refusal
sell_once forward moment nibble order (Some first) shift meter count = sell_again order first
sell_once forward moment nibble order None shift meter count =
    sell forward moment nibble order shift meter count

-- Reprint: the sale as it was stored
abbrev pub reprint : Option Sale → Result Change Refusal
reprint sale = do
  s ← ok_or sale refusals.NoSale
  unchanged (answers.Reprinted s)

-- ShiftReport, where these are the shift's sales
abbrev pub report : Option Shift → List Sale → Result Change Refusal
report shift sales = do
  s ← ok_or shift refusals.NoSuchShift
  unchanged (answers.Report s sales)

-- what a sale at a moment looks at of the meter of this number
abbrev pub account_of : Office → List ℕ → ℕ → Option MeterAccount
account_of o number moment =
    option_map (λ m. record {
      meter = m;
      steps = steps_on o m.tariff (day_at moment);
      last = greatest_of (used o number m.base);
      prior = prior o number (month_at moment);
    }) (o.meters number)

-- how an office decides a request
abbrev pub decision_of : BlockFunction → Office → ℕ → ℕ → Request → Result Change Refusal
decision_of forward o moment nibble (requests.AddTariff name steps) =
    add_tariff name steps (o.tariffs name)
decision_of forward o moment nibble (requests.AddSteps name day steps) =
    add_steps name day steps (day_at moment) (is_some (o.tariffs name)) (o.dated_steps name day)
decision_of forward o moment nibble (requests.WithdrawSteps name day) =
    withdraw_steps name day (day_at moment) (is_some (o.tariffs name)) (o.dated_steps name day)
    (sold_since o day)
decision_of forward o moment nibble (requests.AddMeter number m) =
    add_meter number m (o.meters number) (is_some (o.tariffs m.tariff))
decision_of forward o moment nibble (requests.Import rows) = import o (day_at moment) rows
decision_of forward o moment nibble (requests.SetTariff number name) =
    set_tariff number name (o.meters number) (is_some (o.tariffs name))
decision_of forward o moment nibble (requests.MoveBase number base) =
    move_base number base moment (o.meters number)
decision_of forward o moment nibble (requests.SetKey number key) =
    set_key number key (o.meters number) (has_sales o number)
decision_of forward o moment nibble (requests.OpenShift operator) =
    open_a_shift moment operator (open_shift o operator) (length o.shifts)
decision_of forward o moment nibble (requests.CloseShift operator) =
    close_shift moment (open_shift o operator)
decision_of forward o moment nibble (requests.Sell order) =
    sell_once forward moment nibble order (sale_of_ref o order.operator order.order_ref)
    (open_shift o order.operator) (account_of o order.meter moment) (length o.sales)
decision_of forward o moment nibble (requests.Reprint number) = reprint (sale_numbered o number)
decision_of forward o moment nibble (requests.ShiftReport number) =
    report (shift_numbered o number) (sales_of_shift o number)

abbrev pub decision : BlockFunction → Office → Stamped → Result Change Refusal
decision forward o at = decision_of forward o at.moment at.nibble at.request
