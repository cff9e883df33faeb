-- What the tests of a request look at, and how an answer may fall short of the decision.
use Rattle.std.specs.Prelude.{◌≡◌, ◌⊎◌, ℕ, Bool, true, false, List, [], ◌∷◌, Option, Some, None}
use Rattle.std.specs.Prelude.{◌==◌, IsNone, IsSome, Result, Ok, Err, if◌then◌else◌, is_some}
use Rattle.std.specs.Prelude.{length, option_map}
use Rattle.sts_fields.specs.Day.{day_at}
use Rattle.office_rules.specs.Decision.{account_of, add_steps, add_tariff, is_new, row_decision}
use Rattle.office_rules.specs.Decision.{unchanged}
use Rattle.office_rules.specs.Office.Lookup.{has_sales, open_shift, sale_numbered, sale_of_ref}
use Rattle.office_rules.specs.Office.Lookup.{sales_of_shift, shift_numbered, sold_since}
use Rattle.office_rules.specs.Office.{Office}
use Rattle.office_rules.specs.declared.decision.answer.Answer.TheVariants.{Report}
use Rattle.office_rules.specs.declared.decision.change.Change.{Change}
use Rattle.office_rules.specs.declared.decision.facts.Facts.{Facts}
use Rattle.office_rules.specs.declared.office.meter.Meter.{Meter}
use Rattle.office_rules.specs.declared.decision.refusal.Refusal.{Refusal}
use Rattle.office_rules.specs.declared.decision.refusal.Refusal.TheVariants.{Differs, Memory}
use Rattle.office_rules.specs.declared.decision.refusal.Refusal.TheVariants.{NoSuchShift}
use Rattle.office_rules.specs.declared.decision.request.Order.{Order}
use Rattle.office_rules.specs.declared.decision.request.Request.{Request}
use Rattle.office_rules.specs.declared.decision.request.Request.TheVariants.{AddTariff, AddSteps}
use Rattle.office_rules.specs.declared.decision.request.Request.TheVariants.{AddMeter, Import}
use Rattle.office_rules.specs.declared.decision.request.Request.TheVariants.{SetTariff, MoveBase}
use Rattle.office_rules.specs.declared.decision.request.Request.TheVariants.{SetKey, WithdrawSteps}
use Rattle.office_rules.specs.declared.decision.request.Request.TheVariants.{OpenShift, CloseShift}
use Rattle.office_rules.specs.declared.decision.request.Request.TheVariants.{Sell, Reprint}
use Rattle.office_rules.specs.declared.decision.request.Request.TheVariants.{ShiftReport}
use Rattle.office_rules.specs.declared.decision.request.Stamped.{Stamped}
use Rattle.office_rules.specs.declared.office.row.Row.{Row}
use Rattle.office_rules.specs.declared.office.row.Row.TheVariants as kinds
use Rattle.office_rules.specs.declared.decision.row_facts.RowFacts.{RowFacts}
use Rattle.office_rules.specs.declared.decision.row_facts.RowFacts.TheVariants as found
use Rattle.office_rules.specs.declared.office.sale.Sale.{Sale}
use Rattle.office_rules.specs.declared.office.shift.Shift.{Shift}

-- the facts in which nothing was found
abbrev pub no_facts : Facts
no_facts = record {
  tariff = None;
  meter = None;
  has_tariff = false;
  dated_steps = None;
  sold_since = false;
  has_sales = false;
  rows = None;
  open_shift = None;
  shift_count = 0;
  first_sale = None;
  account = None;
  sale_count = 0;
  sale = None;
  report = None;
}

-- a meter, and where there is none whether its tariff is there:
-- AddMeter looks at no tariff where the meter stands
pub record AreMeterFacts (o : Office) (number : List ℕ) (m : Meter) (f : Facts) : Type 0 where
  pub meter : f.meter ≡ o.meters number
  pub has_tariff : IsNone f.meter → f.has_tariff ≡ is_some (o.tariffs m.tariff)

-- SetTariff looks at the tariff only where the meter stands
pub record AreSettingFacts (o : Office) (number name : List ℕ) (f : Facts) : Type 0 where
  pub meter : f.meter ≡ o.meters number
  pub has_tariff : IsSome f.meter → f.has_tariff ≡ is_some (o.tariffs name)

-- AddSteps looks at the steps of the day only where the tariff stands
pub record AreDatedFacts (o : Office) (name : List ℕ) (day : ℕ) (f : Facts) : Type 0 where
  pub has_tariff : f.has_tariff ≡ is_some (o.tariffs name)
  pub dated_steps : f.has_tariff ≡ true → f.dated_steps ≡ o.dated_steps name day

-- WithdrawSteps looks at the steps of the day only where the tariff stands, and at the sales since
-- that day only where there are such steps
pub record AreWithdrawalFacts (o : Office) (name : List ℕ) (day : ℕ) (f : Facts) : Type 0 where
  pub has_tariff : f.has_tariff ≡ is_some (o.tariffs name)
  pub dated_steps : f.has_tariff ≡ true → f.dated_steps ≡ o.dated_steps name day
  pub sold_since : f.has_tariff ≡ true → IsSome f.dated_steps → f.sold_since ≡ sold_since o day

-- whether a meter stands and has another key than this one
abbrev pub has_other_key : ℕ → Option Meter → Bool
has_other_key key None = false
has_other_key key (Some m) = if m.key == key then false else true

-- SetKey looks at the sales to the meter only where the meter stands and has another key
pub record AreKeyFacts (o : Office) (number : List ℕ) (key : ℕ) (f : Facts) : Type 0 where
  pub meter : f.meter ≡ o.meters number
  pub has_sales : has_other_key key f.meter ≡ true → f.has_sales ≡ has_sales o number

-- OpenShift counts the shifts only where the operator has no open one
pub record AreOpeningFacts (o : Office) (operator : List ℕ) (f : Facts) : Type 0 where
  pub open_shift : f.open_shift ≡ open_shift o operator
  pub shift_count : IsNone f.open_shift → f.shift_count ≡ length o.shifts

-- a new sale looks at its meter only where there is an open shift, and at the count only where
-- there is a meter too
pub record AreNewSaleFacts (o : Office) (moment : ℕ) (order : Order) (f : Facts) : Type 0 where
  pub open_shift : f.open_shift ≡ open_shift o order.operator
  pub account : IsSome f.open_shift → f.account ≡ account_of o order.meter moment
  pub sale_count : IsSome f.open_shift → IsSome f.account → f.sale_count ≡ length o.sales

-- an order looks at the sale under its ref, and at the rest only where there is none
pub record AreSaleFacts (o : Office) (moment : ℕ) (order : Order) (f : Facts) : Type 0 where
  pub first_sale : f.first_sale ≡ sale_of_ref o order.operator order.order_ref
  pub new_sale : IsNone f.first_sale → AreNewSaleFacts o moment order f

-- what an office has of a row's names: a meter's tariff is looked at only where there is no meter
abbrev pub meter_found : Option Meter → Bool → RowFacts
meter_found (Some there) has_tariff = found.Meter there
meter_found None has_tariff = found.NoMeter has_tariff

abbrev pub row_facts : Office → Row → RowFacts
row_facts o (kinds.Tariff name steps) = found.Tariff (o.tariffs name)
row_facts o (kinds.Steps name day steps) =
    found.Steps (is_some (o.tariffs name)) (o.dated_steps name day)
row_facts o (kinds.Meter number m) = meter_found (o.meters number) (is_some (o.tariffs m.tariff))

-- what the office, without the rows of the import, has of each row's names, up to the first row
-- that differs from it: whatever rows came before, that row is refused
abbrev pub AreRowsFacts : Office → ℕ → List Row → List RowFacts → Type 0
AreRowsFacts o today [] fs = Unit {0}
AreRowsFacts o today (row ∷ rest) [] = ⊥
AreRowsFacts o today (row ∷ rest) (f ∷ fs) =
    (f ≡ row_facts o row)
    × ((row_decision o today row ≡ Err Differs) ⊎ AreRowsFacts o today rest fs)

-- the shift of a number with its sales
abbrev pub report_of : Office → ℕ → Option (Shift × List Sale)
report_of o number = option_map (λ s. (s, sales_of_shift o number)) (shift_numbered o number)

-- what a request looks at in an office; of the rest nothing is said
abbrev pub AreFactsOf : Office → ℕ → Request → Facts → Type 0
AreFactsOf o moment (AddTariff name steps) f = f.tariff ≡ o.tariffs name
AreFactsOf o moment (AddSteps name day steps) f = AreDatedFacts o name day f
AreFactsOf o moment (WithdrawSteps name day) f = AreWithdrawalFacts o name day f
AreFactsOf o moment (AddMeter number m) f = AreMeterFacts o number m f
AreFactsOf o moment (Import rows) f =
    (fs : List RowFacts) × (f.rows ≡ Some fs) × AreRowsFacts o (day_at moment) rows fs
AreFactsOf o moment (SetTariff number name) f = AreSettingFacts o number name f
AreFactsOf o moment (MoveBase number base) f = f.meter ≡ o.meters number
AreFactsOf o moment (SetKey number key) f = AreKeyFacts o number key f
AreFactsOf o moment (OpenShift operator) f = AreOpeningFacts o operator f
AreFactsOf o moment (CloseShift operator) f = f.open_shift ≡ open_shift o operator
AreFactsOf o moment (Sell order) f = AreSaleFacts o moment order f
AreFactsOf o moment (Reprint number) f = f.sale ≡ sale_numbered o number
AreFactsOf o moment (ShiftReport number) f = f.report ≡ report_of o number

abbrev pub AreFacts : Office → Stamped → Facts → Type 0
AreFacts o at f = AreFactsOf o at.moment at.request f

-- a row is new in the office, and each row before it stands there already
abbrev pub HasNewRow : Office → ℕ → List Row → Type 0
HasNewRow o today [] = ⊥
HasNewRow o today (row ∷ rest) =
    (is_new (row_decision o today row) ≡ Ok true)
    ⊎ ((is_new (row_decision o today row) ≡ Ok false) × HasNewRow o today rest)

-- the requests that take memory to be decided: new steps are copied, and so are the new rows of an
-- import, up to a row that is refused, and the sales of a shift that is there
abbrev pub TakesMemory : Office → ℕ → Request → Type 0
TakesMemory o moment (AddTariff name steps) =
    is_new (add_tariff name steps (o.tariffs name)) ≡ Ok true
TakesMemory o moment (AddSteps name day steps) =
    is_new
    (add_steps name day steps (day_at moment) (is_some (o.tariffs name)) (o.dated_steps name day))
    ≡ Ok true
TakesMemory o moment (Import rows) = HasNewRow o (day_at moment) rows
TakesMemory o moment (ShiftReport number) = IsSome (report_of o number)
TakesMemory o moment request = ⊥

-- the result is the decision, or want of memory
abbrev pub IsUnlessMemory : Result Change Refusal → Result Change Refusal → Type 0
IsUnlessMemory result decided = (result ≡ decided) ⊎ (result ≡ Err Memory)

-- ShiftReport, where this shift was found with these sales
abbrev pub report_found : Option (Shift × List Sale) → Result Change Refusal
report_found None = Err NoSuchShift
report_found (Some found) = unchanged (Report found.0 found.1)
