-- What each office keeps that requests lead to from the empty one, beside what every office keeps:
-- as far as its rows show how they came there.
use Rattle.std.specs.Prelude.{◌≡◌, ◌⊎◌, ◌-◌, ◌<◌, ◌≤◌, ℕ, List, Some, IsSome, Ok, All, AllPairs}
use Rattle.std.specs.Prelude.{Contains, slice_get, take}
use Rattle.sts_fields.specs.Base.{year_of}
use Rattle.sts_fields.specs.Calendar.{month_at}
use Rattle.sts_fields.specs.Day.{day_at}
use Rattle.sts_fields.specs.Tid.{FreshOutcome, minute_of}
use Rattle.sts_token.specs.Reading.{IsOfClassZero}
use Rattle.sts_token.specs.Token.{BlockFunction, IsToken}
use Rattle.tariff.specs.Purchase.{IsPurchase}
use Rattle.tariff.specs.declared.step.Step.{Step}
use Rattle.office_rules.specs.Law.NewSale.{fields_of}
use Rattle.office_rules.specs.Office.Lookup.{prior, used}
use Rattle.office_rules.specs.Office.{Office, empty_office}
use Rattle.office_rules.specs.declared.office.meter.Meter.{Meter}
use Rattle.office_rules.specs.declared.office.sale.Sale.{Sale}
use Rattle.office_rules.specs.declared.office.shift.Shift.{Shift}

-- each row is so after the rows before it
abbrev pub EachAfter : {Row : Type 0} → (List Row → Row → Type 0) → List Row → Type 0
EachAfter {Row} P rows = (i : ℕ) (row : Row) → slice_get rows i ≡ Some row → P (take i rows) row

-- an office that has these sales and nothing else
abbrev pub sales_alone : List Sale → Office
sales_alone sales = record empty_office { sales = sales }

-- two shifts, the first opened before the second: an operator opens a shift once the one before is
-- closed
abbrev pub IsClosedFirst : Shift → Shift → Type 0
IsClosedFirst a b = a.operator ≡ b.operator → IsSome a.closed

-- the sale was made in a shift of its own operator
pub record IsInOwnShift (o : Office) (s : Sale) : Type 0 where
  pub shift : Shift
  pub stands : Contains o.shifts shift
  pub numbered : shift.number ≡ s.shift
  pub operator : shift.operator ≡ s.operator

-- the sale was made while its shift was open: no sale before it was made in the operator's next
-- shift, or in one that was opened after that
abbrev pub IsInOpenShift : Office → List Sale → Sale → Type 0
IsInOpenShift o earlier s =
    (next : Shift) → Contains o.shifts next → next.operator ≡ s.operator → s.shift < next.number
    → All (λ a. a.shift < next.number) earlier

-- the meter was not moved back: no sale to it before was made under a later base
abbrev pub IsUnderPresentBase : List Sale → Sale → Type 0
IsUnderPresentBase earlier s =
    All (λ a. a.meter ≡ s.meter → year_of a.base ≤ year_of s.base) earlier

-- the sale's moment has a minute under its base, and its identifier is the fresh one in it, after
-- those that were sold to the meter under the base before
pub record HasFreshTid (earlier : List Sale) (s : Sale) : Type 0 where
  pub minute : ℕ
  pub minute_is : minute_of s.base s.moment ≡ Ok minute
  pub fresh : FreshOutcome (used (sales_alone earlier) s.meter s.base) minute (Ok s.tid)

-- steps that some tariff of the office may have had on a day: its first ones, or further ones that
-- begin on the day or before it. (Which tariff a meter had, and on which day steps were added, no
-- row tells.)
pub record AreStepsOfOne (o : Office) (day : ℕ) (steps : List Step) : Type 0 where
  pub name : List ℕ
  pub are : (o.tariffs name ≡ Some steps)
      ⊎ ((first : ℕ) × (first ≤ day) × (o.dated_steps name first ≡ Some steps))

-- the tenths and the price are what the tender buys by such steps, after the tenths that were sold
-- to the meter in the month before
pub record IsBoughtByOne (o : Office) (earlier : List Sale) (s : Sale) : Type 0 where
  pub steps : List Step
  pub are : AreStepsOfOne o (day_at s.moment) steps
  pub bought : IsPurchase steps (prior (sales_alone earlier) s.meter (month_at s.moment)) s.tender
      (record { tenths = s.tenths; price = s.price; change = s.tender - s.price })

-- a sale that the rules grant after those before it, whatever the transform and the nibble
pub record IsGrantedAfter (o : Office) (earlier : List Sale) (s : Sale) : Type 0 where
  pub operator : IsInOwnShift o s
  pub shift : IsInOpenShift o earlier s
  pub base : IsUnderPresentBase earlier s
  pub tid : HasFreshTid earlier s
  pub bought : IsBoughtByOne o earlier s
  pub digits : IsOfClassZero s.digits

-- an office that requests may have led to, by its shifts and its sales
pub record IsPlausible (o : Office) : Type 0 where
  pub shifts : AllPairs IsClosedFirst o.shifts
  pub sales : EachAfter (IsGrantedAfter o) o.sales

-- the sale's digits are the token of its fields under its meter's key
pub record IsWrittenBy (forward : BlockFunction) (o : Office) (s : Sale) : Type 0 where
  pub meter : Meter
  pub meter_is : o.meters s.meter ≡ Some meter
  pub token : IsToken forward meter.key (fields_of s) s.digits

-- the digits of all sales are such, under one transform
abbrev pub HasTokensOf : BlockFunction → Office → Type 0
HasTokensOf forward o = All (IsWrittenBy forward o) o.sales
