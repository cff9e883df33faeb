-- The office: what it holds, and what all that it holds keeps.
pub mod Lookup
pub mod Rows
use Rattle.std.specs.Prelude.{◌≡◌, ◌≢◌, ℕ, ◌+◌, ◌^◌, ◌<◌, ◌≤◌, Bool, true, false, List, [], length}
use Rattle.std.specs.Prelude.{Option, Some, None, IsSome, IsNone, All, AllPairs, slice_get}
use Rattle.sts_fields.specs.Amount.{IsRepresentable}
use Rattle.sts_fields.specs.Base.{year_of}
use Rattle.sts_fields.specs.Day.{IsDay}
use Rattle.sts_fields.specs.Moment.{IsMoment}
use Rattle.sts_fields.specs.Tid.{last_tid}
use Rattle.sts_fields.specs.Text.{Text}
use Rattle.sts_fields.specs.declared.base.Base.{Base}
use Rattle.sts_token.specs.Token.{AreTwentyDigits}
use Rattle.tariff.specs.Steps.{IsSteps}
use Rattle.tariff.specs.Tender.{IsTender}
use Rattle.tariff.specs.declared.step.Step.{Step}
use Rattle.office_rules.specs.Name.{IsMeterNo, IsName, IsOperator}
use Rattle.office_rules.specs.declared.office.meter.Meter.{Meter}
use Rattle.office_rules.specs.declared.office.sale.Sale.{Sale}
use Rattle.office_rules.specs.declared.office.shift.Shift.{Shift}

-- the first steps of tariffs by name, meters by number, whether a meter has or had a base, the
-- further steps of tariffs by name and first day, shifts and sales in the order that they came; no
-- totals, and no last identifier
pub record Office : Type 0 where
  pub tariffs : Text → Option (List Step)
  pub meters : Text → Option Meter
  pub bases : Text → Base → Bool
  pub dated_steps : Text → ℕ → Option (List Step)
  pub shifts : List Shift
  pub sales : List Sale

-- the office in which nothing is stored yet
abbrev pub empty_office : Office
empty_office = record {
  tariffs = λ _. None;
  meters = λ _. None;
  bases = λ _ _. false;
  dated_steps = λ _ _. None;
  shifts = [];
  sales = [];
}

-- how many shifts and how many sales an office holds at the most
abbrev pub greatest_count : ℕ
greatest_count = 10 ^ 9

-- the values of a tariff under its name
pub record IsTariffRow (name : Text) (steps : List Step) : Type 0 where
  pub named : IsName name
  pub priced : IsSteps steps

-- the values of further steps under their tariff's name and first day; the tariff is one of the
-- office's
pub record IsDatedRow (o : Office) (name : Text) (day : ℕ) (steps : List Step) : Type 0 where
  pub tariff : IsSome (o.tariffs name)
  pub in_range : IsDay day
  pub priced : IsSteps steps

-- the values of a meter under its number; its tariff is one of the office's, and its present base
-- is among the bases that it had
pub record IsMeterRow (o : Office) (number : Text) (m : Meter) : Type 0 where
  pub numbered : IsMeterNo number
  pub key : m.key < 2 ^ 64
  pub tariff : IsSome (o.tariffs m.tariff)
  pub base : o.bases number m.base ≡ true

-- a base that a meter had: the meter is one of the office's, and its present base is the latest
pub record IsBaseRow (o : Office) (number : Text) (base : Base) : Type 0 where
  pub meter : Meter
  pub meter_is : o.meters number ≡ Some meter
  pub not_after : year_of base ≤ year_of meter.base

-- the values of a shift; it is closed at a moment or open
pub record IsShiftRow (s : Shift) : Type 0 where
  pub operator : IsOperator s.operator
  pub opened : IsMoment s.opened
  pub closed : (secs : ℕ) → s.closed ≡ Some secs → IsMoment secs

-- the values of a sale: it was made in a shift and to a meter of the office, under a base that the
-- meter had, and its price is at most the tender
pub record IsSaleRow (o : Office) (s : Sale) : Type 0 where
  pub moment : IsMoment s.moment
  pub shift : (1 ≤ s.shift) × (s.shift ≤ length o.shifts)
  pub operator : IsOperator s.operator
  pub order_ref : IsName s.order_ref
  pub meter : IsSome (o.meters s.meter)
  pub base : o.bases s.meter s.base ≡ true
  pub tid : s.tid ≤ last_tid
  pub rnd : s.rnd < 2 ^ 4
  pub tenths : IsRepresentable s.tenths
  pub tender : IsTender s.tender
  pub price : s.price ≤ s.tender
  pub digits : AreTwentyDigits s.digits

-- the rows are numbered 1, 2, 3 and on
abbrev pub AreNumbered : {Row : Type 0} → (Row → ℕ) → List Row → Type 0
AreNumbered {Row} number rows = (i : ℕ) (row : Row) → slice_get rows i ≡ Some row
    → number row ≡ i + 1

-- two shifts, the first opened before the second, that are not both open for one operator
abbrev pub NotBothOpen : Shift → Shift → Type 0
NotBothOpen a b = IsNone a.closed → IsNone b.closed → a.operator ≢ b.operator

-- two sales, the first made before the second: no identifier of a meter under a base and no ref is
-- used twice
pub record IsBefore (a b : Sale) : Type 0 where
  pub number : a.number < b.number
  pub tid : a.meter ≡ b.meter → a.base ≡ b.base → a.tid ≢ b.tid
  pub order_ref : a.operator ≡ b.operator → a.order_ref ≢ b.order_ref

-- the identifier of the later sale is the greater one, where meter and base agree
abbrev pub Rises : Sale → Sale → Type 0
Rises a b = a.meter ≡ b.meter → a.base ≡ b.base → a.tid < b.tid

-- what an office keeps
pub record IsOffice (o : Office) : Type 0 where
  pub tariffs : (name : Text) (steps : List Step) → o.tariffs name ≡ Some steps
      → IsTariffRow name steps
  pub meters : (number : Text) (m : Meter) → o.meters number ≡ Some m → IsMeterRow o number m
  pub bases : (number : Text) (base : Base) → o.bases number base ≡ true
      → IsBaseRow o number base
  pub dated_steps : (name : Text) (day : ℕ) (steps : List Step)
      → o.dated_steps name day ≡ Some steps → IsDatedRow o name day steps
  pub shifts : All IsShiftRow o.shifts
  pub shift_numbers : AreNumbered (λ s. s.number) o.shifts
  pub one_open : AllPairs NotBothOpen o.shifts
  pub shift_count : length o.shifts ≤ greatest_count
  pub sales : All (IsSaleRow o) o.sales
  pub sale_numbers : AreNumbered (λ s. s.number) o.sales
  pub before : AllPairs IsBefore o.sales
  pub sale_count : length o.sales ≤ greatest_count
