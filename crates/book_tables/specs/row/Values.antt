-- The rules that the values of a row keep by themselves, whatever else an office holds.
use Rattle.std.specs.Prelude.{ℕ, ◌≤◌, ◌<◌, ◌^◌, Option, IfSome}
use Rattle.sts_fields.specs.Amount.{IsRepresentable}
use Rattle.sts_fields.specs.Tid.{last_tid}
use Rattle.sts_token.specs.Token.{AreTwentyDigits}
use Rattle.tariff.specs.Steps.{EndFits, HasPrice}
use Rattle.tariff.specs.Tender.{IsTender}
use Rattle.tariff.specs.declared.step.Step.{Step}
use Rattle.office_rules.specs.Name.{IsMeterNo, IsName, IsOperator}
use Rattle.sts_fields.specs.Moment.{IsMoment}
use Rattle.office_rules.specs.Office.{greatest_count}
use Rattle.office_rules.specs.declared.office.meter.Meter.{Meter}
use Rattle.office_rules.specs.declared.office.sale.Sale.{Sale}
use Rattle.office_rules.specs.declared.office.shift.Shift.{Shift}
use Rattle.book_tables.specs.declared.row.totals.Totals.{Totals}

-- a number from the first bound to the second
abbrev pub IsFromTo : ℕ → ℕ → ℕ → Type 0
IsFromTo low high n = (low ≤ n) × (n ≤ high)

-- the number of a shift or of a sale
abbrev pub IsNumber : ℕ → Type 0
IsNumber n = IsFromTo 1 greatest_count n

-- an upper end, if there is one, is a number of 32 bits
abbrev pub IsEnd : Option ℕ → Type 0
IsEnd ends = IfSome ends (λ e. e < 2 ^ 32)

-- the moment of closing, if there is one
abbrev pub IsClosing : Option ℕ → Type 0
IsClosing closed = IfSome closed IsMoment

-- an identifier of 24 bits
abbrev pub IsTid : ℕ → Type 0
IsTid tid = tid ≤ last_tid

-- an amount that a sale can be of: one that a token can carry
abbrev pub IsSoldAmount : ℕ → Type 0
IsSoldAmount tenths = IsRepresentable tenths

-- the greatest number of a running total: more than all sales of an office add up to
abbrev pub greatest_total : ℕ
greatest_total = 10 ^ 18

abbrev pub IsTotal : ℕ → Type 0
IsTotal n = n ≤ greatest_total

-- a key is a number of 64 bits
abbrev pub IsKey : ℕ → Type 0
IsKey key = key < 2 ^ 64

abbrev pub AreStepValues : Step → Type 0
AreStepValues s = EndFits s × HasPrice s

pub record AreMeterValues (m : Meter) : Type 0 where
  pub tariff : IsName m.tariff
  pub key : IsKey m.key

pub record AreShiftValues (s : Shift) : Type 0 where
  pub number : IsNumber s.number
  pub operator : IsOperator s.operator
  pub opened : IsMoment s.opened
  pub closed : IsClosing s.closed

pub record AreSaleValues (s : Sale) : Type 0 where
  pub number : IsNumber s.number
  pub moment : IsMoment s.moment
  pub shift : IsNumber s.shift
  pub operator : IsOperator s.operator
  pub order_ref : IsName s.order_ref
  pub meter : IsMeterNo s.meter
  pub tid : IsTid s.tid
  pub rnd : s.rnd < 2 ^ 4
  pub tenths : IsSoldAmount s.tenths
  pub price : s.price ≤ s.tender
  pub tender : IsTender s.tender
  pub digits : AreTwentyDigits s.digits

pub record AreTotalsValues (t : Totals) : Type 0 where
  pub sales : IsTotal t.sales
  pub tenths : IsTotal t.tenths
  pub cash : IsTotal t.cash
