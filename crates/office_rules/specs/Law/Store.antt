-- What a store finds among the office's rows, and what an edit meets there.
use Rattle.std.specs.Prelude.{◌≡◌, ◌↔◌, ◌⊎◌, ℕ, ◌+◌, ◌^◌, ◌<◌, ◌≤◌, ◌&&◌, ◌==◌, false, List, ◌≢◌}
use Rattle.std.specs.Prelude.{[], ◌∷◌, Some, None, IsSome, IsNone, All, AllPairs, Contains, bytes_eq}
use Rattle.std.specs.Prelude.{filter, length, max, nat_lt, sum_by, take, unwrap_or, if◌then◌else◌}
use Rattle.sts_fields.specs.Base.{base_eq, year_of}
use Rattle.sts_fields.specs.Calendar.{month_at}
use Rattle.sts_fields.specs.Day.{IsDay, day_at}
use Rattle.sts_fields.specs.declared.base.Base.{Base}
use Rattle.tariff.specs.Steps.{IsSteps}
use Rattle.tariff.specs.declared.step.Step.{Step}
use Rattle.office_rules.specs.Law.Cash.{cash_of}
use Rattle.office_rules.specs.Decision.Edits.{with_row}
use Rattle.office_rules.specs.Office.Lookup.{greatest_of, open_shift, prior, sale_of_ref}
use Rattle.office_rules.specs.Office.Lookup.{sales_of_shift, used}
use Rattle.office_rules.specs.Name.{IsName}
use Rattle.sts_fields.specs.Moment.{IsMoment}
use Rattle.office_rules.specs.Office.{IsBefore, IsSaleRow, IsShiftRow, Office, greatest_count}
use Rattle.office_rules.specs.Decision.Requests.{IsMeter}
use Rattle.office_rules.specs.declared.decision.change.Edit.{Edit}
use Rattle.office_rules.specs.declared.decision.change.Edit.TheVariants.{AddTariff, AddSteps}
use Rattle.office_rules.specs.declared.decision.change.Edit.TheVariants.{AddMeter, AddRows}
use Rattle.office_rules.specs.declared.decision.change.Edit.TheVariants.{SetTariff, MoveBase}
use Rattle.office_rules.specs.declared.decision.change.Edit.TheVariants.{SetKey, WithdrawSteps}
use Rattle.office_rules.specs.declared.decision.change.Edit.TheVariants.{OpenShift, CloseShift}
use Rattle.office_rules.specs.declared.decision.change.Edit.TheVariants.{AddSale}
use Rattle.office_rules.specs.declared.office.meter.Meter.{Meter}
use Rattle.office_rules.specs.declared.office.row.Row.{Row}
use Rattle.office_rules.specs.declared.office.row.Row.TheVariants as kinds
use Rattle.office_rules.specs.declared.office.sale.Sale.{Sale}
use Rattle.office_rules.specs.declared.office.shift.Shift.{Shift}

-- the sale has the greatest identifier that was sold to a meter under a base
pub record IsLastSale (o : Office) (number : List ℕ) (base : Base) (s : Sale) : Type 0 where
  pub stands : Contains o.sales s
  pub meter : s.meter ≡ number
  pub under : s.base ≡ base
  pub greatest : (t : Sale) → Contains o.sales t → t.meter ≡ number → t.base ≡ base → t.tid ≤ s.tid

-- an open shift of the operator
pub record IsOpenShift (o : Office) (name : List ℕ) (s : Shift) : Type 0 where
  pub stands : Contains o.shifts s
  pub operator : s.operator ≡ name
  pub still_open : IsNone s.closed

-- a sale that the operator made under the ref
pub record IsUnderRef (o : Office) (name text : List ℕ) (s : Sale) : Type 0 where
  pub stands : Contains o.sales s
  pub operator : s.operator ≡ name
  pub order_ref : s.order_ref ≡ text

-- the sales of which P holds, by number
pub record AreByNumber (o : Office) (P : Sale → Type 0) (sales : List Sale) : Type 0 where
  pub in_order : AllPairs (λ a b. a.number < b.number) sales
  pub members : (s : Sale) → Contains sales s ↔ (Contains o.sales s × P s)

-- the sales above a number, by number, up to a limit
abbrev pub sales_above : Office → ℕ → ℕ → List Sale
sales_above o number limit = take limit (filter (λ s. nat_lt number s.number) o.sales)

-- the later office has the sales of the earlier one and one more, in whatever order they are told
pub record HasOneSaleMore (earlier : Office) (s : Sale) (later : Office) : Type 0 where
  pub members : (t : Sale) → Contains later.sales t ↔ (Contains earlier.sales t ⊎ (t ≡ s))
  pub new : ¬ Contains earlier.sales s

-- what one sale more makes of a meter's last identifier under a base, of a meter's tenths in a
-- month, and of the count, the tenths and the cash of a shift
pub record TotalsGrow (earlier : Office) (s : Sale) (later : Office) : Type 0 where
  pub last : (number : List ℕ) (base : Base) → greatest_of (used later number base)
      ≡ (if bytes_eq s.meter number && base_eq s.base base
      then Some (max (unwrap_or (greatest_of (used earlier number base)) 0) s.tid)
      else greatest_of (used earlier number base))
  pub month : (number : List ℕ) (month : ℕ) → prior later number month
      ≡ prior earlier number month
      + (if bytes_eq s.meter number && (month_at s.moment == month) then s.tenths else 0)
  pub count : (number : ℕ) → length (sales_of_shift later number)
      ≡ length (sales_of_shift earlier number) + (if s.shift == number then 1 else 0)
  pub tenths : (number : ℕ) → sum_by (λ t. t.tenths) (sales_of_shift later number)
      ≡ sum_by (λ t. t.tenths) (sales_of_shift earlier number)
      + (if s.shift == number then s.tenths else 0)
  pub cash : (number : ℕ) → cash_of (sales_of_shift later number)
      ≡ cash_of (sales_of_shift earlier number) + (if s.shift == number then s.price else 0)

-- a new shift: it has the next number, and its operator has none that is open
pub record MeetsNewShift (o : Office) (s : Shift) : Type 0 where
  pub values : IsShiftRow s
  pub starts_open : IsNone s.closed
  pub number : s.number ≡ length o.shifts + 1
  pub room : length o.shifts < greatest_count
  pub none_open : open_shift o s.operator ≡ None

-- a closing: one shift has the number, and it is its operator's open one
pub record MeetsClosing (o : Office) (number secs : ℕ) : Type 0 where
  pub moment : IsMoment secs
  pub shift : Shift
  pub stands : Contains o.shifts shift
  pub numbered : shift.number ≡ number
  pub only : (t : Shift) → Contains o.shifts t → t.number ≡ number → t ≡ shift
  pub still_open : IsNone shift.closed
  pub is_open : open_shift o shift.operator ≡ Some shift

-- a new sale: it has the next number, it is made in its operator's open shift and to a meter that
-- is there, its ref is new, and its identifier is above those used of its meter under its base
pub record MeetsNewSale (o : Office) (s : Sale) : Type 0 where
  pub values : IsSaleRow o s
  pub some : 1 ≤ s.tenths
  pub number : s.number ≡ length o.sales + 1
  pub room : length o.sales < greatest_count
  pub shift : Shift
  pub shift_is : open_shift o s.operator ≡ Some shift
  pub in_shift : s.shift ≡ shift.number
  pub meter : Meter
  pub meter_is : o.meters s.meter ≡ Some meter
  pub under : s.base ≡ meter.base
  pub new_ref : sale_of_ref o s.operator s.order_ref ≡ None
  pub above_used : All (λ tid. tid < s.tid) (used o s.meter s.base)
  pub after : (a : Sale) → Contains o.sales a → IsBefore a s

-- a meter that is added: its number is free, it had no base, and its tariff is there
pub record MeetsMeter (o : Office) (number : List ℕ) (m : Meter) : Type 0 where
  pub values : IsMeter number m
  pub free : o.meters number ≡ None
  pub no_base : (base : Base) → o.bases number base ≡ false
  pub tariff : IsSome (o.tariffs m.tariff)

-- steps that are added to a tariff: it is there, and has none of that first day
pub record MeetsSteps (o : Office) (name : List ℕ) (day : ℕ) (steps : List Step) : Type 0 where
  pub named : IsName name
  pub in_range : IsDay day
  pub priced : IsSteps steps
  pub tariff : IsSome (o.tariffs name)
  pub free : o.dated_steps name day ≡ None

-- a tariff, steps or a meter that is added; a tariff's name is free
abbrev pub MeetsRow : Row → Office → Type 0
MeetsRow (kinds.Tariff name steps) o = IsName name × IsSteps steps × (o.tariffs name ≡ None)
MeetsRow (kinds.Steps name day steps) o = MeetsSteps o name day steps
MeetsRow (kinds.Meter number m) o = MeetsMeter o number m

-- rows that are added: each meets the office with the rows before it
abbrev pub MeetRows : List Row → Office → Type 0
MeetRows [] o = Unit {0}
MeetRows (row ∷ rest) o = MeetsRow row o × MeetRows rest (with_row row o)

-- a meter that is given a tariff: both are there, and the meter had another one
pub record MeetsSetting (o : Office) (number name : List ℕ) : Type 0 where
  pub meter : Meter
  pub meter_is : o.meters number ≡ Some meter
  pub other : meter.tariff ≢ name
  pub tariff : IsSome (o.tariffs name)

-- a meter that is moved to a base: it is there, under an earlier one, and did not have this one
pub record MeetsMove (o : Office) (number : List ℕ) (base : Base) : Type 0 where
  pub meter : Meter
  pub meter_is : o.meters number ≡ Some meter
  pub later : year_of meter.base < year_of base
  pub no_base : o.bases number base ≡ false

-- steps that are withdrawn: there are such, and each sale was made before their day
pub record MeetsWithdrawal (o : Office) (name : List ℕ) (day : ℕ) : Type 0 where
  pub steps : List Step
  pub steps_are : o.dated_steps name day ≡ Some steps
  pub sold_before : (s : Sale) → Contains o.sales s → day_at s.moment < day

-- a meter that is given a key: it is there, it had another one, and it has no sale
pub record MeetsKey (o : Office) (number : List ℕ) (key : ℕ) : Type 0 where
  pub in_range : key < 2 ^ 64
  pub meter : Meter
  pub meter_is : o.meters number ≡ Some meter
  pub other : meter.key ≢ key
  pub no_sale : (s : Sale) → Contains o.sales s → s.meter ≢ number

-- what an edit meets in the office that decided it
abbrev pub Meets : Edit → Office → Type 0
Meets (AddTariff name steps) o = MeetsRow (kinds.Tariff name steps) o
Meets (AddSteps name day steps) o = MeetsRow (kinds.Steps name day steps) o
Meets (WithdrawSteps name day) o = MeetsWithdrawal o name day
Meets (AddMeter number m) o = MeetsRow (kinds.Meter number m) o
Meets (AddRows rows) o = (1 ≤ length rows) × MeetRows rows o
Meets (SetTariff number name) o = MeetsSetting o number name
Meets (MoveBase number base) o = MeetsMove o number base
Meets (SetKey number key) o = MeetsKey o number key
Meets (OpenShift s) o = MeetsNewShift o s
Meets (CloseShift number moment) o = MeetsClosing o number moment
Meets (AddSale s) o = MeetsNewSale o s
