-- What is looked up in an office.
use Rattle.std.specs.Prelude.{◌≡◌, ℕ, zero, suc, ◌<◌, ◌≤◌, ◌&&◌, ◌==◌, Bool, List, [], ◌∷◌, map}
use Rattle.std.specs.Prelude.{filter, find, nat_le, sum_by, max, Contains, Option, Some, None}
use Rattle.std.specs.Prelude.{is_none, unwrap_or, bytes_eq}
use Rattle.std.specs.List.{list_any}
use Rattle.std.specs.Option.{option_or}
use Rattle.sts_fields.specs.Base.{base_eq}
use Rattle.sts_fields.specs.Calendar.{month_at}
use Rattle.sts_fields.specs.Day.{day_at}
use Rattle.sts_fields.specs.declared.base.Base.{Base}
use Rattle.tariff.specs.declared.step.Step.{Step}
use Rattle.office_rules.specs.Office.{Office}
use Rattle.office_rules.specs.declared.office.sale.Sale.{Sale}
use Rattle.office_rules.specs.declared.office.shift.Shift.{Shift}

-- the identifiers sold to a meter under a base
abbrev pub used : Office → List ℕ → Base → List ℕ
used o meter base = map (λ s. s.tid)
    (filter (λ s. bytes_eq s.meter meter && base_eq s.base base) o.sales)

-- the tenths sold to a meter in a month, under any base
abbrev pub prior : Office → List ℕ → ℕ → ℕ
prior o meter month =
    sum_by (λ s. s.tenths)
    (filter (λ s. bytes_eq s.meter meter && (month_at s.moment == month)) o.sales)

-- whether there is a sale to a meter, under any base
abbrev pub has_sales : Office → List ℕ → Bool
has_sales o meter = list_any (λ s. bytes_eq s.meter meter) o.sales

-- the same in a rule
abbrev pub WasSoldTo : Office → List ℕ → Type 0
WasSoldTo o meter = (s : Sale) × Contains o.sales s × (s.meter ≡ meter)

-- whether a sale was made on a day or later, to whichever meter
abbrev pub sold_since : Office → ℕ → Bool
sold_since o day = list_any (λ s. nat_le day (day_at s.moment)) o.sales

-- the same in a rule
abbrev pub WasSoldSince : Office → ℕ → Type 0
WasSoldSince o day = (s : Sale) × Contains o.sales s × (day ≤ day_at s.moment)

-- of further steps by first day, those with the greatest first day that is not after a day
unfoldable pub latest : (ℕ → Option (List Step)) → ℕ → Option (List Step)
latest dated zero = dated zero
latest dated (suc day) = option_or (dated (suc day)) (latest dated day)

-- the same in a rule: they begin on a day that is not after the day, and none begin between
pub record IsLatest (dated : ℕ → Option (List Step)) (day : ℕ) (steps : List Step) : Type 0 where
  pub first : ℕ
  pub not_after : first ≤ day
  pub there : dated first ≡ Some steps
  pub none_between : (other : ℕ) → first < other → other ≤ day → dated other ≡ None

-- no further steps begin on the day or before it
abbrev pub NoneBegun : (ℕ → Option (List Step)) → ℕ → Type 0
NoneBegun dated day = (first : ℕ) → first ≤ day → dated first ≡ None

-- the steps of a tariff, which an office has, on a day: the latest that have begun, else the first
abbrev pub steps_on : Office → List ℕ → ℕ → List Step
steps_on o name day =
    unwrap_or (option_or (latest (o.dated_steps name) day) (o.tariffs name)) []

-- the open shift of an operator
abbrev pub open_shift : Office → List ℕ → Option Shift
open_shift o operator = find (λ s. bytes_eq s.operator operator && is_none s.closed) o.shifts

-- the sale that an operator made under a ref
abbrev pub sale_of_ref : Office → List ℕ → List ℕ → Option Sale
sale_of_ref o operator order_ref =
    find (λ s. bytes_eq s.operator operator && bytes_eq s.order_ref order_ref) o.sales

-- the sale and the shift of a number
abbrev pub sale_numbered : Office → ℕ → Option Sale
sale_numbered o n = find (λ s. s.number == n) o.sales

abbrev pub shift_numbered : Office → ℕ → Option Shift
shift_numbered o n = find (λ s. s.number == n) o.shifts

-- the sales of a shift, by number
abbrev pub sales_of_shift : Office → ℕ → List Sale
sales_of_shift o n = filter (λ s. s.shift == n) o.sales

-- the greatest of some numbers
abbrev pub greatest_of : List ℕ → Option ℕ
greatest_of [] = None
greatest_of (n ∷ ns) = Some (max n (unwrap_or (greatest_of ns) 0))
