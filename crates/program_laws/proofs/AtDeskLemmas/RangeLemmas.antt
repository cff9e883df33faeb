-- The values that an office tells keep the rules of what is told.
use Rattle.std.proofs.Common.{◌≡◌, ℕ, ◌^◌, ◌≤◌, Bool, not, List, length, Option, None, Some, refl, arith}
use Rattle.std.specs.Prelude.{◌==◌, All, Contains, IfSome, IsSome, filter}
use Rattle.std.specs.Option.{option_or}
use Rattle.std.proofs.lemmas.List.Elements.{All-contains, All-filter, All-weaker}
use Rattle.std.proofs.lemmas.List.Filters.{length-filter_both}
use Rattle.std.proofs.lemmas.List.Sums.{sum_by-le}
use Rattle.sts_fields.specs.Amount.{IsRepresentable, greatest_amount}
use Rattle.office_rules.specs.Name.{IsMeterNo, IsName}
use Rattle.office_rules.specs.Office.{IsOffice, IsSaleRow, IsShiftRow, Office}
use Rattle.office_rules.specs.Office.Lookup.{sales_of_shift}
use Rattle.office_rules.specs.declared.office.sale.Sale.{Sale}
use Rattle.office_rules.specs.declared.office.shift.Shift.{Shift}
use Rattle.book_tables.specs.Stands.{all_totals}
use Rattle.asks.specs.Value.{IsTargetNumber}
use Rattle.desk_client.specs.Totals.{AreTotals}
use Rattle.office_rules.proofs.OfficeLemmas.RowLemmas.{found, number_within}

-- what is there
pub there_is : {A : Type 0} (o : Option A) → IsSome o → (x : A) × (o ≡ Some x)
there_is (Some x) some = (x, refl)
there_is None some = cc

-- ---- sales

-- each sale of an office keeps the rules of a row of sales
pub sale_row : (o : Office) (s : Sale) → IsOffice o → Contains o.sales s → IsSaleRow o s
sale_row o s office there = All-contains (IsSaleRow o) o.sales s office.sales there

-- the number of a sale is from 1 to a thousand million
pub sale_numbered : (o : Office) (s : Sale) → IsOffice o → Contains o.sales s → IsTargetNumber s.number
sale_numbered o s office there =
    let within = number_within (λ (s : Sale). s.number) o.sales s office.sale_numbers there in
    record { from_one = within.0; most = omega (arith, within.1, office.sale_count) }

-- so is the number of the shift in which it was sold
pub sale_shift : (o : Office) (s : Sale) → IsOffice o → Contains o.sales s → IsTargetNumber s.shift
sale_shift o s office there =
    let row = sale_row o s office there in
    record { from_one = row.shift.0; most = omega (arith, row.shift.1, office.shift_count) }

-- a meter of an office has a meter's number
pub meter_row : (o : Office) (number : List ℕ) → IsOffice o → IsSome (o.meters number) → IsMeterNo number
meter_row o number office some =
    let m = there_is (o.meters number) some in
    (office.meters number m.0 m.1).numbered

-- a tariff of an office has a name
pub tariff_named : (o : Office) (name : List ℕ) → IsOffice o → IsSome (o.tariffs name) → IsName name
tariff_named o name office some =
    let steps = there_is (o.tariffs name) some in
    (office.tariffs name steps.0 steps.1).named

-- ---- shifts

-- each shift of an office keeps the rules of a row of shifts
pub shift_row : (o : Office) (s : Shift) → IsOffice o → Contains o.shifts s → IsShiftRow s
shift_row o s office there = All-contains IsShiftRow o.shifts s office.shifts there

-- the number of a shift is from 1 to a thousand million
pub shift_numbered : (o : Office) (s : Shift) → IsOffice o → Contains o.shifts s → IsTargetNumber s.number
shift_numbered o s office there =
    let within = number_within (λ (s : Shift). s.number) o.shifts s office.shift_numbers there in
    record { from_one = within.0; most = omega (arith, within.1, office.shift_count) }

-- ---- totals

-- the members of a list that pass a test are no more than all of them
pub fewer : {A : Type 0} (p : A → Bool) (xs : List A) → length (filter p xs) ≤ length xs
fewer p xs = omega (arith, length-filter_both p (λ x. not (p x)) (λ x. refl) xs)

abbrev of_shift : ℕ → Sale → Bool
of_shift n s = s.shift == n

-- a shift has at most a thousand million sales
count_within : (o : Office) (number : ℕ) → IsOffice o → length (sales_of_shift o number) ≤ 10 ^ 9
count_within o number office = omega (arith, fewer (of_shift number) o.sales, office.sale_count)

-- the totals of a shift's sales are within what so many sales may have
pub totals_within : ((t : ℕ) → IsRepresentable t → t ≤ greatest_amount) → (o : Office) (number : ℕ) → IsOffice o
    → AreTotals (all_totals (sales_of_shift o number))
totals_within greatest o number office =
    let tenths : All (λ (s : Sale). s.tenths ≤ 18201624) (sales_of_shift o number) =
    All-filter (of_shift number) (λ (s : Sale). s.tenths ≤ 18201624) o.sales
    (All-weaker (IsSaleRow o) (λ s. s.tenths ≤ 18201624) (λ s row. greatest s.tenths row.tenths) o.sales office.sales) in
    let cash : All (λ (s : Sale). s.price ≤ 100000000) (sales_of_shift o number) =
    All-filter (of_shift number) (λ (s : Sale). s.price ≤ 100000000) o.sales
    (All-weaker (IsSaleRow o) (λ s. s.price ≤ 100000000) (λ s row. omega (arith, row.price, row.tender.1)) o.sales office.sales) in
    record {
      sales = omega (arith, count_within o number office);
      tenths = omega (arith, sum_by-le (λ (s : Sale). s.tenths) 18201624 (sales_of_shift o number) tenths);
      cash = omega (arith, sum_by-le (λ (s : Sale). s.price) 100000000 (sales_of_shift o number) cash);
    }

-- ---- what is found

-- what holds of two values, where they are there, holds of the first that is
pub or_keeps : {A : Type 0} (P : A → Type 0) (a b : Option A) → IfSome a P → IfSome b P → IfSome (option_or a b) P
or_keeps P None b h k = k
or_keeps P (Some x) b h k = h
