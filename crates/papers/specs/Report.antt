-- The report of a shift.
use Rattle.std.specs.Prelude.{ℕ, List, [], ◌∷◌, ◌++◌, length, sum_by, codes, decimal, Option, Some}
use Rattle.std.specs.Prelude.{None}
use Rattle.std.specs.List.{flat_map, join_with_byte}
use Rattle.papers.specs.Text.{change_of, line, line_feed, right, space, time_text}
use Rattle.office_rules.specs.Law.Cash.{cash_of}
use Rattle.office_rules.specs.declared.office.sale.Sale.{Sale}
use Rattle.office_rules.specs.declared.office.shift.Shift.{Shift}

-- when a shift was closed, or a hyphen while it is open
abbrev pub closed_text : Option ℕ → List ℕ
closed_text None = codes "-"
closed_text (Some moment) = time_text moment

-- the line of a sale: its number, meter, tenths, price, tender and change, a space between two, and
-- each number at the right of its places
unfoldable pub sale_line : Sale → List ℕ
sale_line s = join_with_byte space (
    right 10 (decimal s.number)
    ∷ s.meter
    ∷ right 8 (decimal s.tenths)
    ∷ right 9 (decimal s.price)
    ∷ right 9 (decimal s.tender)
    ∷ right 9 (decimal (change_of s))
    ∷ []) ++ line_feed ∷ []

-- the tenths of some sales, added
abbrev pub sum_of_tenths : List Sale → ℕ
sum_of_tenths sales = sum_by (λ s. s.tenths) sales

-- the lines of a shift and its times
unfoldable pub shift_head : Shift → List ℕ
shift_head shift =
    line (codes "SHIFT") (decimal shift.number ++ space ∷ shift.operator)
    ++ line (codes "OPENED") (time_text shift.opened)
    ++ line (codes "CLOSED") (closed_text shift.closed)

-- the last lines: how many sales there are, their tenths and their prices
abbrev pub totals_text : ℕ → ℕ → ℕ → List ℕ
totals_text count tenths cash =
    line (codes "SALES") (decimal count)
    ++ line (codes "TENTHS") (decimal tenths)
    ++ line (codes "CASH") (decimal cash)

-- the shift and its times, a line for each sale, and the totals over all of them
unfoldable pub report_of : Shift → List Sale → List ℕ
report_of shift sales =
    shift_head shift
    ++ flat_map sale_line sales
    ++ totals_text (length sales) (sum_of_tenths sales) (cash_of sales)
