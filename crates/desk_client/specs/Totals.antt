-- The running totals of shifts that replies tell.
use Rattle.std.specs.Prelude.{ℕ, ◌*◌, ◌≤◌}
use Rattle.book_tables.specs.declared.row.totals.Totals.{Totals}
use Rattle.asks.specs.Value.{IsTargetNumber}
use Rattle.sts_fields.specs.Amount.{greatest_amount}
use Rattle.office_rules.specs.Office.{greatest_count}

-- the totals of no more sales than an office holds, each of the greatest amount and price at most
pub record AreTotals (totals : Totals) : Type 0 where
  pub sales : totals.sales ≤ greatest_count
  pub tenths : totals.tenths ≤ greatest_amount * totals.sales
  pub cash : totals.cash ≤ 100000000 * totals.sales

-- such totals of the shift of a number
pub record IsToldTotals (number : ℕ) (totals : Totals) : Type 0 where
  pub shift : IsTargetNumber number
  pub are : AreTotals totals
