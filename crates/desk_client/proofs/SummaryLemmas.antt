-- The totals of a shift.
use Rattle.std.proofs.Common.{◌^◌, ◌<◌, arith}
use Rattle.book_tables.specs.declared.row.totals.Totals.{Totals}
use Rattle.desk_client.specs.Totals.{AreTotals}

-- the totals of a shift have 64 bits: its sales,
pub small_sales : (t : Totals) → AreTotals t → t.sales < 2 ^ 64
small_sales t are = omega (arith, are.sales)

-- their tenths
pub small_tenths : (t : Totals) → AreTotals t → t.tenths < 2 ^ 64
small_tenths t are = omega (arith, are.sales, are.tenths)

-- and their cash
pub small_cash : (t : Totals) → AreTotals t → t.cash < 2 ^ 64
small_cash t are = omega (arith, are.sales, are.cash)
