-- The line that the totals of a shift have.
use Rattle.std.specs.Prelude.{ℕ, [], ◌∷◌, codes, decimal}
use Rattle.book_tables.specs.declared.row.totals.Totals.{Totals}
use Rattle.sts_fields.specs.Text.{Text}
use Rattle.vend_ports.specs.print.Printed.{line_of}

-- the shift, the count of its sales, and the sums of their tenths and of their prices
abbrev pub totals_line : ℕ → Totals → Text
totals_line number totals =
    line_of (codes "shift" ∷ decimal number ∷ codes "sales" ∷ decimal totals.sales
    ∷ codes "tenths" ∷ decimal totals.tenths ∷ codes "cash" ∷ decimal totals.cash ∷ [])
