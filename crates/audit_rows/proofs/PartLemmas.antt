-- A sale's whole row is that of the sale and of its month.
use Rattle.std.proofs.Common.{◌≡◌, ℕ, length, ◌∙◌, ap}
use Rattle.sqlite.specs.Order.{Row, column}
use Rattle.office_rules.specs.declared.office.sale.Sale.{Sale}
use Rattle.book_tables.specs.row.Parts.{sale_part}
use Rattle.book_tables.specs.row.Rows.{number, shown_sale}
use Rattle.book_tables.proofs.RowLemmas.PartLemmas.{whole_with_month, with_month}
use Rattle.audit_rows.specs.Sales.{shown_sale_row}
use Rattle.audit_rows.specs.declared.sale_row.SaleRow.{SaleRow}

-- a row that shows a sale and the month behind its moment is shown by both together
pub shows_row : (r : Row) (s : Sale) (month : ℕ) → length r ≡ 14 → shown_sale s ≡ sale_part 1 r → number month ≡ column r 2
    → shown_sale_row (record { sale = s; month = month }) ≡ r
shows_row r s month count sale m =
    let columns : shown_sale_row (record { sale = s; month = month }) ≡ with_month r = cc in
    columns ∙ whole_with_month r count

-- where a record shows a row, its sale shows the row's columns but that of the month
pub shows_sale : (r : Row) (s : SaleRow) → shown_sale_row s ≡ r → shown_sale s.sale ≡ sale_part 1 r
shows_sale r s e = ap (sale_part 1) e

-- and its month shows that one
pub shows_month : (r : Row) (s : SaleRow) → shown_sale_row s ≡ r → number s.month ≡ column r 2
shows_month r s e = ap (λ (row : Row). column row 2) e
