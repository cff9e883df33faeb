-- The whole rows of the sales, each of which is in the month of its moment.
use Rattle.std.specs.Prelude.{◌≡◌, ◌<◌, ◌^◌, [], ◌∷◌}
use Rattle.sqlite.specs.Order.{Row}
use Rattle.sqlite.specs.declared.types.Value.TheVariants.{Text}
use Rattle.sts_fields.specs.Base.{year_of}
use Rattle.sts_fields.specs.Calendar.{month_at}
use Rattle.book_tables.specs.row.Rows.{number}
use Rattle.book_tables.specs.row.Values.{AreSaleValues}
use Rattle.audit_rows.specs.declared.sale_row.SaleRow.{SaleRow}

abbrev pub shown_sale_row : SaleRow → Row
shown_sale_row r =
    number r.sale.number ∷ number r.sale.moment ∷ number r.month ∷ number r.sale.shift
    ∷ Text r.sale.operator ∷ Text r.sale.order_ref ∷ Text r.sale.meter
    ∷ number (year_of r.sale.base) ∷ number r.sale.tid ∷ number r.sale.rnd ∷ number r.sale.tenths
    ∷ number r.sale.price ∷ number r.sale.tender ∷ Text r.sale.digits ∷ []

pub record AreSaleRowValues (r : SaleRow) : Type 0 where
  pub sale : AreSaleValues r.sale
  pub month : r.month < 2 ^ 32

-- the month that the row tells is that of the sale's moment
abbrev pub IsInItsMonth : SaleRow → Type 0
IsInItsMonth r = r.month ≡ month_at r.sale.moment

-- the values of the row of a sale in the books: its month is that of its moment
pub record AreBookedValues (r : SaleRow) : Type 0 where
  pub values : AreSaleRowValues r
  pub month : IsInItsMonth r
