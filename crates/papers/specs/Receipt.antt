-- The receipt of a sale.
use Rattle.std.specs.Prelude.{ℕ, List, ◌++◌, codes, decimal}
use Rattle.papers.specs.Text.{change_of, grouped, kwh_text, line, time_text}
use Rattle.office_rules.specs.declared.office.sale.Sale.{Sale}

-- a line each: its number, meter, time and energy, the money in whole cents, and the token
unfoldable pub receipt_of : Sale → List ℕ
receipt_of s =
    line (codes "SALE") (decimal s.number)
    ++ line (codes "METER") s.meter
    ++ line (codes "TIME") (time_text s.moment)
    ++ line (codes "KWH") (kwh_text s.tenths)
    ++ line (codes "PRICE") (decimal s.price)
    ++ line (codes "TENDER") (decimal s.tender)
    ++ line (codes "CHANGE") (decimal (change_of s))
    ++ line (codes "TOKEN") (grouped s.digits)
