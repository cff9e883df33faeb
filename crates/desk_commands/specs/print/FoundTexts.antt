-- What is printed of what was looked up.
use Rattle.std.specs.Prelude.{⊤, ℕ, ◌-◌, Bool, true, false, [], ◌∷◌, ◌++◌, Option, Some, None}
use Rattle.std.specs.Prelude.{codes, decimal}
use Rattle.asks.specs.declared.lookup.Lookup.{Lookup}
use Rattle.asks.specs.declared.lookup.Lookup.TheVariants as lookups
use Rattle.book_states.specs.declared.lookup.Found.{Found}
use Rattle.book_states.specs.declared.lookup.Found.TheVariants as found
use Rattle.book_states.specs.declared.lookup.MeterSummary.{MeterSummary}
use Rattle.book_states.specs.declared.lookup.Quote.{Quote}
use Rattle.desk_messages.specs.declared.reply.form.Form.TheVariants.{Json}
use Rattle.desk_messages.specs.reply.Body.{found_body}
use Rattle.papers.specs.Export.{export_of}
use Rattle.papers.specs.Receipt.{receipt_of}
use Rattle.sts_fields.specs.Base.{year_of}
use Rattle.sts_fields.specs.Text.{Text}
use Rattle.tariff.specs.declared.bought.Buy.{Buy}
use Rattle.office_rules.specs.declared.office.sale.Sale.{Sale}
use Rattle.vend_ports.specs.print.Printed.{quote_line, table_row_of}

-- the number of a sale, or a hyphen where there is none
abbrev pub number_or_none : Option ℕ → Text
number_or_none None = codes "-"
number_or_none (Some number) = decimal number

-- a meter, below the names of its fields; its key is none of them
abbrev pub meter_header : Text
meter_header = table_row_of (codes "meter" ∷ codes "base" ∷ codes "tariff" ∷ codes "tenths"
    ∷ codes "sale" ∷ [])

abbrev pub meter_table_row : MeterSummary → Text
meter_table_row m = table_row_of (m.number ∷ decimal (year_of m.base) ∷ m.tariff ∷ decimal m.tenths
    ∷ number_or_none m.last_sale ∷ [])

-- the purchase that is quoted
abbrev pub purchase_in : Quote → Buy
purchase_in q = record { tenths = q.tenths; price = q.price; change = q.tender - q.price }

-- a sale: the last one of a meter as its receipt, another as an export of it alone
abbrev pub sale_lines : Lookup → Sale → Text
sale_lines (lookups.LastSale number) s = receipt_of s
sale_lines lookup s = export_of true (s ∷ [])

-- as JSON on a line: the body that a desk replies
abbrev pub json_line : Found → Text
json_line what = found_body Json what ++ 10 ∷ []

-- The text of what was found, as JSON or as lines. A meter, a sale and a quote are what is looked
-- up alone.
abbrev pub found_text : (json : Bool) → Lookup → Found → Text
found_text true lookup what = json_line what
found_text false lookup (found.Meter m) = meter_header ++ meter_table_row m
found_text false lookup (found.Sale s) = sale_lines lookup s
found_text false lookup (found.Quote q) = quote_line (purchase_in q)
found_text false lookup what = []

-- JSON and an export are made whole in memory before they are printed
abbrev pub IsMadeWhole : (json : Bool) → Lookup → Found → Type 0
IsMadeWhole true lookup what = ⊤
IsMadeWhole false (lookups.LastSale number) (found.Sale s) = ⊥
IsMadeWhole false lookup (found.Sale s) = ⊤
IsMadeWhole false lookup what = ⊥
