-- A sale's row is that of its parts.
use Rattle.std.proofs.Common.{◌≡◌, ℕ, zero, suc, ◌+◌, [], ◌∷◌, Option, length, drop, subst, sym, ◌∙◌, ap, add-one, arith}
use Rattle.std.proofs.lemmas.List.{drop_all, drop_more}
use Rattle.sqlite.specs.Order.{Row, column}
use Rattle.sqlite.specs.declared.types.Value.TheVariants.{Null}
use Rattle.office_rules.specs.declared.decision.request.Order.{Order}
use Rattle.office_rules.specs.declared.office.sale.Sale.{Sale}
use Rattle.book_tables.specs.row.Parts.{entry_columns, order_columns, sale_part, shown_entry, shown_order, shown_token, token_columns}
use Rattle.book_tables.specs.row.Rows.{number, shown_sale}
use Rattle.book_tables.specs.row.ReadBack.{ReadsBack}
use Rattle.book_tables.specs.row.Values.{AreSaleValues}
use Rattle.book_tables.specs.declared.row.office_records.Entry.{Entry}
use Rattle.book_tables.specs.declared.row.office_records.Token.{Token}

-- so many columns of a row, from one on
abbrev columns_from : Row → ℕ → ℕ → Row
columns_from r at zero = []
columns_from r at (suc count) = column r at ∷ columns_from r (suc at) count

columns_to_the_end : (r : Row) (at count : ℕ) → at + count ≡ length r → columns_from r at count ≡ drop at r
columns_to_the_end r at zero e = sym (drop_all at r (omega (arith, e)))
columns_to_the_end r at (suc count) e =
    let rest : columns_from r (suc at) count ≡ drop (suc at) r = columns_to_the_end r (suc at) count (omega (arith, e)) in
    let next : drop at r ≡ column r at ∷ drop (suc at) r =
    drop_more r at Null (omega (arith, e)) ∙ ap (λ (k : ℕ). column r at ∷ drop k r) (add-one at) in
    ap (λ (more : Row). column r at ∷ more) rest ∙ sym next

-- a row of the columns of a sale
pub whole_sale : (r : Row) → length r ≡ 13 → sale_part 0 r ≡ r
whole_sale r e = columns_to_the_end r 0 13 (sym e)

-- the row of a sale with its month behind its moment
abbrev pub with_month : Row → Row
with_month r = column r 0 ∷ column r 1 ∷ column r 2 ∷ drop 2 (sale_part 1 r)

-- a row of the columns of a sale and of its month
pub whole_with_month : (r : Row) → length r ≡ 14 → with_month r ≡ r
whole_with_month r e = columns_to_the_end r 0 14 (sym e)

-- the sale of these parts
abbrev pub sale_from : Entry → Order → Token → ℕ → Sale
sale_from entry order token price = record {
  number = entry.number;
  moment = entry.moment;
  shift = entry.shift;
  operator = order.operator;
  order_ref = order.order_ref;
  meter = order.meter;
  base = token.base;
  tid = token.tid;
  rnd = token.rnd;
  tenths = token.tenths;
  price = price;
  tender = order.tender;
  digits = token.digits;
}

-- the entry of a sale: its number, its moment and its shift
abbrev pub entry_in : Sale → Entry
entry_in s = record { number = s.number; moment = s.moment; shift = s.shift }

-- the order of a sale: its operator, ref and meter, and what was tendered
abbrev pub order_in : Sale → Order
order_in s = record { operator = s.operator; order_ref = s.order_ref; meter = s.meter; tender = s.tender }

-- the token of a sale: its base, identifier, random number, amount and digits
abbrev pub token_in : Sale → Token
token_in s = record { base = s.base; tid = s.tid; rnd = s.rnd; tenths = s.tenths; digits = s.digits }

-- where the parts and the price are shown by a row, the row shows the sale of them
pub shows_sale : (on : ℕ) (r : Row) (entry : Entry) (order : Order) (token : Token) (price : ℕ) → shown_entry entry ≡ entry_columns on r
    → shown_order order ≡ order_columns on r → shown_token token ≡ token_columns on r → number price ≡ column r (10 + on)
    → shown_sale (sale_from entry order token price) ≡ sale_part on r
shows_sale on r entry order token price e o t p = cc

-- where a row shows a sale, its columns of the entry show the sale's entry
pub shows_entry : (on : ℕ) (r : Row) (s : Sale) → shown_sale s ≡ sale_part on r → shown_entry (entry_in s) ≡ entry_columns on r
shows_entry on r s e = ap (entry_columns 0) e

-- where a row shows a sale, its columns of the order show the sale's order
pub shows_order : (on : ℕ) (r : Row) (s : Sale) → shown_sale s ≡ sale_part on r → shown_order (order_in s) ≡ order_columns on r
shows_order on r s e = ap (order_columns 0) e

-- where a row shows a sale, its columns of the token show the sale's token
pub shows_token : (on : ℕ) (r : Row) (s : Sale) → shown_sale s ≡ sale_part on r → shown_token (token_in s) ≡ token_columns on r
shows_token on r s e = ap (token_columns 0) e

-- what is read back of a sale's columns is read back of a row that has no others
pub read_whole : (r : Row) (read : Option Sale) → length r ≡ 13 → ReadsBack shown_sale AreSaleValues (sale_part 0 r) read
    → ReadsBack shown_sale AreSaleValues r read
read_whole r read count part = subst (λ (row : Row). ReadsBack shown_sale AreSaleValues row read) (whole_sale r count) part
