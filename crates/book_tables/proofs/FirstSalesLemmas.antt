-- The totals of an office's sales.
use Rattle.std.proofs.Common.{◌≡◌, ◌≤◌, ℕ, List, [], ◌∷◌, ◌++◌, length, map, max, unwrap_or, Option, Some, refl, ap, ◌∙◌, arith}
use Rattle.std.proofs.lemmas.List.Elements.{All-weaker}
use Rattle.std.proofs.lemmas.List.Sums.{sum_by-le}
use Rattle.sts_fields.specs.Amount.{IsRepresentable}
use Rattle.sts_fields.specs.declared.base.Base.{Base}
use Rattle.office_rules.specs.Office.Lookup.{greatest_of}
use Rattle.office_rules.specs.Office.{IsOffice, IsSaleRow, Office, greatest_count}
use Rattle.office_rules.specs.declared.office.sale.Sale.{Sale}
use Rattle.book_tables.specs.Stands.{sales_under}
use Rattle.book_tables.specs.writing.Writing.{AreWithinTotals, is_under}
use Rattle.book_tables.proofs.SalesOfLemmas.{kept_last, tells_under}

-- ---- their sums

-- so few sales of what a token can carry and of a tender at the most add up to no more
pub office_within : ((t : ℕ) → IsRepresentable t → t ≤ 18201624) → (o : Office) → IsOffice o → AreWithinTotals o.sales
office_within greatest o office =
    let tenths = sum_by-le (λ (t : Sale). t.tenths) 18201624 o.sales
    (All-weaker (IsSaleRow o) (λ t. t.tenths ≤ 18201624) (λ t row. greatest t.tenths row.tenths) o.sales office.sales) in
    let cash = sum_by-le (λ (t : Sale). t.price) 100000000 o.sales
    (All-weaker (IsSaleRow o) (λ t. t.price ≤ 100000000) (λ t row. omega (arith, row.price, row.tender.1)) o.sales office.sales) in
    let count : length o.sales ≤ greatest_count = office.sale_count in
    (omega (arith, count), omega (arith, tenths, count), omega (arith, cash, count))

-- ---- their greatest identifier

some_same : (a b : ℕ) → a ≡ b → Some a ≡ Some b
some_same a b e = cc

greatest_more : (ns : List ℕ) (n : ℕ) → greatest_of (ns ++ n ∷ []) ≡ Some (max (unwrap_or (greatest_of ns) 0) n)
greatest_more [] n = some_same (max n 0) (max 0 n) (omega arith)
greatest_more (m ∷ ns) n =
    let g = unwrap_or (greatest_of ns) 0 in
    ap (λ (o : Option ℕ). Some (max m (unwrap_or o 0))) (greatest_more ns n) ∙ some_same (max m (max g n)) (max (max m g) n) (omega arith)

tids_more : (sales : List Sale) (s : Sale) → map (λ (t : Sale). t.tid) (sales ++ s ∷ []) ≡ map (λ (t : Sale). t.tid) sales ++ s.tid ∷ []
tids_more [] s = refl
tids_more (t ∷ sales) s = ap (λ l. t.tid ∷ l) (tids_more sales s)

-- with one sale more
pub last_with : (sales : List Sale) (s : Sale) → greatest_of (map (λ (t : Sale). t.tid) (sales_under (sales ++ s ∷ []) (s.meter, s.base)))
    ≡ Some (max (unwrap_or (greatest_of (map (λ (t : Sale). t.tid) (sales_under sales (s.meter, s.base)))) 0) s.tid)
last_with sales s =
    let key : List ℕ × Base = (s.meter, s.base) in
    ap (λ (l : List Sale). greatest_of (map (λ (t : Sale). t.tid) l)) (kept_last (λ t. is_under key (t.meter, t.base)) sales s ((tells_under key key).1 refl))
    ∙ ap greatest_of (tids_more (sales_under sales key) s) ∙ greatest_more (map (λ (t : Sale). t.tid) (sales_under sales key)) s.tid
