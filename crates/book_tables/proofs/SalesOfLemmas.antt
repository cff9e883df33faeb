-- What the running totals of sales are with one sale more, and how great they can be.
use Rattle.std.proofs.Common.{◌≡◌, ◌≤◌, ◌<◌, ◌+◌, ◌^◌, ◌↔◌, ℕ, Bool, true, false, cond, if◌then◌else◌, List, [], ◌∷◌, ◌++◌, append-nil, length, map, filter, max, not, sum_by, unwrap_or, Option, Some, None, refl, sym, ap, ◌∙◌, arith}
use Rattle.std.specs.Prelude.{◌&&◌, ◌==◌, All, IfSome, bytes_eq}
use Rattle.std.proofs.lemmas.Bool.{and_parts}
use Rattle.std.proofs.lemmas.Bool.Decides.{Decides-eqb}
use Rattle.std.proofs.lemmas.List.{length-append, map-append}
use Rattle.std.proofs.lemmas.List.Elements.{All-head, All-tail, All-weaker, filter-append}
use Rattle.std.proofs.lemmas.List.Filters.{length-filter_both, sum_by-filter_both}
use Rattle.std.proofs.lemmas.List.Sums.{sum_by-le, sum_by_push}
use Rattle.std.proofs.lemmas.Slice.Eq.{bytes_eq-Decides}
use Rattle.sts_fields.specs.Amount.{IsRepresentable}
use Rattle.sts_fields.specs.Base.{base_eq, year_of}
use Rattle.sts_fields.specs.Calendar.{month_at}
use Rattle.sts_fields.specs.declared.base.Base.{Base}
use Rattle.office_rules.specs.Law.Cash.{cash_of}
use Rattle.office_rules.specs.Office.Lookup.{greatest_of}
use Rattle.office_rules.specs.Office.{IsOffice, IsSaleRow, Office, greatest_count}
use Rattle.office_rules.specs.Law.Store.{MeetsNewSale}
use Rattle.office_rules.specs.declared.office.sale.Sale.{Sale}
use Rattle.book_tables.specs.Stands.{sales_in_month, sales_in_shift, sales_under, tenths_of, totals_of}
use Rattle.book_tables.specs.row.Values.{AreTotalsValues, IsTotal}
use Rattle.book_tables.specs.writing.Writing.{AreWithinTotals, FitColumns, HasRoomFor, is_in_month, is_under, no_totals, one_more, put_under}
use Rattle.book_tables.specs.declared.row.totals.Totals.{Totals}
use Rattle.book_tables.proofs.RowLemmas.RecordLemmas.{one_base}

-- ---- keys

-- the comparison with a number passes that number alone
pub tells_number : (n k : ℕ) → ((k == n) ≡ true) ↔ (k ≡ n)
tells_number n k = ((Decides-eqb k n).0, (Decides-eqb k n).1)

both_true : (a b : Bool) → a ≡ true → b ≡ true → (a && b) ≡ true
both_true a b e f = rw (e, f) refl

-- the comparison with a key of a meter and a base passes that key alone
pub tells_under : (key k : List ℕ × Base) → (is_under key k ≡ true) ↔ (k ≡ key)
tells_under key k = (
  λ is.
      let parts = and_parts (bytes_eq k.0 key.0) (base_eq k.1 key.1) is in
      let meter : k.0 ≡ key.0 = (bytes_eq-Decides k.0 key.0).0 parts.0 in
      let base : k.1 ≡ key.1 = one_base k.1 key.1 ((Decides-eqb (year_of k.1) (year_of key.1)).0 parts.1) in
      let same : (k.0, k.1) ≡ (key.0, key.1) = cc in
      same,
  λ same. both_true (bytes_eq k.0 key.0) (base_eq k.1 key.1) ((bytes_eq-Decides k.0 key.0).1 (ap (λ (x : List ℕ × Base). x.0) same))
      ((Decides-eqb (year_of k.1) (year_of key.1)).1 (ap (λ (x : List ℕ × Base). year_of x.1) same)),
)

-- the comparison with a key of a meter and a month passes that key alone
pub tells_month : (key k : List ℕ × ℕ) → (is_in_month key k ≡ true) ↔ (k ≡ key)
tells_month key k = (
  λ is.
      let parts = and_parts (bytes_eq k.0 key.0) (k.1 == key.1) is in
      let meter : k.0 ≡ key.0 = (bytes_eq-Decides k.0 key.0).0 parts.0 in
      let month : k.1 ≡ key.1 = (Decides-eqb k.1 key.1).0 parts.1 in
      let same : (k.0, k.1) ≡ (key.0, key.1) = cc in
      same,
  λ same. both_true (bytes_eq k.0 key.0) (k.1 == key.1) ((bytes_eq-Decides k.0 key.0).1 (ap (λ (x : List ℕ × ℕ). x.0) same))
      ((Decides-eqb k.1 key.1).1 (ap (λ (x : List ℕ × ℕ). x.1) same)),
)

-- ---- totals and sums

-- the tenths of some sales, or 0 where there are none, are the sum over them
pub tenths_sum : (xs : List Sale) → unwrap_or (tenths_of xs) 0 ≡ sum_by (λ s. s.tenths) xs
tenths_sum [] = refl
tenths_sum (x ∷ xs) = refl

-- the count of some sales, and the sums of their tenths and their prices
abbrev pub all_totals : List Sale → Totals
all_totals xs = record { sales = length xs; tenths = sum_by (λ s. s.tenths) xs; cash = cash_of xs }

-- the totals of some sales, or zeros where there are none, are the count and the sums
pub totals_sum : (xs : List Sale) → unwrap_or (totals_of xs) no_totals ≡ all_totals xs
totals_sum [] = refl
totals_sum (x ∷ xs) = refl

tenths_more : (xs : List Sale) (s : Sale) → tenths_of (xs ++ s ∷ []) ≡ Some (unwrap_or (tenths_of xs) 0 + s.tenths)
tenths_more [] s = refl
tenths_more (x ∷ xs) s = ap Some (sum_by_push (λ (t : Sale). t.tenths) (x ∷ xs) s)

same_totals : (a b : Totals) → a.sales ≡ b.sales → a.tenths ≡ b.tenths → a.cash ≡ b.cash → Some a ≡ Some b
same_totals a b sales tenths cash =
    let A : Totals = record { sales = a.sales; tenths = a.tenths; cash = a.cash } in
    let B : Totals = record { sales = b.sales; tenths = b.tenths; cash = b.cash } in
    let same : A ≡ B = cc in
    ap (λ (t : Totals). let some : Option Totals = Some t in some) same

totals_more : (xs : List Sale) (s : Sale) → totals_of (xs ++ s ∷ []) ≡ Some (one_more s.tenths s.price (unwrap_or (totals_of xs) no_totals))
totals_more [] s = refl
totals_more (x ∷ xs) s =
    same_totals (all_totals ((x ∷ xs) ++ s ∷ [])) (one_more s.tenths s.price (all_totals (x ∷ xs))) (length-append (x ∷ xs) (s ∷ []))
    (sum_by_push (λ (t : Sale). t.tenths) (x ∷ xs) s)
    (sum_by_push (λ (t : Sale). t.price) (x ∷ xs) s)

-- ---- one sale more

-- a new sale that passes a test comes last of those that pass
pub kept_last : (p : Sale → Bool) (sales : List Sale) (s : Sale) → p s ≡ true → filter p (sales ++ s ∷ []) ≡ filter p sales ++ s ∷ []
kept_last p sales s is = filter-append p sales (s ∷ []) ∙ ap (λ (b : Bool). filter p sales ++ cond b (s ∷ []) []) is

left_last : (p : Sale → Bool) (sales : List Sale) (s : Sale) → p s ≡ false → filter p (sales ++ s ∷ []) ≡ filter p sales
left_last p sales s not =
    filter-append p sales (s ∷ []) ∙ ap (λ (b : Bool). filter p sales ++ cond b (s ∷ []) []) not ∙ append-nil (filter p sales)

-- two tests are the same where each passes if the other does
pub same_test : (a b : Bool) → (a ≡ true → b ≡ true) → (b ≡ true → a ≡ true) → a ≡ b
same_test true b to from = sym (to refl)
same_test false true to from = from refl
same_test false false to from = refl

-- what is found of the sales that pass a test of their keys, with a sale of this key more
module _ {K V : Type 0} (is_key : K → K → Bool) (tells : (key k : K) → (is_key key k ≡ true) ↔ (k ≡ key)) (key_of : Sale → K)
    (found : List Sale → Option V) (sales : List Sale) (s : Sale) (value : V) where
  abbrev of : List Sale → K → List Sale
  of xs k = filter (λ t. is_key k (key_of t)) xs

  turned : (k : K) → is_key k (key_of s) ≡ is_key (key_of s) k
  turned k = same_test (is_key k (key_of s)) (is_key (key_of s) k) (λ is. (tells (key_of s) k).1 (sym ((tells k (key_of s)).0 is)))
      (λ is. (tells k (key_of s)).1 (sym ((tells (key_of s) k).0 is)))

  by_test : (k : K) (b : Bool) → is_key (key_of s) k ≡ b → found (of (sales ++ s ∷ []) (key_of s)) ≡ Some value
      → found (of (sales ++ s ∷ []) k) ≡ (if b then Some value else found (of sales k))
  by_test k true is own = ap (λ (x : K). found (of (sales ++ s ∷ []) x)) ((tells (key_of s) k).0 is) ∙ own
  by_test k false is own = ap found (left_last (λ t. is_key k (key_of t)) sales s (turned k ∙ is))

  found_more : found (of (sales ++ s ∷ []) (key_of s)) ≡ Some value → (k : K) → found (of (sales ++ s ∷ []) k)
      ≡ put_under (is_key (key_of s)) value (λ x. found (of sales x)) k
  found_more own k = by_test k (is_key (key_of s) k) refl own

-- the sum over the sales that pass a test is at most the sum over all
pub sum_of_some : (p : Sale → Bool) (f : Sale → ℕ) (xs : List Sale) → sum_by f (filter p xs) ≤ sum_by f xs
sum_of_some p f xs = omega (arith, sum_by-filter_both p (λ x. not (p x)) (λ _. refl) f xs)

module _ (sales : List Sale) (s : Sale) where
  -- the key of a sale's last identifier: its meter and its base
  abbrev pub base_key : Sale → List ℕ × Base
  base_key t = (t.meter, t.base)

  -- the key of a sale's tenths: its meter and its month
  abbrev pub month_key : Sale → List ℕ × ℕ
  month_key t = (t.meter, month_at t.moment)

  abbrev greatest : List Sale → Option ℕ
  greatest xs = greatest_of (map (λ t. t.tid) xs)

  -- a new sale changes the last identifier of its own meter and base alone
  pub last_more : (last : ℕ) → greatest (sales_under (sales ++ s ∷ []) (base_key s)) ≡ Some last
      → (k : List ℕ × Base) → greatest (sales_under (sales ++ s ∷ []) k) ≡ put_under (is_under (base_key s)) last (λ x. greatest (sales_under sales x)) k
  last_more last own = found_more is_under tells_under base_key greatest sales s last own

  -- the tenths of the new sale's meter in its month, the new sale's among them
  abbrev pub month_sum : ℕ
  month_sum = unwrap_or (tenths_of (sales_in_month sales (month_key s))) 0 + s.tenths

  -- that is the sum of the month once the new sale is one of the sales
  pub month_own : tenths_of (sales_in_month (sales ++ s ∷ []) (month_key s)) ≡ Some month_sum
  month_own = ap tenths_of (kept_last (λ t. is_in_month (month_key s) (month_key t)) sales s
      ((tells_month (month_key s) (month_key s)).1 refl)) ∙ tenths_more (sales_in_month sales (month_key s)) s

  -- a new sale changes the tenths of its own meter and month alone
  pub month_more : (k : List ℕ × ℕ) → tenths_of (sales_in_month (sales ++ s ∷ []) k)
      ≡ put_under (is_in_month (month_key s)) month_sum (λ x. tenths_of (sales_in_month sales x)) k
  month_more = found_more is_in_month tells_month month_key tenths_of sales s month_sum month_own

  -- the totals of the new sale's shift, the new sale among them
  abbrev pub shift_sum : Totals
  shift_sum = one_more s.tenths s.price (unwrap_or (totals_of (sales_in_shift sales s.shift)) no_totals)

  -- these are the totals of the shift once the new sale is one of the sales
  pub shift_own : totals_of (sales_in_shift (sales ++ s ∷ []) s.shift) ≡ Some shift_sum
  shift_own = ap totals_of (kept_last (λ t. t.shift == s.shift) sales s ((tells_number s.shift s.shift).1 refl)) ∙ totals_more (sales_in_shift sales s.shift) s

  -- a new sale changes the totals of its own shift alone
  pub shift_more : (k : ℕ) → totals_of (sales_in_shift (sales ++ s ∷ []) k)
      ≡ put_under (λ n. n == s.shift) shift_sum (λ x. totals_of (sales_in_shift sales x)) k
  shift_more = found_more (λ n k. k == n) tells_number (λ t. t.shift) totals_of sales s shift_sum shift_own

  -- ---- what a column can hold

  -- what is added up of a month is some of all
  pub month_within : month_sum ≤ sum_by (λ t. t.tenths) (sales ++ s ∷ [])
  month_within =
      let of_month = sales_in_month sales (month_key s) in
      omega (
        arith,
        tenths_sum of_month,
        sum_of_some (λ t. is_in_month (month_key s) (month_key t)) (λ (t : Sale). t.tenths) sales,
        sum_by_push (λ (t : Sale). t.tenths) sales s,
      )

  -- and so of a shift
  pub shift_within : (shift_sum.sales ≤ length (sales ++ s ∷ [])) × (shift_sum.tenths ≤ sum_by (λ t. t.tenths) (sales ++ s ∷ []))
      × (shift_sum.cash ≤ cash_of (sales ++ s ∷ []))
  shift_within =
      let of_shift = sales_in_shift sales s.shift in
      let total = totals_sum of_shift in
      let all_sales : shift_sum.sales ≡ length of_shift + 1 = ap (λ (t : Totals). t.sales + 1) total in
      let all_tenths : shift_sum.tenths ≡ sum_by (λ t. t.tenths) of_shift + s.tenths = ap (λ (t : Totals). t.tenths + s.tenths) total in
      let all_cash : shift_sum.cash ≡ cash_of of_shift + s.price = ap (λ (t : Totals). t.cash + s.price) total in
      let in_shift : Sale → Bool = λ t. t.shift == s.shift in (
        omega (arith, all_sales, length-filter_both in_shift (λ x. not (in_shift x)) (λ _. refl) sales, length-append sales (s ∷ [])),
        omega (arith, all_tenths, sum_of_some in_shift (λ (t : Sale). t.tenths) sales, sum_by_push (λ (t : Sale). t.tenths) sales s),
        omega (arith, all_cash, sum_of_some in_shift (λ (t : Sale). t.price) sales, sum_by_push (λ (t : Sale). t.price) sales s),
      )

  -- where the sums over all sales fit in columns, so does that of the new sale's month
  pub room_in_month : FitColumns (sales ++ s ∷ []) → month_sum < 2 ^ 63
  room_in_month fit = omega (arith, month_within, fit.tenths)

  -- where the sums over all sales fit in columns, so do those of the new sale's shift
  pub room_in_shift : FitColumns (sales ++ s ∷ []) → HasRoomFor shift_sum
  room_in_shift fit =
      let within = shift_within in
      (omega (arith, within.0, fit.count), omega (arith, within.1, fit.tenths), omega (arith, within.2, fit.cash))

  -- where the sums over all sales are within the greatest total, so is that of the month
  pub total_in_month : AreWithinTotals (sales ++ s ∷ []) → IsTotal month_sum
  total_in_month few = omega (arith, month_within, few.1)

  -- where the sums over all sales are within the greatest total, so are those of the shift
  pub totals_in_shift : AreWithinTotals (sales ++ s ∷ []) → AreTotalsValues shift_sum
  totals_in_shift few =
      let within = shift_within in
      record { sales = omega (arith, within.0, few.0); tenths = omega (arith, within.1, few.1); cash = omega (arith, within.2, few.2) }

-- sums that are within the greatest total fit in columns
pub fit_within : (sales : List Sale) → AreWithinTotals sales → FitColumns sales
fit_within sales few = record { count = omega (arith, few.0); tenths = omega (arith, few.1); cash = omega (arith, few.2) }

-- ---- the sales of an office

-- where all numbers are at most some last one, so is the greatest of them
pub greatest_within : (last : ℕ) (ns : List ℕ) → All (λ n. n ≤ last) ns → IfSome (greatest_of ns) (λ n. n ≤ last)
greatest_within last [] all = _
greatest_within last (n ∷ ns) all = by_rest (greatest_of ns) (All-head (λ m. m ≤ last) n ns all) (greatest_within last ns (All-tail (λ m. m ≤ last) n ns all))
  where
    by_rest : (o : Option ℕ) → n ≤ last → IfSome o (λ m. m ≤ last) → max n (unwrap_or o 0) ≤ last
    by_rest None first rest = omega (arith, first)
    by_rest (Some m) first rest = omega (arith, first, rest)

some_same : (a b : ℕ) → a ≡ b → Some a ≡ Some b
some_same a b e = cc

-- one that is above the others is the greatest
greatest_last : (ns : List ℕ) (n : ℕ) → All (λ u. u < n) ns → greatest_of (ns ++ n ∷ []) ≡ Some n
greatest_last [] n all = some_same (max n 0) n (omega arith)
greatest_last (m ∷ ns) n all =
    let first : m < n = All-head (λ u. u < n) m ns all in
    let rest = greatest_last ns n (All-tail (λ u. u < n) m ns all) in
    ap (λ (o : Option ℕ). Some (max m (unwrap_or o 0))) rest ∙ some_same (max m n) n (omega (arith, first))

-- the identifier of a new sale is the last one of its meter under its base
pub own_last : (o : Office) (s : Sale) → MeetsNewSale o s
    → greatest_of (map (λ (t : Sale). t.tid) (sales_under (o.sales ++ s ∷ []) (s.meter, s.base))) ≡ Some s.tid
own_last o s meets =
    let key : List ℕ × Base = (s.meter, s.base) in
    ap (λ (l : List Sale). greatest_of (map (λ (t : Sale). t.tid) l)) (kept_last (λ t. is_under key (t.meter, t.base)) o.sales s ((tells_under key key).1 refl))
    ∙ ap greatest_of (map-append (λ (t : Sale). t.tid) (sales_under o.sales key) (s ∷ []))
    ∙ greatest_last (map (λ (t : Sale). t.tid) (sales_under o.sales key)) s.tid meets.above_used

-- so few sales of what a token can carry and of a tender at the most add up to no more
pub sales_within : ((t : ℕ) → IsRepresentable t → t ≤ 18201624) → (o : Office) (s : Sale) → IsOffice o → MeetsNewSale o s → AreWithinTotals (o.sales ++ s ∷ [])
sales_within greatest o s office meets =
    let tenths = sum_by-le (λ (t : Sale). t.tenths) 18201624 o.sales
    (All-weaker (IsSaleRow o) (λ t. t.tenths ≤ 18201624) (λ t row. greatest t.tenths row.tenths) o.sales office.sales) in
    let cash = sum_by-le (λ (t : Sale). t.price) 100000000 o.sales
    (All-weaker (IsSaleRow o) (λ t. t.price ≤ 100000000) (λ t row. omega (arith, row.price, row.tender.1)) o.sales office.sales) in
    let room : length o.sales < greatest_count = meets.room in (
      omega (arith, length-append o.sales (s ∷ []), room),
      omega (arith, tenths, room, sum_by_push (λ (t : Sale). t.tenths) o.sales s, greatest s.tenths meets.values.tenths),
      omega (arith, cash, room, sum_by_push (λ (t : Sale). t.price) o.sales s, meets.values.price, meets.values.tender.1),
    )
