-- The last identifier, the month's tenths and the totals of a shift: how one sale changes them, and
-- how large they are.
use Rattle.std.proofs.Common.{◌≡◌, ℕ, ◌+◌, ◌*◌, ◌^◌, ◌<◌, ◌≤◌, Bool, true, false, cond, List, [], ◌∷◌, ◌++◌, length, max, Option, Some, None, refl, ◌∙◌, ap, arith}
use Rattle.std.specs.Prelude.{◌&&◌, ◌==◌, All, bytes_eq, filter, if◌then◌else◌, map, sum_by, unwrap_or}
use Rattle.std.proofs.lemmas.List.{append-nil, length-append, map-append}
use Rattle.std.proofs.lemmas.List.Elements.{All-contains, All-filter, All-map, All-weaker, filter-append}
use Rattle.std.proofs.lemmas.List.Sums.{sum_by-append, sum_by-le}
use Rattle.std.proofs.lemmas.Slice.Eq.{bytes_eq-Decides}
use Rattle.sts_fields.specs.Amount.{IsRepresentable}
use Rattle.sts_fields.specs.Calendar.{month_at}
use Rattle.sts_fields.specs.Tid.{IsLast, last_tid}
use Rattle.sts_fields.specs.declared.base.Base.{Base}
use Rattle.office_rules.specs.Law.Cash.{cash_of}
use Rattle.office_rules.specs.Decision.Fold.{applied}
use Rattle.sts_fields.specs.Base.{base_eq}
use Rattle.office_rules.specs.Office.Lookup.{greatest_of, prior, sales_of_shift, used}
use Rattle.office_rules.specs.Office.{IsOffice, IsSaleRow, Office}
use Rattle.office_rules.specs.Law.Store.{HasOneSaleMore, TotalsGrow}
use Rattle.office_rules.specs.declared.decision.change.Edit.TheVariants as edits
use Rattle.office_rules.specs.declared.office.sale.Sale.{Sale}
use Rattle.office_rules.proofs.DecisionLemmas.NewSaleLemmas.{greatest_is_last}
use Rattle.office_rules.proofs.DecisionLemmas.EditLemmas.{base_eq-refl}
use Rattle.office_rules.proofs.StoreLemmas.OrderLemmas.{sales_with_one_more}
use Rattle.office_rules.proofs.OfficeLemmas.RowLemmas.{both_true}
use Rattle.office_rules.proofs.StoreLemmas.{is_to}

-- the greatest of some numbers and one more at the end
pub greatest_of-push : (ns : List ℕ) (n : ℕ) → greatest_of (ns ++ n ∷ []) ≡ Some (max (unwrap_or (greatest_of ns) 0) n)
greatest_of-push [] n = ap (λ (k : ℕ). let o : Option ℕ = Some k in o) (omega arith)
greatest_of-push (m ∷ ns) n =
    let more : greatest_of (ns ++ n ∷ []) ≡ Some (max (unwrap_or (greatest_of ns) 0) n) = greatest_of-push ns n in
    rw more (ap (λ (k : ℕ). let o : Option ℕ = Some k in o) (grouped m (unwrap_or (greatest_of ns) 0) n))
  where
    grouped : (a b c : ℕ) → max a (max b c) ≡ max (max a b) c
    grouped a b c = omega arith

abbrev tid_of : Sale → ℕ
tid_of s = s.tid

-- the identifiers used, with one sale more
used_more : (o : Office) (s : Sale) (number : List ℕ) (base : Base)
    → used (applied (edits.AddSale s) o) number base
    ≡ used o number base ++ map tid_of (cond (is_to number base s) (s ∷ []) [])
used_more o s number base =
    ap (λ sales. map tid_of sales) (filter-append (is_to number base) o.sales (s ∷ []))
    ∙ map-append tid_of (filter (is_to number base) o.sales)
    (cond (is_to number base s) (s ∷ []) [])

greatest_at : (ns : List ℕ) (s : Sale) (b : Bool)
    → greatest_of (ns ++ map tid_of (cond b (s ∷ []) []))
    ≡ (if b then Some (max (unwrap_or (greatest_of ns) 0) s.tid) else greatest_of ns)
greatest_at ns s true = greatest_of-push ns s.tid
greatest_at ns s false = ap greatest_of (append-nil ns)

-- with one sale more, its meter and base have the greater last identifier, others theirs
pub last_grows_by : (o : Office) (s : Sale) (number : List ℕ) (base : Base)
    → greatest_of (used (applied (edits.AddSale s) o) number base)
    ≡ (if bytes_eq s.meter number && base_eq s.base base then Some
    (max (unwrap_or (greatest_of (used o number base)) 0) s.tid) else greatest_of
    (used o number base))
last_grows_by o s number base = ap greatest_of (used_more o s number base)
    ∙ greatest_at (used o number base) s (is_to number base s)

-- an identifier above those used is the greatest
above_last : (ns : List ℕ) (last : Option ℕ) (tid : ℕ) → IsLast ns last → All (λ u. u < tid) ns
    → max (unwrap_or last 0) tid ≡ tid
above_last ns None tid is above = omega arith
above_last ns (Some last) tid is above = let below : last < tid =
    All-contains (λ u. u < tid) ns last above is.0 in omega arith

-- a sale with an identifier above those used makes it the last one
pub last_rises_to : (o : Office) (s : Sale) → All (λ tid. tid < s.tid) (used o s.meter s.base)
    → greatest_of (used (applied (edits.AddSale s) o) s.meter s.base) ≡ Some s.tid
last_rises_to o s above =
    let before = greatest_of (used o s.meter s.base) in
    let own = both_true _ _ ((bytes_eq-Decides s.meter s.meter).1 refl) (base_eq-refl s.base) in
    last_grows_by o s s.meter s.base
    ∙ ap (λ b. if b then Some (max (unwrap_or before 0) s.tid) else before) own
    ∙ ap (λ (k : ℕ). let r : Option ℕ = Some k in r)
    (above_last (used o s.meter s.base) before s.tid
    (greatest_is_last (used o s.meter s.base)) above)

-- the tenths of a month, with one sale more
abbrev is_in : List ℕ → ℕ → Sale → Bool
is_in number month s = bytes_eq s.meter number && (month_at s.moment == month)

abbrev tenths_of : Sale → ℕ
tenths_of s = s.tenths

sum_if : (f : Sale → ℕ) (s : Sale) (b : Bool)
    → sum_by f (cond b (s ∷ []) []) ≡ (if b then f s else 0)
sum_if f s true = omega arith
sum_if f s false = refl

-- with one sale more, a month's tenths grow by it, if it is of that meter and month
pub prior_grows_by : (o : Office) (s : Sale) (number : List ℕ) (month : ℕ)
    → prior (applied (edits.AddSale s) o) number month
    ≡ prior o number month
    + (if bytes_eq s.meter number && (month_at s.moment == month) then s.tenths else 0)
prior_grows_by o s number month =
    ap (λ sales. sum_by tenths_of sales) (filter-append (is_in number month) o.sales (s ∷ []))
    ∙ sum_by-append tenths_of (filter (is_in number month) o.sales)
    (cond (is_in number month s) (s ∷ []) [])
    ∙ ap (λ n. prior o number month + n) (sum_if tenths_of s (is_in number month s))

-- the sales of a shift, with one sale more
abbrev is_of : ℕ → Sale → Bool
is_of number s = s.shift == number

shift_more : (o : Office) (s : Sale) (number : ℕ)
    → sales_of_shift (applied (edits.AddSale s) o) number
    ≡ sales_of_shift o number ++ cond (is_of number s) (s ∷ []) []
shift_more o s number = filter-append (is_of number) o.sales (s ∷ [])

shift_sum_grows : (f : Sale → ℕ) (o : Office) (s : Sale) (number : ℕ)
    → sum_by f (sales_of_shift (applied (edits.AddSale s) o) number)
    ≡ sum_by f (sales_of_shift o number) + (if s.shift == number then f s else 0)
shift_sum_grows f o s number =
    ap (λ sales. sum_by f sales) (shift_more o s number)
    ∙ sum_by-append f (sales_of_shift o number) (cond (is_of number s) (s ∷ []) [])
    ∙ ap (λ n. sum_by f (sales_of_shift o number) + n) (sum_if f s (is_of number s))

shift_count_grows : (o : Office) (s : Sale) (number : ℕ)
    → length (sales_of_shift (applied (edits.AddSale s) o) number)
    ≡ length (sales_of_shift o number) + (if s.shift == number then 1 else 0)
shift_count_grows o s number =
    ap (λ (sales : List Sale). length sales) (shift_more o s number)
    ∙ length-append (sales_of_shift o number) (cond (is_of number s) (s ∷ []) [])
    ∙ ap (λ n. length (sales_of_shift o number) + n) (one_if (is_of number s))
  where
    one_if : (b : Bool) → length (cond b (s ∷ []) []) ≡ (if b then 1 else 0)
    one_if true = refl
    one_if false = refl

-- a sale that is added at the end makes the totals grow by it
pub totals_added : (o : Office) (s : Sale) → TotalsGrow o s (applied (edits.AddSale s) o)
totals_added o s = record {
  last = last_grows_by o s;
  month = prior_grows_by o s;
  count = shift_count_grows o s;
  tenths = shift_sum_grows tenths_of o s;
  cash = shift_sum_grows (λ (t : Sale). t.price) o s;
}

-- totals are of the sales alone
totals_of_sales : (o p q : Office) (s : Sale) → q.sales ≡ p.sales → TotalsGrow o s p
    → TotalsGrow o s q
totals_of_sales o p q s same grows = record {
  last = λ number base. ap (λ (sales : List Sale). greatest_of
      (map tid_of (filter (is_to number base) sales))) same ∙ grows.last number base;
  month = λ number month. ap (λ (sales : List Sale). sum_by tenths_of
      (filter (is_in number month) sales)) same ∙ grows.month number month;
  count = λ number. ap (λ (sales : List Sale). length (filter (is_of number) sales)) same
      ∙ grows.count number;
  tenths = λ number. ap (λ (sales : List Sale). sum_by tenths_of (filter (is_of number) sales)) same
      ∙ grows.tenths number;
  cash = λ number. ap (λ (sales : List Sale). cash_of (filter (is_of number) sales)) same
      ∙ grows.cash number;
}

-- the totals grow by a sale in any office that has just this one more
pub totals_grow : (o p : Office) (s : Sale) → IsOffice o → IsOffice p → HasOneSaleMore o s p
    → TotalsGrow o s p
totals_grow o p s office later more =
    totals_of_sales o (applied (edits.AddSale s) o) p s (sales_with_one_more o p s office later more)
    (totals_added o s)

-- each identifier used is within the range of identifiers
pub used_in_range : (o : Office) (number : List ℕ) (base : Base) → IsOffice o
    → All (λ tid. tid ≤ last_tid) (used o number base)
used_in_range o number base office =
    All-map (λ (tid : ℕ). tid ≤ last_tid) tid_of _
    (All-filter (is_to number base) (λ (s : Sale). s.tid ≤ last_tid) o.sales
    (All-weaker (IsSaleRow o) (λ s. s.tid ≤ last_tid) (λ s row. row.tid) o.sales office.sales))

fewer : {X : Type 0} (p : X → Bool) (xs : List X) → length (filter p xs) ≤ length xs
fewer p [] = omega arith
fewer p (x ∷ xs) = fewer_at (p x) (fewer p xs)
  where
    fewer_at : (b : Bool) → length (filter p xs) ≤ length xs
        → length (cond b (x ∷ filter p xs) (filter p xs)) ≤ length (x ∷ xs)
    fewer_at true rest = omega arith
    fewer_at false rest = omega arith

-- a meter's tenths of a month are at most 10 ^ 17
pub prior_in_range : ((t : ℕ) → IsRepresentable t → t ≤ 18201624)
    → (o : Office) (number : List ℕ) (month : ℕ) → IsOffice o → prior o number month ≤ 10 ^ 17
prior_in_range greatest o number month office =
    let rows = filter (is_in number month) o.sales in
    let within : All (λ (s : Sale). s.tenths ≤ 18201624) rows =
    All-filter (is_in number month) (λ (s : Sale). s.tenths ≤ 18201624) o.sales
    (All-weaker (IsSaleRow o) (λ s. s.tenths ≤ 18201624)
    (λ s row. greatest s.tenths row.tenths) o.sales office.sales) in
    let sum : sum_by tenths_of rows ≤ length rows * 18201624 =
    sum_by-le tenths_of 18201624 rows within in
    let count : length rows ≤ length o.sales = fewer (is_in number month) o.sales in
    let room = office.sale_count in
    omega arith
