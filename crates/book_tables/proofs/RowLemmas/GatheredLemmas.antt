-- Rows in memory, each at the place of its key: what they are with a value under a key, and all of
-- them.
use Rattle.std.proofs.Common.{◌≡◌, ◌≢◌, ◌≤◌, ◌<◌, ◌*◌, ◌^◌, ◌↔◌, ℕ, Bool, true, false, if◌then◌else◌, List, [], ◌∷◌, ◌++◌, length, map, max, unwrap_or, option_map, sum_by, Option, Some, None, Ordering, Less, Equal, Greater, refl, sym, ap, subst, ◌∙◌, true≢false, arith}
use Rattle.std.specs.Prelude.{◌==◌, All, AllPairs, Contains}
use Rattle.std.specs.BTreeMap.{BTreeMap, IsOrdered, Updates, get}
use Rattle.std.specs.Cmp.{IsTotalOrder}
use Rattle.std.specs.List.Sorted.{IsStrictlySortedBy}
use Rattle.std.specs.Ordering.{is_eq, nat_cmp}
use Rattle.std.proofs.lemmas.Cmp.{nat_cmp_total, nat_list_cmp_total, on_total, then_total, tied_itself}
use Rattle.std.proofs.lemmas.List.{length-append}
use Rattle.std.proofs.lemmas.List.Elements.{All-contains, All-from_recursion, All-push, All-weaker}
use Rattle.std.proofs.lemmas.List.Sums.{sum_by-le, sum_by_push}
use Rattle.std.proofs.lemmas.Map.Keys.{sorted_head, sorted_tail}
use Rattle.std.proofs.lemmas.Map.Lookups.{CmpEqualImpliesEq, exact_bytes, exact_pairs, exact_unsigned}
use Rattle.std.proofs.lemmas.Map.Views.{btree_map_get_iff}
use Rattle.sts_fields.specs.declared.base.Base.{Base}
use Rattle.sts_fields.specs.Calendar.{month_at}
use Rattle.office_rules.specs.Law.Cash.{cash_of}
use Rattle.office_rules.specs.Office.Lookup.{greatest_of}
use Rattle.office_rules.specs.declared.office.sale.Sale.{Sale}
use Rattle.book_tables.specs.row.Gathered.{HoldsAt, IsGathered, IsInWords, IsOfWords, base_place, key_cmp, own_place}
use Rattle.book_tables.specs.Stands.{AreRowsOf, sales_in_month, sales_in_shift, sales_under, tenths_of, totals_of}
use Rattle.book_tables.specs.writing.Writing.{is_in_month, is_under, put_under}
use Rattle.book_tables.specs.declared.row.gathered.Gathered.{Gathered}
use Rattle.book_tables.specs.declared.row.totals.Totals.{Totals}
use Rattle.book_tables.proofs.FirstSalesLemmas.{last_with}
use Rattle.book_tables.proofs.SalesOfLemmas.{last_more, month_more, month_sum, month_within, shift_more, shift_sum, shift_within}
use Rattle.book_tables.proofs.ListLemmas.{contains_first, contains_further, contains_map, map_source, no_pairs, pairs_cons}
use Rattle.book_tables.proofs.RowLemmas.RecordLemmas.{one_base}

-- ---- the order of the keys

-- the comparison of places is a total order
pub key_total : IsTotalOrder key_cmp
key_total = then_total (on_total (λ (x : List ℕ × ℕ). x.0) nat_list_cmp_total) (on_total (λ (x : List ℕ × ℕ). x.1) nat_cmp_total)

-- places that compare as equal are the same
pub key_exact : CmpEqualImpliesEq key_cmp
key_exact = exact_pairs _ _ exact_bytes exact_unsigned

-- keys of a meter and a base that stand at one place are the same
pub one_place : (a b : List ℕ × Base) → base_place a ≡ base_place b → a ≡ b
one_place a b same =
    let meter : a.0 ≡ b.0 = ap (λ (x : List ℕ × ℕ). x.0) same in
    let base : a.1 ≡ b.1 = one_base a.1 b.1 (ap (λ (x : List ℕ × ℕ). x.1) same) in
    let both : (a.0, a.1) ≡ (b.0, b.1) = cc in
    both

module _ {Q K V : Type 0} (cmp : Q → Q → Ordering) (total : IsTotalOrder cmp) (exact : CmpEqualImpliesEq cmp) (place : K → Q) where
  abbrev with_key : K → V → K × V
  with_key k v = (k, v)

  -- where the function is the same at each key
  pub holds_same : (m : BTreeMap Q (K × V)) (has other : K → Option V) → ((k : K) → other k ≡ has k) → HoldsAt cmp place m has → HoldsAt cmp place m other
  holds_same m has other same holds = record {
    ordered = holds.ordered;
    found = λ k. holds.found k ∙ ap (option_map (with_key k)) (sym (same k));
    own = holds.own;
  }

  module _ (m : BTreeMap Q (K × V)) (has : K → Option V) (holds : HoldsAt cmp place m has) where
    value_is : (k : K) (v : K × V) (o : Option V) → option_map (with_key k) o ≡ Some v → o ≡ Some v.1
    value_is k v None none = cc
    value_is k v (Some w) is = let same : (k, w) ≡ v = cc in ap Some (ap (λ (x : K × V). x.1) same)

    -- the row that is read at the place of a key has what there is under the key
    pub read_some : (k : K) (v : K × V) → get cmp m (place k) ≡ Some v → has k ≡ Some v.1
    read_some k v some = value_is k v (has k) (sym (holds.found k) ∙ some)

    abbrev row_at : Q × (K × V) → K × V
    row_at e = e.1

    -- all rows in memory, in the order of their places
    abbrev pub rows : List (K × V)
    rows = map row_at m.entries

    there : (k : K) (v : V) → has k ≡ Some v → Contains rows (k, v)
    there k v is =
        let at : get cmp m (place k) ≡ Some (k, v) = holds.found k ∙ ap (option_map (with_key k)) is in
        let among = (btree_map_get_iff total exact m holds.ordered (place k) (k, v)).0 at in
        contains_map row_at m.entries (place k, (k, v)) among

    back : (k : K) (v : V) → Contains rows (k, v) → has k ≡ Some v
    back k v among =
        let from = map_source row_at m.entries (k, v) among in
        let e = from.0 in
        let at : get cmp m e.0 ≡ Some e.1 = (btree_map_get_iff total exact m holds.ordered e.0 e.1).1 from.1 in
        let key : e.1.0 ≡ k = ap (λ (x : K × V). x.0) from.2 in
        let here : get cmp m (place k) ≡ Some e.1 = subst (λ (q : Q). get cmp m q ≡ Some e.1) (holds.own e.0 e.1 at ∙ ap place key) at in
        read_some k e.1 here ∙ ap Some (ap (λ (x : K × V). x.1) from.2)

    -- ---- each once

    abbrev Apart : K × V → K × V → Type 0
    Apart a b = a.0 ≢ b.0

    less_not_equal : (o : Ordering) → o ≡ Less → o ≡ Equal → ⊥
    less_not_equal o less equal = let both : Less ≡ Equal = sym less ∙ equal in cc

    once_of : (es : List (Q × (K × V))) → IsStrictlySortedBy cmp (map (λ e. e.0) es)
        → ((e : Q × (K × V)) → Contains es e → e.0 ≡ place e.1.0) → AllPairs Apart (map row_at es)
    once_of [] sorted own = no_pairs Apart
    once_of (e ∷ es) sorted own =
        pairs_cons Apart (row_at e) (map row_at es) (once_of es (sorted_tail cmp e.0 (map (λ e. e.0) es) sorted)
        (λ f among. own f (contains_further e f es among))) (λ y among same.
        let from = map_source row_at es y among in
        let f = from.0 in
        let keys : e.0 ≡ f.0 = own e (contains_first e es) ∙ ap place (same ∙ sym (ap (λ (x : K × V). x.0) from.2))
        ∙ sym (own f (contains_further e f es from.1)) in
        let below : cmp e.0 f.0 ≡ Less = All-contains (λ q. cmp e.0 q ≡ Less) (map (λ (e : Q × (K × V)). e.0) es) f.0
        (All-from_recursion (λ q. cmp e.0 q ≡ Less) (map (λ (e : Q × (K × V)). e.0) es)
        (sorted_head cmp e.0 (map (λ e. e.0) es) sorted)) (contains_map (λ (e : Q × (K × V)). e.0) es f from.1) in
        less_not_equal (cmp e.0 f.0) below (ap (cmp e.0) (sym keys) ∙ tied_itself total e.0))

    -- the rows in memory are those of the function, one for each key
    pub are_rows : AreRowsOf rows has
    are_rows = record {
      members = λ k v. (there k v, back k v);
      once = once_of m.entries holds.ordered (λ e among. holds.own e.0 e.1 ((btree_map_get_iff total exact m holds.ordered e.0 e.1).1 among));
    }

    -- ---- with a value under a key

    module _ (n : BTreeMap Q (K × V)) (is_key : K → Bool) (key : K) (tells : (k : K) → (is_key k ≡ true) ↔ (k ≡ key))
        (one : (a b : K) → place a ≡ place b → a ≡ b) (value : V) (ordered : IsOrdered cmp n) (puts : Updates cmp m n (place key) (Some (key, value))) where
      tied : (o : Ordering) → is_eq o ≡ true → o ≡ Equal
      tied Less is = cc
      tied Equal is = refl
      tied Greater is = cc

      same_place : (q : Q) → is_eq (cmp (place key) q) ≡ true → place key ≡ q
      same_place q is = exact (place key) q (tied (cmp (place key) q) is)

      at_key : get cmp n (place key) ≡ Some (key, value)
      at_key = puts.1

      elsewhere : (q : Q) → is_eq (cmp (place key) q) ≡ false → get cmp n q ≡ get cmp m q
      elsewhere = puts.2

      found_by : (k : K) (b : Bool) → is_key k ≡ b → get cmp n (place k) ≡ option_map (with_key k) (if b then Some value else has k)
      found_by k true is = subst (λ (x : K). get cmp n (place x) ≡ Some (x, value)) (sym ((tells k).0 is)) at_key
      found_by k false is = apart_by (is_eq (cmp (place key) (place k))) refl
        where
          apart_by : (b : Bool) → is_eq (cmp (place key) (place k)) ≡ b → get cmp n (place k) ≡ option_map (with_key k) (has k)
          apart_by true tie = absurd (true≢false (sym ((tells k).1 (one k key (sym (same_place (place k) tie)))) ∙ is))
          apart_by false tie = elsewhere (place k) tie ∙ holds.found k

      own_by : (q : Q) (v : K × V) (b : Bool) → is_eq (cmp (place key) q) ≡ b → get cmp n q ≡ Some v → q ≡ place v.0
      own_by q v true tie at =
          let here : get cmp n (place key) ≡ Some v = subst (λ (x : Q). get cmp n x ≡ Some v) (sym (same_place q tie)) at in
          let both : Some (key, value) ≡ Some v = sym at_key ∙ here in
          let same : (key, value) ≡ v = cc in
          sym (same_place q tie) ∙ ap (λ (x : K × V). place x.0) same
      own_by q v false tie at = holds.own q v (sym (elsewhere q tie) ∙ at)

      -- where a row is put at the place of a key, memory has its value under the key
      pub holds_put : HoldsAt cmp place n (put_under is_key value has)
      holds_put = record {
        ordered = ordered;
        found = λ k. found_by k (is_key k) refl;
        own = λ q v. own_by q v (is_eq (cmp (place key) q)) refl;
      }

-- ---- what numbers of 64 bits hold

module _ (sales : List Sale) (s : Sale) (small : IsOfWords s) (few : length sales < 2 ^ 32) (all : All IsOfWords sales) where
  tenths_in_words : sum_by (λ t. t.tenths) sales ≤ length sales * 4294967295
  tenths_in_words = sum_by-le (λ (t : Sale). t.tenths) 4294967295 sales
      (All-weaker IsOfWords (λ t. t.tenths ≤ 4294967295) (λ t is. omega (arith, is.0)) sales all)

  cash_in_words : cash_of sales ≤ length sales * 4294967295
  cash_in_words = sum_by-le (λ (t : Sale). t.price) 4294967295 sales (All-weaker IsOfWords (λ t. t.price ≤ 4294967295) (λ t is. omega (arith, is.1)) sales all)

  -- the sum of the month with the new sale fits in 64 bits
  pub month_in_words : month_sum sales s < 2 ^ 64
  month_in_words = omega (arith, month_within sales s, sum_by_push (λ (t : Sale). t.tenths) sales s, tenths_in_words, small.0, few)

  -- the totals of the shift with the new sale fit in 64 bits each
  pub shift_in_words : IsInWords (shift_sum sales s)
  shift_in_words =
      let within = shift_within sales s in (
        omega (arith, within.0, length-append sales (s ∷ []), few),
        omega (arith, within.1, sum_by_push (λ (t : Sale). t.tenths) sales s, tenths_in_words, small.0, few),
        omega (arith, within.2, sum_by_push (λ (t : Sale). t.price) sales s, cash_in_words, small.1, few),
      )

-- what is gathered with a sale more
module _ (sales : List Sale) (s : Sale) (g h : Gathered) (held : IsGathered sales g) where
  abbrev ids_of : (List ℕ × Base) → Option ℕ
  ids_of key = greatest_of (map (λ t. t.tid) (sales_under sales key))

  abbrev months_of : (List ℕ × ℕ) → Option ℕ
  months_of key = tenths_of (sales_in_month sales key)

  abbrev shifts_of : ℕ → Option Totals
  shifts_of shift = totals_of (sales_in_shift sales shift)

  -- where the rows of a new sale are put, memory has the totals of the sales with it
  pub gathered_more : IsOfWords s
      → HoldsAt key_cmp base_place h.last_ids (put_under (is_under (s.meter, s.base)) (max (unwrap_or (ids_of (s.meter, s.base)) 0) s.tid) ids_of)
      → HoldsAt key_cmp (own_place {K = List ℕ × ℕ}) h.month_tenths (put_under (is_in_month (s.meter, month_at s.moment)) (month_sum sales s) months_of)
      → HoldsAt nat_cmp (own_place {K = ℕ}) h.shift_totals (put_under (λ n. n == s.shift) (shift_sum sales s) shifts_of)
      → IsGathered (sales ++ s ∷ []) h
  gathered_more small ids months shifts = record {
    last_ids = holds_same key_cmp key_total key_exact base_place h.last_ids _
        (λ key. greatest_of (map (λ t. t.tid) (sales_under (sales ++ s ∷ []) key)))
        (last_more sales s (max (unwrap_or (ids_of (s.meter, s.base)) 0) s.tid) (last_with sales s)) ids;
    month_tenths = holds_same key_cmp key_total key_exact (own_place {K = List ℕ × ℕ}) h.month_tenths _
        (λ key. tenths_of (sales_in_month (sales ++ s ∷ []) key)) (month_more sales s) months;
    shift_totals = holds_same nat_cmp nat_cmp_total exact_unsigned (own_place {K = ℕ}) h.shift_totals _
        (λ shift. totals_of (sales_in_shift (sales ++ s ∷ []) shift)) (shift_more sales s) shifts;
    small = All-push IsOfWords sales s held.small small;
  }
