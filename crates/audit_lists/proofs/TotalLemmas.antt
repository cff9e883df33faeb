-- Rows that keep the rules of the running totals are those of the sales, and those of the sales keep
-- them.
use Rattle.std.proofs.Common.{◌≡◌, ◌≢◌, ◌<◌, ◌<ℤ◌, ◌↔◌, ◌⊎◌, ◌∙◌, ℕ, zero, suc, pos, Bool, true, false, cond, filter, List, [], ◌∷◌, ◌++◌, map, Option, None, Some, slice_get, max, unwrap_or, inl, inr, is_lt, refl, sym, ap, subst, add-one, arith, IsSorted}
use Rattle.std.specs.Prelude.{◌==◌, AllPairs, Contains, is_some}
use Rattle.std.proofs.lemmas.Bool.{cases_lt, false≢true}
use Rattle.std.proofs.lemmas.Int.{ints}
use Rattle.std.proofs.lemmas.Option.{none-some, same_Some}
use Rattle.sqlite.specs.Order.{column}
use Rattle.sqlite_keyed.specs.Keyed.{IsKeyedBy}
use Rattle.sqlite_keyed.proofs.KeyedLemmas.{Less-from_lt}
use Rattle.sqlite_keyed.proofs.ListLemmas.{all_weaker}
use Rattle.sqlite_value.specs.Order.{value_cmp}
use Rattle.sqlite_value.specs.declared.value.Value.TheVariants.{Int}
use Rattle.sqlite_value.proofs.OrderLemmas.{value_cmp-Int}
use Rattle.sts_fields.specs.Base.{year_of}
use Rattle.sts_fields.specs.Calendar.{month_at}
use Rattle.sts_fields.specs.declared.base.Base.{Base}
use Rattle.office_rules.specs.Office.Lookup.{greatest_of}
use Rattle.office_rules.specs.declared.office.sale.Sale.{Sale}
use Rattle.book_tables.specs.Stands.{AreRowsOf, AreTotalsOf, sales_in_month, sales_in_shift, sales_under, tenths_of, totals_of}
use Rattle.book_tables.specs.row.Rows.{totals_columns}
use Rattle.book_tables.specs.writing.Writing.{is_in_month, is_under}
use Rattle.book_tables.specs.declared.row.totals.Totals.{Totals}
use Rattle.book_tables.proofs.RowLemmas.RecordLemmas.{one_base}
use Rattle.book_tables.proofs.RowsOfLemmas.{same_pair}
use Rattle.book_tables.proofs.SalesOfLemmas.{tells_month, tells_number, tells_under}
use Rattle.audit_rows.specs.Entries.{last_id_entry, month_entry, rows_of, totals_entry}
use Rattle.audit_rows.specs.declared.finding.RowKey.{RowKey}
use Rattle.audit_rows.specs.declared.finding.RowKey.TheVariants as key
use Rattle.audit_rows.specs.declared.office_rows.OfficeRows.{OfficeRows}
use Rattle.audit_rows.specs.declared.table_name.TableName.{TableName}
use Rattle.audit_rows.specs.declared.table_name.TableName.TheVariants as table
use Rattle.audit_lists.specs.Keys.{Key}
use Rattle.audit_lists.specs.Ties.{AreKept, Tie, listed}
use Rattle.audit_lists.specs.totals.Rules.{last_id_asked, last_id_rules, month_asked, month_tenths_rules, shift_asked, shift_totals_rules, sum_rules, total_rules}
use Rattle.audit_lists.proofs.TieLemmas.{kept_both, kept_parts}
use Rattle.audit_lists.proofs.ListLemmas.{at_pairs, contains_map, map_at, map_contains, pairs_map}

-- ---- what passes a test

module _ {X : Type 0} (p : X → Bool) where
  abbrev PassesAt : List X → Type 0
  PassesAt xs = (i : ℕ) × (x : X) × (slice_get xs i ≡ Some x) × (p x ≡ true)

  -- nothing does, or one at some place
  some_passes : (xs : List X) → (filter p xs ≡ []) ⊎ PassesAt xs
  some_passes [] = inl refl
  some_passes (x ∷ xs) = by (p x) refl (some_passes xs)
    where
      by : (b : Bool) → p x ≡ b → (filter p xs ≡ []) ⊎ PassesAt xs → (cond b (x ∷ filter p xs) (filter p xs) ≡ []) ⊎ PassesAt (x ∷ xs)
      by true is rest = inr (zero, x, refl, is)
      by false is (inl none) = inl none
      by false is (inr (i, y, there, passes)) = inr (suc i, y, there, passes)

  -- where one does, something is left
  left : (xs : List X) (i : ℕ) (x : X) → slice_get xs i ≡ Some x → p x ≡ true → (y : X) × (ys : List X) × (filter p xs ≡ y ∷ ys)
  left [] i x there passes = absurd (none-some x there)
  left (y ∷ ys) zero x there passes = (y, filter p ys, ap (λ b. cond b (y ∷ filter p ys) (filter p ys)) (ap p (same_Some y x there) ∙ passes))
  left (y ∷ ys) (suc i) x there passes = by (p y) (left ys i x there passes)
    where
      by : (b : Bool) → (z : X) × (zs : List X) × (filter p ys ≡ z ∷ zs) → (z : X) × (zs : List X) × (cond b (y ∷ filter p ys) (filter p ys) ≡ z ∷ zs)
      by true rest = (y, filter p ys, refl)
      by false rest = rest

-- ---- one table: what is found of the sales under a key, and the rows that tell it

module _ {K V : Type 0} (is_key : K → K → Bool) (tells : (key k : K) → (is_key key k ≡ true) ↔ (k ≡ key)) (key_of : Sale → K)
    (found : List Sale → Option V) (none : found [] ≡ None) (some : (s : Sale) (more : List Sale) → (v : V) × (found (s ∷ more) ≡ Some v))
    (sales : List Sale) where
  -- what is kept under a key: what is found of the sales that have it
  abbrev pub has : K → Option V
  has key = found (filter (λ s. is_key key (key_of s)) sales)

  -- a key that has something is that of a sale
  sale_of : (key : K) (v : V) → has key ≡ Some v → (i : ℕ) × (s : Sale) × (slice_get sales i ≡ Some s) × (key_of s ≡ key)
  sale_of key v is = elim (some_passes (λ s. is_key key (key_of s)) sales) [
    | inl empty ↦ absurd (none-some v (sym none ∙ ap found (sym empty) ∙ is))
    | inr (i, s, there, passes) ↦ (i, s, there, (tells key (key_of s)).0 passes)
  ]

  -- and that of a sale has something
  pub value_of : (i : ℕ) (s : Sale) → slice_get sales i ≡ Some s → (v : V) × (has (key_of s) ≡ Some v)
  value_of i s there =
      let rest = left (λ t. is_key (key_of s) (key_of t)) sales i s there ((tells (key_of s) (key_of s)).1 refl) in
      let value = some rest.0 rest.1 in
      (value.0, ap found rest.2 ∙ value.1)

  module _ (place : K → Key) (one : (a b : K) → place a ≡ place b → a ≡ b) {T : Type 0} (entry : T → K × V)
      (table : TableName) (name : T → RowKey) (asked : Sale → RowKey) (rows : List T) where
    abbrev Keep : Type 0
    Keep =
        AreKept (sum_rules (listed table name rows) (λ r. place (entry r).0) asked (λ s. place (key_of s)) sales (λ r. has (entry r).0) (λ r. (entry r).1))

    kept_are : Keep → AreRowsOf (map entry rows) has
    kept_are (once, (_, (told, (asks, _)))) = record {
      members = λ key v. (
        λ is.
            let s = sale_of key v is in
            let row = asks s.0 s.1 s.2 in
            let same : (entry row.1.0).0 ≡ key = one (entry row.1.0).0 key (row.1.2 ∙ ap place s.3) in
            let value : (entry row.1.0).1 ≡ v = same_Some (entry row.1.0).1 v (sym (told row.0 row.1.0 row.1.1) ∙ ap has same ∙ is) in
            subst (Contains (map entry rows)) (sym (same_pair key v (entry row.1.0) same value)) (contains_map entry rows row.0 row.1.0 row.1.1),
        λ there.
            let row = map_contains entry rows (key, v) there in
            subst (λ (e : K × V). has e.0 ≡ Some e.1) row.3 (told row.0 row.1 row.2),
      );
      once = pairs_map (λ a b. a.0 ≢ b.0) entry rows (λ i j a b below there_a there_b same. once j b there_b i below (a, there_a, ap place same));
    }

    are_kept : AreRowsOf (map entry rows) has → Keep
    are_kept are =
        let told = λ (i : ℕ) (r : T) (there : slice_get rows i ≡ Some r). (are.members (entry r).0 (entry r).1).1 (contains_map entry rows i r there) in (
          λ j b there_b i below row.
              at_pairs (λ (x y : K × V). x.0 ≢ y.0) (map entry rows) are.once i j (entry row.0) (entry b) below
              (map_at entry rows i row.0 row.1) (map_at entry rows j b there_b) (one (entry row.0).0 (entry b).0 row.2),
          (
            λ i r there. ap is_some (told i r there),
            (
              told,
              (
                λ i s there.
                    let value = value_of i s there in
                    let row = map_contains entry rows (key_of s, value.0) ((are.members (key_of s) value.0).0 value.1) in
                    (row.0, (row.1, row.2, ap (λ (e : K × V). place e.0) row.3)),
                tt,
              ),
            ),
          ),
        )

    -- the rows keep the rules exactly if they are those of what is kept under each key
    pub rows_are : Keep ↔ AreRowsOf (map entry rows) has
    rows_are = (kept_are, are_kept)

-- ---- the rows of shifts, which come by their numbers

-- numbers that do not fall and differ rise
above : (a b : ℕ) → is_lt (value_cmp (Int (pos b)) (Int (pos a))) ≡ false → a ≢ b → pos a <ℤ pos b
above a b upto other = elim (cases_lt b a) [
  | inl below ↦ absurd (false≢true (sym upto ∙ ap is_lt (value_cmp-Int (pos b) (pos a) ∙ Less-from_lt (pos b) (pos a) (grind (arith, ints, below)))))
  | inr least ↦ let below : a < b = omega (arith, least, other) in grind (arith, ints, below)
]

-- they are listed by their first columns, which are the numbers
abbrev pub AreListed : List (ℕ × Totals) → Type 0
AreListed rows = IsSorted (λ x y. value_cmp (column x 0) (column y 0)) (map totals_columns rows)

rising : (rows : List (ℕ × Totals)) → AreListed rows → AllPairs (λ a b. a.0 ≢ b.0) rows → IsKeyedBy (λ r. pos r.0) rows
rising [] sorted once = tt
rising (r ∷ []) sorted once = (tt, tt)
rising (r ∷ s ∷ rows) sorted once =
    let first : pos r.0 <ℤ pos s.0 = above r.0 s.0 (sorted 0 [] (omega arith) (omega arith)) (once 0 1 r (omega arith) (omega arith)) in
    let rest =
    rising (s ∷ rows) (λ k d low within. rw add-one (rw add-one at (sorted (suc k) d (omega arith) (omega arith))))
    (λ i j d below within. once (suc i) (suc j) d (omega (arith, below)) (omega (arith, within))) in
    ((first, all_weaker _ (λ (t : ℕ × Totals). pos r.0 <ℤ pos t.0) (λ t next. grind (arith, ints, first, next)) rows rest.0), rest)

-- ---- the three tables

-- the meter and the base of a sale, under which its last identifier is kept
abbrev pub base_of : Sale → List ℕ × Base
base_of s = (s.meter, s.base)

-- the meter and the month of a sale, under which its tenths are added up
abbrev pub month_of : Sale → List ℕ × ℕ
month_of s = (s.meter, month_at s.moment)

-- the greatest identifier of some sales
abbrev pub greatest : List Sale → Option ℕ
greatest sales = greatest_of (map (λ s. s.tid) sales)

-- where there is a sale, there is a greatest identifier
pub some_id : (s : Sale) (more : List Sale) → (v : ℕ) × (greatest (s ∷ more) ≡ Some v)
some_id s more = (max s.tid (unwrap_or (greatest_of (map (λ (t : Sale). t.tid) more)) 0), refl)

abbrev base_place : List ℕ × Base → Key
base_place k = (k.0, [], year_of k.1, 0)

abbrev month_place : List ℕ × ℕ → Key
month_place k = (k.0, [], k.1, 0)

abbrev shift_place : ℕ → Key
shift_place k = ([], [], k, 0)

one_place : (a b : List ℕ × Base) → base_place a ≡ base_place b → a ≡ b
one_place a b same =
    let number : a.0 ≡ b.0 = ap (λ (q : Key). q.0) same in
    let base : a.1 ≡ b.1 = one_base a.1 b.1 (ap (λ (q : Key). q.2) same) in
    let both : (a.0, a.1) ≡ (b.0, b.1) = cc in
    both

module _ (r : OfficeRows) where
  abbrev last_ids : List Tie
  last_ids = last_id_rules r.sales.items r.last_ids.items

  abbrev month_tenths : List Tie
  month_tenths = month_tenths_rules r.sales.items r.month_tenths.items

  abbrev shift_totals : List Tie
  shift_totals = shift_totals_rules r.sales.items r.shift_totals.items

  ids : AreKept last_ids ↔ AreRowsOf (rows_of r).last_ids (λ key. greatest (sales_under r.sales.items key))
  ids =
      rows_are is_under tells_under base_of greatest refl some_id r.sales.items base_place one_place last_id_entry
      table.LastIds (λ l. key.Base l.meter l.base) last_id_asked r.last_ids.items

  months : AreKept month_tenths ↔ AreRowsOf (rows_of r).month_tenths (λ key. tenths_of (sales_in_month r.sales.items key))
  months =
      rows_are is_in_month tells_month month_of tenths_of refl (λ s more. (_, refl)) r.sales.items month_place (λ a b same. ap (λ (q : Key). (q.0, q.2)) same)
      month_entry table.MonthTenths (λ l. key.Month l.meter l.month) month_asked r.month_tenths.items

  shifts : AreKept shift_totals ↔ AreRowsOf (rows_of r).shift_totals (λ shift. totals_of (sales_in_shift r.sales.items shift))
  shifts =
      rows_are (λ n k. k == n) tells_number (λ s. s.shift) totals_of refl (λ s more. (_, refl)) r.sales.items shift_place
      (λ a b same. ap (λ (q : Key). q.2) same)
      totals_entry table.ShiftTotals (λ l. key.Number l.shift) shift_asked r.shift_totals.items

  -- the rows are the totals of the sales, where those of shifts come by their numbers
  pub totals_are : AreKept (total_rules r) → AreListed (rows_of r).shift_totals → AreTotalsOf r.sales.items (rows_of r)
  totals_are kept sorted =
      let first = kept_parts last_ids (month_tenths ++ shift_totals) kept in
      let rest = kept_parts month_tenths shift_totals first.1 in
      let by_shift = shifts.0 rest.1 in
      let up = rising (rows_of r).shift_totals sorted by_shift.once in
      record { last_ids = ids.0 first.0; month_tenths = months.0 rest.0; shift_totals = by_shift; by_shift = up }

  -- the totals of the sales keep the rules
  pub totals_keep : AreTotalsOf r.sales.items (rows_of r) → AreKept (total_rules r)
  totals_keep are =
      kept_both last_ids (month_tenths ++ shift_totals) (ids.1 are.last_ids)
      (kept_both month_tenths shift_totals (months.1 are.month_tenths) (shifts.1 are.shift_totals))
