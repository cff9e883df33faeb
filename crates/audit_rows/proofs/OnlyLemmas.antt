-- The rows of the tables of an office are its members, in whatever order.
use Rattle.std.proofs.Common.{IsPermutation, List, Option, [], ap, arith, false, get_or, inl, inr, length, map, pos, refl, set, subst, sym, true, ℕ, ◌<◌, ◌∙◌, ◌∷◌, ◌≡◌, ◌≢◌, ◌≤◌, ◌⊎◌}
use Rattle.std.specs.Prelude.{All, AllPairs, Contains, ⊤, ◌↔◌}
use Rattle.std.specs.List.{swap}
use Rattle.std.proofs.lemmas.Bool.{cases_eq, cases_lt, le-leb}
use Rattle.std.proofs.lemmas.List.{get_or-set_other, get_or-set_same, length-set}
use Rattle.std.proofs.lemmas.List.Edits.{length-swap, swap_is}
use Rattle.std.proofs.lemmas.List.Sorted.{All-permutation, Contains-permutation, IsPermutation-keeps, IsPermutation-map, IsPermutation-refl, IsPermutation-sym}
use Rattle.sqlite_keyed.specs.Keyed.{IsKeyedBy}
use Rattle.sts_fields.specs.declared.base.Base.{Base}
use Rattle.office_rules.specs.Office.{IsOffice, Office}
use Rattle.office_rules.specs.declared.office.meter.Meter.{Meter}
use Rattle.book_tables.specs.row.Rows.{DatedStepRow, Rows, base_columns, dated_columns, keyed, last_id_columns, meter_columns, month_columns, number, sale_columns, shift_columns, step_columns, tariff_columns, totals_columns}
use Rattle.book_tables.specs.Stands.{AreApart, AreDatedApart, AreMembersOf, AreRowsOf, sales_in_shift, totals_of}
use Rattle.book_tables.specs.declared.row.totals.Totals.{Totals}
use Rattle.audit_rows.specs.AllRows.{HasAllRows, HasRowsOf, KeepRules, with_totals}
use Rattle.std.proofs.lemmas.Cmp.{on_total}
use Rattle.std.proofs.lemmas.List.Elements.{All-head, All-tail}
use Rattle.sqlite.specs.Effect.{Database}
use Rattle.sqlite.specs.Order.{Row, column}
use Rattle.sqlite_keyed.proofs.SortLemmas.{sorted_unique}
use Rattle.sqlite_trees.proofs.ListLemmas.{pull_back}
use Rattle.sqlite_value.specs.Order.{value_cmp}
use Rattle.sqlite_value.specs.declared.value.Value.{Value}
use Rattle.sqlite_value.proofs.OrderLemmas.{value_cmp_total}
use Rattle.office_rules.proofs.OfficeLemmas.MapLemmas.{all_from_contains}
use Rattle.office_rules.specs.declared.office.sale.Sale.{Sale}
use Rattle.office_rules.specs.declared.office.shift.Shift.{Shift}
use Rattle.book_tables.specs.Holds.{AreStoredRows, HoldsOf, HoldsRows, rows_in}
use Rattle.book_tables.specs.Kept.{Kept, bases_kept, dated_steps_kept, kept, last_ids_kept, meters_kept, month_tenths_kept, sales_kept, shift_totals_kept, shifts_kept, steps_kept, tariffs_kept}
use Rattle.book_tables.specs.row.Values.{IsKey}
use Rattle.book_tables.proofs.HoldsLemmas.{of_upto}
use Rattle.book_tables.proofs.ReadingLemmas.LastLemmas.{numbers_rise}
use Rattle.book_tables.proofs.RowLemmas.RecordLemmas.{one_base, one_base_row, one_dated, one_meter, one_shown_sale, one_shown_shift, one_step, one_tariff}
use Rattle.audit_rows.specs.Whole.{all_columns, columns_of}
use Rattle.audit_rows.proofs.ByNumberLemmas.{rise_keyed}
use Rattle.audit_rows.proofs.TrueLemmas.{columns_hidden, columns_numbered}
use Rattle.audit_rows.proofs.TableLemmas.{at}
use Rattle.audit_rows.specs.Tables.{kept_of}
use Rattle.audit_rows.specs.declared.table_name.TableName.{TableName}
use Rattle.audit_rows.specs.declared.table_name.TableName.TheVariants as table

-- the same rows, those of the tables without numbers of their own in another order
pub record AreReordered (a b : Rows) : Type 0 where
  pub tariffs : IsPermutation a.tariffs b.tariffs
  pub steps : IsPermutation a.steps b.steps
  pub meters : IsPermutation a.meters b.meters
  pub shifts : a.shifts ≡ b.shifts
  pub sales : a.sales ≡ b.sales
  pub last_ids : IsPermutation a.last_ids b.last_ids
  pub month_tenths : IsPermutation a.month_tenths b.month_tenths
  pub shift_totals : a.shift_totals ≡ b.shift_totals
  pub bases : IsPermutation a.bases b.bases
  pub dated_steps : IsPermutation a.dated_steps b.dated_steps

-- ---- pairs in another order

module _ {X : Type 0} (R : X → X → Type 0) (turn : (x y : X) → R x y → R y x) where
  -- of any two places
  abbrev Apart : List X → Type 0
  Apart xs = (i j : ℕ) (d : X) → (i ≡ j → ⊥) → i < length xs → j < length xs → R (get_or xs i d) (get_or xs j d)

  apart_from_pairs : (xs : List X) → AllPairs R xs → Apart xs
  apart_from_pairs xs pairs i j d other i_in j_in = elim (cases_lt i j) [
    | inl below ↦ pairs i j d below j_in
    | inr least ↦ turn (get_or xs j d) (get_or xs i d) (pairs j i d (omega (arith, least, other)) i_in)
  ]

  pairs_from_apart : (xs : List X) → Apart xs → AllPairs R xs
  pairs_from_apart xs apart i j d below j_in = apart i j d (λ same. omega (arith, same, below)) (omega (arith, below, j_in)) j_in

  module _ (xs : List X) (a b : ℕ) (a_in : a < length xs) (b_in : b < length xs) where
    exchanged : (m : ℕ) (d : X) → get_or (swap xs a b) m d ≡ get_or (set (set xs a (get_or xs b d)) b (get_or xs a d)) m d
    exchanged m d = ap (λ (l : List X). get_or l m d) (sym (swap_is xs a b d a_in b_in))

    at_second : (d : X) → get_or (swap xs a b) b d ≡ get_or xs a d
    at_second d = exchanged b d ∙ get_or-set_same (set xs a (get_or xs b d)) b (get_or xs a d) d (omega (arith, length-set xs a (get_or xs b d), b_in))

    at_other : (m : ℕ) (d : X) → (m ≡ a → ⊥) → (m ≡ b → ⊥) → get_or (swap xs a b) m d ≡ get_or xs m d
    at_other m d not_a not_b = exchanged m d ∙ get_or-set_other (set xs a (get_or xs b d)) b m (get_or xs a d) d not_b
        ∙ get_or-set_other xs a m (get_or xs b d) d not_a

    at_first : (d : X) → (a ≡ b → ⊥) → get_or (swap xs a b) a d ≡ get_or xs b d
    at_first d other = exchanged a d ∙ get_or-set_other (set xs a (get_or xs b d)) b a (get_or xs a d) d other ∙ get_or-set_same xs a (get_or xs b d) d a_in

    -- where an element of the exchanged list stood
    pub record Stood (m : ℕ) (d : X) : Type 0 where
      pub place : ℕ
      pub low : place < length xs
      pub is : get_or (swap xs a b) m d ≡ get_or xs place d
      pub how : ((m ≡ a) × (place ≡ b)) ⊎ (((m ≡ b) × (place ≡ a)) ⊎ ((m ≡ place) × ((m ≡ a → ⊥) × (m ≡ b → ⊥))))

    stood : (m : ℕ) (d : X) → m < length xs → Stood m d
    stood m d low = elim (cases_eq m b) [
      | inl at_b ↦ record { place = a; low = a_in; is = ap (λ (k : ℕ). get_or (swap xs a b) k d) at_b ∙ at_second d; how = inr (inl (at_b, refl)) }
      | inr not_b ↦ elim (cases_eq m a) [
        | inl at_a ↦ record {
          place = b;
          low = b_in;
          is = ap (λ (k : ℕ). get_or (swap xs a b) k d) at_a
              ∙ at_first d (λ same. not_b (at_a ∙ same));
          how = inl (at_a, refl);
        }
        | inr not_a ↦ record { place = m; low = low; is = at_other m d not_a not_b; how = inr (inr (refl, (not_a, not_b))) }
      ]
    ]

    exchanged_apart : Apart xs → Apart (swap xs a b)
    exchanged_apart apart i j d other i_in j_in =
        let long = length-swap xs a b in
        let x = stood i d (omega (arith, i_in, long)) in
        let y = stood j d (omega (arith, j_in, long)) in
        subst (λ (e : X). R e (get_or (swap xs a b) j d)) (sym x.is)
        (subst (λ (e : X). R (get_or xs x.place d) e) (sym y.is)
        (apart x.place y.place d (λ same. still x.place y.place x.how y.how same) x.low y.low))
      where
        still : (p q : ℕ) → ((i ≡ a) × (p ≡ b)) ⊎ (((i ≡ b) × (p ≡ a)) ⊎ ((i ≡ p) × ((i ≡ a → ⊥) × (i ≡ b → ⊥))))
            → ((j ≡ a) × (q ≡ b)) ⊎ (((j ≡ b) × (q ≡ a)) ⊎ ((j ≡ q) × ((j ≡ a → ⊥) × (j ≡ b → ⊥)))) → p ≡ q → ⊥
        still p q (inl (i_is, p_is)) (inl (j_is, q_is)) same = other (i_is ∙ sym j_is)
        still p q (inl (i_is, p_is)) (inr (inl (j_is, q_is))) same = other (i_is ∙ sym q_is ∙ sym same ∙ p_is ∙ sym j_is)
        still p q (inl (i_is, p_is)) (inr (inr (j_is, (not_a, not_b)))) same = not_b (j_is ∙ sym same ∙ p_is)
        still p q (inr (inl (i_is, p_is))) (inl (j_is, q_is)) same = other (i_is ∙ sym q_is ∙ sym same ∙ p_is ∙ sym j_is)
        still p q (inr (inl (i_is, p_is))) (inr (inl (j_is, q_is))) same = other (i_is ∙ sym j_is)
        still p q (inr (inl (i_is, p_is))) (inr (inr (j_is, (not_a, not_b)))) same = not_a (j_is ∙ sym same ∙ p_is)
        still p q (inr (inr (i_is, (not_a, not_b)))) (inl (j_is, q_is)) same = not_b (i_is ∙ same ∙ q_is)
        still p q (inr (inr (i_is, (not_a, not_b)))) (inr (inl (j_is, q_is))) same = not_a (i_is ∙ same ∙ q_is)
        still p q (inr (inr (i_is, from))) (inr (inr (j_is, from_j))) same = other (i_is ∙ same ∙ sym j_is)

  -- what holds of all pairs of a list, either way round, holds of those in another order
  pub pairs_reordered : (xs ys : List X) → IsPermutation xs ys → AllPairs R xs → AllPairs R ys
  pairs_reordered xs ys same pairs = pairs_from_apart ys
      (IsPermutation-keeps xs Apart (apart_from_pairs xs pairs) (λ l i j i_in j_in apart. exchanged_apart l i j i_in j_in apart) ys same)

-- ---- members

-- what is so exactly of the elements of a list is so of those of the list in another order
there_too : {X : Type 0} {A : Type 0} (xs ys : List X) (x : X) → IsPermutation xs ys → A ↔ Contains xs x → A ↔ Contains ys x
there_too xs ys x same is = (λ a. Contains-permutation xs ys x same (is.0 a), λ there. is.1 (Contains-permutation ys xs x (IsPermutation-sym xs ys same) there))

apart_turned : {K V : Type 0} (a b : K × V) → a.0 ≢ b.0 → b.0 ≢ a.0
apart_turned a b other same = other (sym same)

-- rows of what is had under keys are those of it in another order too
pub rows_of_reordered : {K V : Type 0} (has : K → Option V) (xs ys : List (K × V)) → IsPermutation xs ys → AreRowsOf xs has → AreRowsOf ys has
rows_of_reordered {K} {V} has xs ys same are = record {
  members = λ key value. there_too xs ys (key, value) same (are.members key value);
  once = pairs_reordered (λ (a b : K × V). a.0 ≢ b.0) apart_turned xs ys same are.once;
}

-- rows of an office's members are those of them in another order too
pub members_reordered : (a b : Rows) (o : Office) → AreReordered a b → AreMembersOf a o → AreMembersOf b o
members_reordered a b o same are = record {
  tariffs = λ name. there_too a.tariffs b.tariffs name same.tariffs (are.tariffs name);
  steps = λ r. there_too a.steps b.steps r same.steps (are.steps r);
  meters = λ number m. there_too a.meters b.meters (number, m) same.meters (are.meters number m);
  bases = λ number base. there_too a.bases b.bases (number, base) same.bases (are.bases number base);
  dated_steps = λ r. there_too a.dated_steps b.dated_steps r same.dated_steps (are.dated_steps r);
  shifts = sym same.shifts ∙ are.shifts;
  sales = sym same.sales ∙ are.sales;
  totals = record {
    last_ids = rows_of_reordered _ a.last_ids b.last_ids same.last_ids are.totals.last_ids;
    month_tenths = rows_of_reordered _ a.month_tenths b.month_tenths same.month_tenths are.totals.month_tenths;
    shift_totals = subst (λ (l : List (ℕ × Totals)). AreRowsOf l (λ shift. totals_of (sales_in_shift o.sales shift))) same.shift_totals are.totals.shift_totals;
    by_shift = subst (IsKeyedBy (λ (r : ℕ × Totals). pos r.0)) same.shift_totals are.totals.by_shift;
  };
  tariffs_once = pairs_reordered (λ (x y : List ℕ). x ≢ y) (λ x y other is. other (sym is)) a.tariffs b.tariffs same.tariffs are.tariffs_once;
  steps_once = pairs_reordered AreApart (λ x y other tariff place. other (sym tariff) (sym place)) a.steps b.steps same.steps are.steps_once;
  meters_once = pairs_reordered (λ (x y : List ℕ × Meter). x.0 ≢ y.0) apart_turned a.meters b.meters same.meters are.meters_once;
  bases_once = pairs_reordered (λ (x y : List ℕ × Base). x ≢ y) (λ x y other is. other (sym is)) a.bases b.bases same.bases are.bases_once;
  dated_once = pairs_reordered AreDatedApart (λ x y other tariff day place. other (sym tariff) (sym day) (sym place)) a.dated_steps
      b.dated_steps same.dated_steps are.dated_once;
}

-- rows in another order are turned back into the order that they had
pub reordered_back : (a b : Rows) → AreReordered a b → AreReordered b a
reordered_back a b same = record {
  tariffs = IsPermutation-sym a.tariffs b.tariffs same.tariffs;
  steps = IsPermutation-sym a.steps b.steps same.steps;
  meters = IsPermutation-sym a.meters b.meters same.meters;
  shifts = sym same.shifts;
  sales = sym same.sales;
  last_ids = IsPermutation-sym a.last_ids b.last_ids same.last_ids;
  month_tenths = IsPermutation-sym a.month_tenths b.month_tenths same.month_tenths;
  shift_totals = sym same.shift_totals;
  bases = IsPermutation-sym a.bases b.bases same.bases;
  dated_steps = IsPermutation-sym a.dated_steps b.dated_steps same.dated_steps;
}

-- of values that are told by what is stored of those that pass, the list of what is stored tells
-- the list
one_list_of : {X Y : Type 0} (f : X → Y) (P : X → Type 0) → ((a b : X) → P a → P b → f a ≡ f b → a ≡ b) → (xs ys : List X) → All P xs
    → All P ys → map f xs ≡ map f ys → xs ≡ ys
one_list_of f P one [] [] p q e = refl
one_list_of f P one [] (y ∷ ys) p q e = cc
one_list_of f P one (x ∷ xs) [] p q e = cc
one_list_of f P one (x ∷ xs) (y ∷ ys) p q e =
    let head : f x ≡ f y = cc in
    let tail : map f xs ≡ map f ys = cc in
    let first = one x y (All-head P x xs p) (All-head P y ys q) head in
    let rest = one_list_of f P one xs ys (All-tail P x xs p) (All-tail P y ys q) tail in
    cc

module _ {X : Type 0} (k : Kept) (columns : X → Row) (P : X → Type 0) (one : (a b : X) → P a → P b → columns a ≡ columns b → a ≡ b) where
  hidden_only : ((v : Value) (x : X) → columns_of k (v ∷ columns x) ≡ columns x) → ((x : X) → columns x ≡ [] → ⊥)
      → (db : Database) (xs rs : List X) → All P xs → All P rs → HasRowsOf columns k db xs
      → AreStoredRows false (rows_in db k.table.name) (map columns rs) → IsPermutation xs rs
  hidden_only same some db xs rs keeps kept has held =
      let back = pull_back columns (map columns xs) (all_columns k db) has.same xs refl in
      let are : all_columns k db ≡ map columns rs = columns_hidden k columns same some (rows_in db k.table.name) rs held.0 in
      let is : back.0 ≡ rs = one_list_of columns P one back.0 rs (All-permutation P xs back.0 back.1 keeps) kept (sym back.2 ∙ are) in
      subst (λ (l : List X). IsPermutation xs l) is back.1

  numbered_only : k.is_numbered ≡ true → (number_of : X → ℕ) → ((x : X) → column (columns x) 0 ≡ number (number_of x))
      → ((x : X) → columns_of k (keyed (columns x)) ≡ columns x) → (db : Database) (xs rs : List X) → All P xs → All P rs
      → HasRowsOf columns k db xs → IsKeyedBy (λ x. pos (number_of x)) rs
      → rows_in db k.table.name ≡ map (λ x. keyed (columns x)) rs → xs ≡ rs
  numbered_only is_numbered number_of numbered_by same db xs rs keeps kept has up held =
      let are : all_columns k db ≡ map columns rs = columns_numbered k (λ x. keyed (columns x)) columns same (rows_in db k.table.name) rs held in
      let back : IsPermutation (map columns rs) (map columns xs) =
      IsPermutation-sym (map columns xs) (map columns rs) (subst (λ (l : List Row). IsPermutation (map columns xs) l) are has.same) in
      one_list_of columns P one xs rs keeps kept (sorted_unique (λ (a b : Row). value_cmp (column a 0) (column b 0))
      (on_total (λ (r : Row). column r 0) value_cmp_total) (map columns rs) (map columns xs)
      (rise_keyed k columns number_of numbered_by rs up) back (has.rises is_numbered))

abbrev present_base : List ℕ × Meter → List ℕ × Base
present_base r = (r.0, r.1.base)

any : {X : Type 0} (xs : List X) → All (λ _. ⊤) xs
any xs = λ i d low. tt

one_last : (a b : (List ℕ × Base) × ℕ) → last_id_columns a ≡ last_id_columns b → a ≡ b
one_last a b e =
    let base : a.0.1 ≡ b.0.1 = one_base a.0.1 b.0.1 (cc) in
    let same : ((a.0.0, a.0.1), a.1) ≡ ((b.0.0, b.0.1), b.1) = cc in
    same

one_month : (a b : (List ℕ × ℕ) × ℕ) → month_columns a ≡ month_columns b → a ≡ b
one_month a b e =
    let same : ((a.0.0, a.0.1), a.1) ≡ ((b.0.0, b.0.1), b.1) = cc in
    same

one_totals : (a b : ℕ × Totals) → totals_columns a ≡ totals_columns b → a ≡ b
one_totals a b e =
    let A : Totals = record { sales = a.1.sales; tenths = a.1.tenths; cash = a.1.cash } in
    let B : Totals = record { sales = b.1.sales; tenths = b.1.tenths; cash = b.1.cash } in
    let same : (a.0, A) ≡ (b.0, B) = cc in
    same

one_sale : (a b : Sale) → sale_columns a ≡ sale_columns b → a ≡ b
one_sale a b e = one_shown_sale a b (cc)

one_key_meter : (a b : List ℕ × Meter) → IsKey a.1.key → IsKey b.1.key → meter_columns a ≡ meter_columns b → a ≡ b
one_key_meter a b small_a small_b e = one_meter a b small_a small_b e

module _ (n : ℕ) (some : 1 ≤ n) (db : Database) (rows : Rows) (read : HasAllRows n db rows) (keep : KeepRules rows) (o : Office)
    (office : IsOffice o) (r : Rows) (held : HoldsOf n n db r) (are : AreMembersOf r o) where
  holds : (t : TableName) → (kept_of t).since ≤ n → HoldsRows db n r (kept_of t)
  holds t come = of_upto (HoldsRows db n r) n (kept_of t) kept (at t) (le-leb (kept_of t).since n come) held.are

  tariffs : IsPermutation rows.tariffs r.tariffs
  tariffs = hidden_only tariffs_kept tariff_columns (λ _. ⊤) (λ a b _ _. one_tariff a b) (λ v x. refl) (λ x none. cc) db rows.tariffs
      r.tariffs (any rows.tariffs) (any r.tariffs) (read.tariffs some) (holds table.Tariffs some)

  steps : IsPermutation rows.steps r.steps
  steps = hidden_only steps_kept step_columns (λ _. ⊤) (λ a b _ _. one_step a b) (λ v x. refl) (λ x none. cc) db rows.steps r.steps
      (any rows.steps) (any r.steps) (read.steps some) (holds table.TariffSteps some)

  abbrev has_key : List ℕ × Meter → Type 0
  has_key m = IsKey m.1.key

  keys : All has_key r.meters
  keys = all_from_contains has_key r.meters (λ m there. (office.meters m.0 m.1 ((are.meters m.0 m.1).1 there)).key)

  meters : IsPermutation rows.meters r.meters
  meters = hidden_only meters_kept meter_columns has_key one_key_meter (λ v x. refl) (λ x none. cc) db rows.meters r.meters
      (λ i d low. (keep.meters i d low).1.key) keys (read.meters some) (holds table.Meters some)

  shifts : rows.shifts ≡ r.shifts
  shifts = numbered_only shifts_kept shift_columns (λ _. ⊤) (λ a b _ _. one_shown_shift a b) refl (λ (x : Shift). x.number) (λ x. refl)
      (λ x. refl) db rows.shifts r.shifts (any rows.shifts) (any r.shifts) (read.shifts some)
      (subst (IsKeyedBy (λ (x : Shift). pos x.number)) (sym are.shifts)
      (numbers_rise (λ (x : Shift). x.number) o.shifts office.shift_numbers)) (holds table.Shifts some)

  sales : rows.sales ≡ r.sales
  sales = numbered_only sales_kept sale_columns (λ _. ⊤) (λ a b _ _. one_sale a b) refl (λ (x : Sale). x.number) (λ x. refl) (λ x. refl) db
      rows.sales r.sales (any rows.sales) (any r.sales) (read.sales some)
      (subst (IsKeyedBy (λ (x : Sale). pos x.number)) (sym are.sales) (numbers_rise (λ (x : Sale). x.number) o.sales office.sale_numbers))
      (holds table.Sales some)

  last_ids : 2 ≤ n → IsPermutation rows.last_ids r.last_ids
  last_ids come = hidden_only last_ids_kept last_id_columns (λ _. ⊤) (λ a b _ _. one_last a b) (λ v x. refl) (λ x none. cc) db
      rows.last_ids r.last_ids (any rows.last_ids) (any r.last_ids) (read.last_ids come) (holds table.LastIds come)

  month_tenths : 2 ≤ n → IsPermutation rows.month_tenths r.month_tenths
  month_tenths come = hidden_only month_tenths_kept month_columns (λ _. ⊤) (λ a b _ _. one_month a b) (λ v x. refl) (λ x none. cc) db
      rows.month_tenths r.month_tenths (any rows.month_tenths) (any r.month_tenths) (read.month_tenths come) (holds table.MonthTenths come)

  shift_totals : 2 ≤ n → rows.shift_totals ≡ r.shift_totals
  shift_totals come = numbered_only shift_totals_kept totals_columns (λ _. ⊤) (λ a b _ _. one_totals a b) refl (λ (x : ℕ × Totals). x.0)
      (λ x. refl) (λ x. refl) db rows.shift_totals r.shift_totals (any rows.shift_totals) (any r.shift_totals) (read.shift_totals come)
      are.totals.by_shift (holds table.ShiftTotals come)

  bases : IsPermutation rows.bases r.bases
  bases = elim (cases_lt n 3) [
    | inl before ↦
        subst (λ (l : List (List ℕ × Base)). IsPermutation l r.bases) (sym (read.of_format.bases before))
        (subst (λ (l : List (List ℕ × Base)). IsPermutation (map present_base rows.meters) l) (sym (held.of_format.bases before))
        (IsPermutation-map present_base rows.meters r.meters meters))
    | inr come ↦ hidden_only bases_kept base_columns (λ _. ⊤) (λ a b _ _. one_base_row a b) (λ v x. refl) (λ x none. cc) db rows.bases
        r.bases (any rows.bases) (any r.bases) (read.bases come) (holds table.MeterBases come)
  ]

  dated_steps : IsPermutation rows.dated_steps r.dated_steps
  dated_steps = elim (cases_lt n 4) [
    | inl before ↦
        subst (λ (l : List DatedStepRow). IsPermutation l r.dated_steps) (sym (read.of_format.dated_steps before))
        (subst (IsPermutation []) (sym (held.of_format.dated_steps before)) (IsPermutation-refl []))
    | inr come ↦ hidden_only dated_steps_kept dated_columns (λ _. ⊤) (λ a b _ _. one_dated a b) (λ v x. refl) (λ x none. cc) db
        rows.dated_steps r.dated_steps (any rows.dated_steps) (any r.dated_steps) (read.dated_steps come) (holds table.DatedSteps come)
  ]

  -- with totals that are those of the office, in some order
  reordered_with : (totals : Rows) → IsPermutation totals.last_ids r.last_ids → IsPermutation totals.month_tenths r.month_tenths
      → totals.shift_totals ≡ r.shift_totals → AreReordered (with_totals rows totals) r
  reordered_with totals ids tenths by_shift = record {
    tariffs = tariffs;
    steps = steps;
    meters = meters;
    shifts = shifts;
    sales = sales;
    last_ids = ids;
    month_tenths = tenths;
    shift_totals = by_shift;
    bases = bases;
    dated_steps = dated_steps;
  }

  members_with : (totals : Rows) → AreReordered (with_totals rows totals) r → AreMembersOf (with_totals rows totals) o
  members_with totals same = members_reordered r (with_totals rows totals) o (reordered_back (with_totals rows totals) r same) are

  -- with the totals that the tables hold, the rows that were read are those of the office
  pub only_members : AreMembersOf (with_totals rows r) o
  only_members = members_with r (reordered_with r (IsPermutation-refl r.last_ids) (IsPermutation-refl r.month_tenths) refl)

  -- from the format with totals on, the rows that were read are the office's, totals too
  pub only_all : 2 ≤ n → AreMembersOf rows o
  only_all come = members_with rows (reordered_with rows (last_ids come) (month_tenths come) (shift_totals come))
