-- There are totals of whatever sales: those of none, with the sales one after another.
use Rattle.std.proofs.Common.{◌≡◌, ◌↔◌, ℕ, pos, Bool, true, List, [], ◌∷◌, ◌++◌, append-nil, append_assoc, Option, Some, None, refl, sym, subst}
use Rattle.std.specs.Prelude.{◌==◌}
use Rattle.std.proofs.lemmas.List.Elements.{Contains-push}
use Rattle.sqlite_keyed.specs.Keyed.{IsKeyedBy, insert_by}
use Rattle.sqlite_keyed.specs.Lists.{update_where}
use Rattle.sqlite_keyed.proofs.KeyedLemmas.{IsKeyedBy-update_where}
use Rattle.office_rules.specs.declared.office.sale.Sale.{Sale}
use Rattle.book_tables.specs.row.Rows.{Rows}
use Rattle.book_tables.specs.Stands.{AreRowsOf, AreTotalsOf, sales_in_month, sales_in_shift, sales_under, tenths_of, totals_of}
use Rattle.book_tables.specs.writing.Edited.{no_rows}
use Rattle.book_tables.specs.writing.Writing.{is_in_month, is_under, put_under}
use Rattle.book_tables.proofs.RowsOfLemmas.{rows_appended, rows_inserted, rows_of_same, rows_updated}
use Rattle.book_tables.proofs.SalesOfLemmas.{last_more, month_more, month_sum, shift_more, shift_sum, tells_month, tells_number, tells_under}
use Rattle.book_tables.proofs.WritingLemmas.EditLemmas.{no_totals}
use Rattle.audit_lists.proofs.ListLemmas.{at_contains}
use Rattle.audit_lists.proofs.TotalLemmas.{base_of, greatest, month_of, some_id, value_of}

-- ---- rows with a value under a key

module _ {K V : Type 0} (is_key : K → Bool) (key : K) (tells : (k : K) → (is_key k ≡ true) ↔ (k ≡ key))
    (rows : List (K × V)) (has : K → Option V) (are : AreRowsOf rows has) (value : V) where
  by_value : (there : Option V) → has key ≡ there → (rest : List (K × V)) × AreRowsOf rest (put_under is_key value has)
  by_value None none = (rows ++ (key, value) ∷ [], rows_appended is_key key tells rows has are value none)
  by_value (Some old) some = (update_where (λ r. is_key r.0) (λ r. (r.0, value)) rows, rows_updated is_key key tells rows has are old some (λ _. value))

  put_rows : (rest : List (K × V)) × AreRowsOf rest (put_under is_key value has)
  put_rows = by_value (has key) refl

-- by numbers
module _ {V : Type 0} (key : ℕ) (rows : List (ℕ × V)) (has : ℕ → Option V) (are : AreRowsOf rows has)
    (up : IsKeyedBy (λ (r : ℕ × V). pos r.0) rows) (value : V) where
  record IsPut : Type 0 where
    rest : List (ℕ × V)
    are_put : AreRowsOf rest (put_under (λ n. n == key) value has)
    in_order : IsKeyedBy (λ (r : ℕ × V). pos r.0) rest

  by_number : (there : Option V) → has key ≡ there → IsPut
  by_number None none =
      let put = rows_inserted (λ n. n == key) key (tells_number key) rows has are up value none in
      record { rest = insert_by (λ (r : ℕ × V). pos r.0) rows (key, value); are_put = put.0; in_order = put.1 }
  by_number (Some old) some = record {
    rest = update_where (λ r. r.0 == key) (λ r. (r.0, value)) rows;
    are_put = rows_updated (λ n. n == key) key (tells_number key) rows has are old some (λ _. value);
    in_order = IsKeyedBy-update_where (λ (r : ℕ × V). pos r.0) (λ r. r.0 == key) (λ r. (r.0, value)) (λ r. refl) rows up;
  }

  put_number : IsPut
  put_number = by_number (has key) refl

-- ---- the totals with one sale more, and with several

with_one : (sales : List Sale) (s : Sale) (rows : Rows) → AreTotalsOf sales rows → (more : Rows) × AreTotalsOf (sales ++ s ∷ []) more
with_one sales s rows are =
    let all : List Sale = sales ++ s ∷ [] in
    let at = at_contains all s (Contains-push sales s) in
    let last = value_of is_under tells_under base_of greatest refl some_id all at.0 s at.1 in
    let base = base_of s in
    let month = month_of s in
    let ids = put_rows (is_under base) base (tells_under base) rows.last_ids (λ k. greatest (sales_under sales k)) are.last_ids last.0 in
    let months = put_rows (is_in_month month) month (tells_month month) rows.month_tenths (λ k. tenths_of (sales_in_month sales k))
    are.month_tenths (month_sum sales s) in
    let shifts = put_number s.shift rows.shift_totals (λ k. totals_of (sales_in_shift sales k)) are.shift_totals are.by_shift (shift_sum sales s) in (
      record no_rows { last_ids = ids.0; month_tenths = months.0; shift_totals = shifts.rest },
      record {
        last_ids = rows_of_same ids.0 _ (λ k. greatest (sales_under all k)) (last_more sales s last.0 last.1) ids.1;
        month_tenths = rows_of_same months.0 _ (λ k. tenths_of (sales_in_month all k)) (month_more sales s) months.1;
        shift_totals = rows_of_same shifts.rest _ (λ k. totals_of (sales_in_shift all k)) (shift_more sales s) shifts.are_put;
        by_shift = shifts.in_order;
      },
    )

with_more : (rest sales : List Sale) (rows : Rows) → AreTotalsOf sales rows → (more : Rows) × AreTotalsOf (sales ++ rest) more
with_more [] sales rows are = (rows, subst (λ (l : List Sale). AreTotalsOf l rows) (sym (append-nil sales)) are)
with_more (s ∷ rest) sales rows are =
    let one = with_one sales s rows are in
    let all = with_more rest (sales ++ s ∷ []) one.0 one.1 in
    (all.0, subst (λ (l : List Sale). AreTotalsOf l all.0) (append_assoc sales (s ∷ []) rest) all.1)

-- any sales have rows of totals
pub totals_made : (sales : List Sale) → (rows : Rows) × AreTotalsOf sales rows
totals_made sales = with_more sales [] no_rows (no_totals no_rows refl refl refl)
