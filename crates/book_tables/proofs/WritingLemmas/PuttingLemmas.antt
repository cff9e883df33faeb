-- What the texts mean that put a row of the running totals in, and what the rows are then.
use Rattle.std.proofs.Common.{◌≡◌, ◌<◌, ◌^◌, ℕ, ℤ, true, pos, ◌<ℤ◌, Ordering, List, [], ◌∷◌, ◌++◌, refl, ap, subst, map, ◌∙◌, codes}
use Rattle.std.specs.List.{AllByRecursion}
use Rattle.std.specs.Ordering.{match_ordering}
use Rattle.std.specs.Prelude.{All}
use Rattle.std.proofs.lemmas.List.Elements.{All-contains, Contains-append_right}
use Rattle.sqlite.specs.Order.{Row}
use Rattle.sqlite.specs.State.{State}
use Rattle.sqlite_value.specs.declared.value.Value.TheVariants.{Null}
use Rattle.sqlite_keyed.specs.Keyed.{IsKeyedBy, insert_by}
use Rattle.sqlite_keyed.proofs.KeyedLemmas.{Less-from_lt}
use Rattle.sqlite_typed.proofs.RowLemmas.{puts-map}
use Rattle.sqlite_sql.specs.Term.{Term, col, lit}
use Rattle.sqlite_tied.specs.Compute.{everything}
use Rattle.sqlite_schema.specs.declared.schema.Table.{Table}
use Rattle.sqlite_trees.specs.Tree.{put_row}
use Rattle.sts_fields.specs.Base.{year_of}
use Rattle.sts_fields.specs.declared.base.Base.{Base}
use Rattle.one_table.specs.InTransaction.{PutsRow}
use Rattle.one_table.specs.Inserting.{IsInsert, insert_in, insert_meant, new_row, puts_meant, source_row}
use Rattle.one_table.specs.Reading.{is_whole}
use Rattle.one_table.specs.Standing.{tree_in}
use Rattle.one_table.proofs.CastLemmas.{cast_int, cast_no_int}
use Rattle.book_tables.specs.row.Rows.{last_id_columns, month_columns, totals_columns, totals_row}
use Rattle.book_tables.specs.Tables.{last_ids_table, month_tenths_table, shift_totals_table}
use Rattle.book_tables.specs.writing.Putting.{AreAnyIds, FitMonths, FitShifts, PutsNext, with_last_ids, with_month_tenths, with_shift_totals}
use Rattle.book_tables.specs.writing.Writing.{HasRoomFor, totals_names}
use Rattle.book_tables.specs.declared.row.totals.Totals.{Totals}
use Rattle.book_tables.specs.writing.Writes.{new_last_id_text, new_month_text, new_totals_text}
use Rattle.book_tables.proofs.KeptLemmas.{last_ids_changed, month_tenths_changed, shift_totals_changed}
use Rattle.book_tables.proofs.ListLemmas.{contains_first}
use Rattle.book_tables.proofs.OfficeTableLemmas.{last_ids_in, month_tenths_in, shift_totals_in}
use Rattle.book_tables.proofs.WritingLemmas.HiddenWriteLemmas.{stands_after}
use Rattle.book_tables.proofs.WritingLemmas.OnlyLemmas.{only_named}
use Rattle.book_tables.proofs.WritingLemmas.WriteLemmas.{changes_only, only_one}

-- ---- texts

-- a row of three parameters, under a number that SQLite chooses
abbrev pub three_terms : List Term
three_terms = lit Null ∷ col 0 0 ∷ col 0 1 ∷ col 0 2 ∷ []

-- the row of a shift's totals: its number is the first parameter, three follow
abbrev pub totals_terms : List Term
totals_terms = col 0 0 ∷ lit Null ∷ col 0 1 ∷ col 0 2 ∷ col 0 3 ∷ []

-- the text of a last identifier means an INSERT of a row of three into `last_ids`
pub new_last_id_means : (tree : ℕ) → IsInsert (last_ids_table tree) three_terms new_last_id_text
unfolding everything insert_meant insert_in puts_meant
new_last_id_means tree = record { means = refl; whole = refl; uncounted = refl; unstamped = refl }

-- the text of a month's tenths means an INSERT of one into `month_tenths`
pub new_month_means : (tree : ℕ) → IsInsert (month_tenths_table tree) three_terms new_month_text
unfolding everything insert_meant insert_in puts_meant
new_month_means tree = record { means = refl; whole = refl; uncounted = refl; unstamped = refl }

-- the text of a shift's totals means an INSERT of such totals into `shift_totals`
pub new_totals_means : (tree : ℕ) → IsInsert (shift_totals_table tree) totals_terms new_totals_text
unfolding everything insert_meant insert_in puts_meant
new_totals_means tree = record { means = refl; whole = refl; uncounted = refl; unstamped = refl }

-- the text of a last identifier is one statement with three parameters
pub new_last_id_whole : is_whole new_last_id_text 3 ≡ true
unfolding everything is_whole
new_last_id_whole = refl

-- the text of a month's tenths is one with three parameters
pub new_month_whole : is_whole new_month_text 3 ≡ true
unfolding everything is_whole
new_month_whole = refl

-- the text of a shift's totals is one with four parameters
pub new_totals_whole : is_whole new_totals_text 4 ≡ true
unfolding everything is_whole
new_totals_whole = refl

-- ---- a row above all before it stands after them

module _ {X : Type 0} (key : X → ℤ) where
  last_below : (y : X) (ys : List X) (x : X) (after : List X) → AllByRecursion (λ z. key y <ℤ key z) (ys ++ x ∷ after) → key y <ℤ key x
  last_below y [] x after all = all.0
  last_below y (z ∷ zs) x after all = last_below y zs x after all.1

  insert_above : (ys : List X) (x : X) (after : List X) → IsKeyedBy key (ys ++ x ∷ after) → insert_by key ys x ≡ ys ++ x ∷ []
  insert_above [] x after up = refl
  insert_above (y ∷ ys) x after up =
      ap (λ (o : Ordering). match_ordering o (y ∷ insert_by key ys x) (x ∷ ys) (x ∷ y ∷ ys))
      (Less-from_lt (key y) (key x) (last_below y ys x after up.0)) ∙ ap (λ (l : List X). y ∷ l) (insert_above ys x after up.1)

-- ---- the rows after a row was put in

-- what is asked of all rows holds of one of them
of_all : {X : Type 0} (P : X → Type 0) (before : List X) (r : X) (after : List X) → All P (before ++ r ∷ after) → P r
of_all P before r after all = All-contains P (before ++ r ∷ after) r all (Contains-append_right before (r ∷ after) r (contains_first r after))

module _ (old new : State) where
  abbrev ids : Table
  ids = last_ids_table (tree_in old.now.schema (codes "last_ids"))

  id_source : (r : (List ℕ × Base) × ℕ) → source_row ids three_terms (last_id_columns r) ≡ Null ∷ last_id_columns r
  id_source r = rw (cast_no_int, cast_int (pos (year_of r.0.1)), cast_int (pos r.1)) refl

  -- after its INSERT, a last identifier stands after those before it
  pub puts_last_id : (r : (List ℕ × Base) × ℕ) (params : Row) → params ≡ last_id_columns r
      → PutsRow ids (new_row ids three_terms params (old.now.trees ids.tree)) old new → PutsNext with_last_ids AreAnyIds r old new
  puts_last_id r params bound put =
      let h = subst (λ (p : Row). PutsRow ids (new_row ids three_terms p (old.now.trees ids.tree)) old new) bound put in
      let only = only_one (codes "last_ids") ids _ old new refl h.changed in
      record {
        only = only_named (codes "last_ids" ∷ []) totals_names refl old new only;
        rows = λ told rows before after may held.
            let was = last_ids_in.holds told old.now (with_last_ids before rows) held in
            let it = stands_after last_id_columns ids three_terms (last_id_columns r) r (id_source r) old new h before was.0 was.1 in
            last_ids_changed told old.now new.now (with_last_ids before rows) held (before ++ r ∷ []) (changes_only (codes "last_ids") old new only) it.0 it.1;
      }

  abbrev months : Table
  months = month_tenths_table (tree_in old.now.schema (codes "month_tenths"))

  month_source : (r : (List ℕ × ℕ) × ℕ) → source_row months three_terms (month_columns r) ≡ Null ∷ month_columns r
  month_source r = rw (cast_no_int, cast_int (pos r.0.1), cast_int (pos r.1)) refl

  -- after theirs, a month's tenths do, where a column can hold them
  pub puts_month_tenths : (r : (List ℕ × ℕ) × ℕ) (params : Row) → (r.1 < 2 ^ 63 → params ≡ month_columns r)
      → PutsRow months (new_row months three_terms params (old.now.trees months.tree)) old new
      → PutsNext with_month_tenths FitMonths r old new
  puts_month_tenths r params bound put =
      let only = only_one (codes "month_tenths") months _ old new refl put.changed in
      record {
        only = only_named (codes "month_tenths" ∷ []) totals_names refl old new only;
        rows = λ told rows before after may held.
            let fits = of_all (λ (x : (List ℕ × ℕ) × ℕ). x.1 < 2 ^ 63) before r after may in
            let h = subst (λ (p : Row). PutsRow months (new_row months three_terms p (old.now.trees months.tree)) old new) (bound fits) put in
            let was = month_tenths_in.holds told old.now (with_month_tenths before rows) held in
            let it = stands_after month_columns months three_terms (month_columns r) r (month_source r) old new h before was.0 was.1 in
            month_tenths_changed told old.now new.now (with_month_tenths before rows) held (before ++ r ∷ [])
            (changes_only (codes "month_tenths") old new only) it.0 it.1;
      }

  abbrev shifts : Table
  shifts = shift_totals_table (tree_in old.now.schema (codes "shift_totals"))

  totals_is : (r : ℕ × Totals) (rows : List Row) → new_row shifts totals_terms (totals_columns r) rows ≡ totals_row r
  totals_is r rows = rw (cast_int (pos r.0), cast_no_int, cast_int (pos r.1.sales), cast_int (pos r.1.tenths), cast_int (pos r.1.cash)) refl

  -- after theirs, a shift's totals do, where columns can hold them and the shifts rise
  pub puts_shift_totals : (r : ℕ × Totals) (params : Row) → (HasRoomFor r.1 → params ≡ totals_columns r)
      → PutsRow shifts (new_row shifts totals_terms params (old.now.trees shifts.tree)) old new
      → PutsNext with_shift_totals FitShifts r old new
  puts_shift_totals r params bound put =
      let only = only_one (codes "shift_totals") shifts _ old new refl put.changed in
      record {
        only = only_named (codes "shift_totals" ∷ []) totals_names refl old new only;
        rows = λ told rows before after may held.
            let there = old.now.trees shifts.tree in
            let fits = of_all (λ (x : ℕ × Totals). HasRoomFor x.1) before r after may.1 in
            let row : new_row shifts totals_terms params there ≡ totals_row r =
            ap (λ (p : Row). new_row shifts totals_terms p there) (bound fits) ∙ totals_is r there in
            let stands = put.changed.rows_are ∙ ap (λ (x : Row). put_row x there) row
            ∙ ap (put_row (totals_row r)) (shift_totals_in.holds told old.now (with_shift_totals before rows) held)
            ∙ puts-map (λ (x : ℕ × Totals). pos x.0) totals_row (λ x. refl) (r ∷ []) before
            ∙ ap (map totals_row) (insert_above (λ (x : ℕ × Totals). pos x.0) before r after may.0) in
            shift_totals_changed told old.now new.now (with_shift_totals before rows) held (before ++ r ∷ [])
            (changes_only (codes "shift_totals") old new only) stands;
      }
