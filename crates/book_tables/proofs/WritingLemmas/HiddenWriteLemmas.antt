-- What the rows of the tariffs, their steps and the meters are after a write. SQLite chooses the
-- numbers of these rows.
use Rattle.std.proofs.Common.{◌≡◌, ◌≢◌, ℕ, pos, Bool, List, [], ◌∷◌, ◌++◌, length, map, filter, find, drop, ◌≤◌, codes, refl, sym, ap, ◌∙◌, subst}
use Rattle.std.specs.Prelude.{AllPairs, bytes_eq}
use Rattle.std.proofs.lemmas.List.{map-append}
use Rattle.std.proofs.lemmas.Slice.Eq.{bytes_eq-Decides}
use Rattle.sqlite.specs.Order.{Row}
use Rattle.sqlite.specs.State.{State}
use Rattle.sqlite_value.specs.declared.value.Value.TheVariants.{Int, Null, Text}
use Rattle.sqlite_trees.specs.Tree.{put_row, rowid}
use Rattle.sqlite_sql.specs.Term.{Term, col, eval_all}
use Rattle.sqlite_rules.specs.Cast.{cast_row}
use Rattle.sqlite_rules.specs.declared.error.Rowids.TheVariants.{Chosen}
use Rattle.sqlite_rules.specs.Edit.{with_rowid}
use Rattle.sqlite_schema.specs.declared.schema.Table.{Table}
use Rattle.sqlite_typed.proofs.TestLemmas.{last_term}
use Rattle.one_table.specs.InTransaction.{PutsRow, SetsRows}
use Rattle.one_table.specs.Inserting.{new_row, source_row}
use Rattle.one_table.specs.Numbered.{IsInOrder}
use Rattle.one_table.specs.Standing.{tree_in}
use Rattle.one_table.specs.Updating.{SetsHidden}
use Rattle.one_table.proofs.AppendLemmas.{stands_last}
use Rattle.one_table.proofs.CastLemmas.{cast_int, cast_no_int}
use Rattle.one_table.proofs.HiddenSetLemmas.{sets_hidden}
use Rattle.one_table.proofs.TestsLemmas.{text_is}
use Rattle.sts_fields.specs.Base.{year_of}
use Rattle.office_rules.specs.Decision.Fold.{with_tariff}
use Rattle.office_rules.specs.declared.office.meter.Meter.{Meter}
use Rattle.book_tables.specs.writing.Edited.{row_with_tariff}
use Rattle.book_tables.specs.row.Rows.{StepRow, meter_columns, present_format, step_columns, tariff_columns}
use Rattle.book_tables.specs.Tables.{meters_table, tariff_steps_table, tariffs_table}
use Rattle.book_tables.specs.writing.Writing.{AddsMeterRow, AddsName, AddsStep, SetsTariff}
use Rattle.book_tables.specs.Kept.{meters_kept, steps_kept, tariffs_kept}
use Rattle.book_tables.specs.reading.Reading.{HasAllTables}
use Rattle.book_tables.specs.writing.Keeping.{meter_keys}
use Rattle.book_tables.proofs.OfficeTableLemmas.{meters_in, steps_in, tariffs_in}
use Rattle.book_tables.proofs.WritingLemmas.KeepingLemmas.{keeps_new, keeps_set, number_kept, text_found, text_kept}
use Rattle.book_tables.proofs.KeptLemmas.{meters_changed, steps_changed, tariffs_changed}
use Rattle.book_tables.proofs.ListLemmas.{NotBothPass, first_is_all, pairs_weaker}
use Rattle.book_tables.proofs.WritingLemmas.WriteLemmas.{cast_optional, changes_only, few, only_one}
use Rattle.book_tables.proofs.WritingLemmas.StoringLemmas.{stores_hidden}
use Rattle.book_tables.proofs.WritingLemmas.WriteTexts.{four_terms, is_that_meter, one_term, tariff_set_query, tariff_set_terms}

-- ---- one row more

-- the rows of a table after a row of it was put in
module _ {X : Type 0} (stored : X → Row) (t : Table) (terms : List Term) (params : Row) (x : X)
    (source : source_row t terms params ≡ Null ∷ stored x) (old new : State)
    (h : PutsRow t (new_row t terms params (old.now.trees t.tree)) old new) where
  abbrev rows : List Row
  rows = old.now.trees t.tree

  row_is : new_row t terms params rows ≡ with_rowid Chosen rows (Null ∷ stored x)
  row_is = ap (with_rowid Chosen rows) source

  -- the row stands after the others, and all are in the order of their numbers
  pub stands_after : (xs : List X) → map (drop 1) rows ≡ map stored xs → IsInOrder rows
      → (map (drop 1) (new.now.trees t.tree) ≡ map stored (xs ++ x ∷ [])) × IsInOrder (new.now.trees t.tree)
  stands_after xs holds order =
      let last = stands_last (Null ∷ stored x) refl rows order.rises order.are_numbers in
      let put : new.now.trees t.tree ≡ put_row (with_rowid Chosen rows (Null ∷ stored x)) rows =
      h.changed.rows_are ∙ ap (λ (r : Row). put_row r rows) row_is in (
        ap (map (drop 1)) put ∙ last.columns ∙ ap (λ (l : List Row). l ++ stored x ∷ []) holds ∙ sym (map-append stored xs (x ∷ [])),
        subst IsInOrder (sym put) (record { rises = last.rises; are_numbers = last.are_numbers }),
      )

-- ---- a meter

module _ (old new : State) where
  abbrev meters : Table
  meters = meters_table (tree_in old.now.schema (codes "meters"))

  meter_source : (number : List ℕ) (m : Meter) → source_row meters four_terms (meter_columns (number, m)) ≡ Null ∷ meter_columns (number, m)
  meter_source number m = rw (cast_no_int, cast_int (pos (year_of m.base))) refl

  -- after the INSERT, the row of a meter stands after the others
  pub adds_meter : HasAllTables old → (number : List ℕ) (m : Meter) (params : Row) → params ≡ meter_columns (number, m)
      → PutsRow meters (new_row meters four_terms params (old.now.trees meters.tree)) old new → AddsMeterRow number m old new
  adds_meter has number m params bound put =
      let h = subst (λ (p : Row). PutsRow meters (new_row meters four_terms p (old.now.trees meters.tree)) old new) bound put in
      let only = only_one (codes "meters") meters _ old new refl h.changed in
      let kept = changes_only (codes "meters") old new only in
      record {
        only = only;
        kept = keeps_new ((1, Text number) ∷ []) old new meters_kept meters_in has _
            (with_rowid Chosen (old.now.trees meters.tree) (Null ∷ meter_columns (number, m))) h kept
            (ap (with_rowid Chosen (old.now.trees meters.tree)) (meter_source number m)) refl (refl, tt);
        stored = stores_hidden (codes "meters") meters old new refl _ h (meter_columns (number, m))
            (ap (λ (r : Row). drop 1 (with_rowid Chosen (old.now.trees meters.tree) r)) (meter_source number m));
        rows = λ rows held.
            let stored = meters_in.holds present_format old.now rows held in
            let it = stands_after meter_columns meters four_terms (meter_columns (number, m)) (number, m) (meter_source number m) old new h
            rows.meters stored.0 stored.1 in
            meters_changed present_format old.now new.now rows held (rows.meters ++ (number, m) ∷ []) kept it.0 it.1;
      }

  -- ---- the name of a tariff

  abbrev tariffs : Table
  tariffs = tariffs_table (tree_in old.now.schema (codes "tariffs"))

  name_source : (name : List ℕ) → source_row tariffs one_term (tariff_columns name) ≡ Null ∷ tariff_columns name
  name_source name = rw cast_no_int refl

  -- after the INSERT, the name of a tariff stands after the others
  pub adds_name : HasAllTables old → (name : List ℕ) (params : Row) → params ≡ tariff_columns name
      → PutsRow tariffs (new_row tariffs one_term params (old.now.trees tariffs.tree)) old new → AddsName name old new
  adds_name has name params bound put =
      let h = subst (λ (p : Row). PutsRow tariffs (new_row tariffs one_term p (old.now.trees tariffs.tree)) old new) bound put in
      let only = only_one (codes "tariffs") tariffs _ old new refl h.changed in
      let kept = changes_only (codes "tariffs") old new only in
      record {
        only = only;
        kept = keeps_new ((1, Text name) ∷ []) old new tariffs_kept tariffs_in has _
            (with_rowid Chosen (old.now.trees tariffs.tree) (Null ∷ tariff_columns name)) h kept
            (ap (with_rowid Chosen (old.now.trees tariffs.tree)) (name_source name)) refl (refl, tt);
        stored = stores_hidden (codes "tariffs") tariffs old new refl _ h (tariff_columns name)
            (ap (λ (r : Row). drop 1 (with_rowid Chosen (old.now.trees tariffs.tree) r)) (name_source name));
        rows = λ rows held.
            let stored = tariffs_in.holds present_format old.now rows held in
            let it = stands_after tariff_columns tariffs one_term (tariff_columns name) name (name_source name) old new h rows.tariffs
            stored.0 stored.1 in
            tariffs_changed present_format old.now new.now rows held (rows.tariffs ++ name ∷ []) kept it.0 it.1;
      }

  -- ---- a step

  abbrev steps : Table
  steps = tariff_steps_table (tree_in old.now.schema (codes "tariff_steps"))

  step_source : (r : StepRow) → source_row steps four_terms (step_columns r) ≡ Null ∷ step_columns r
  step_source r = rw (cast_no_int, cast_int (pos r.place), cast_optional r.step.ends, cast_int (pos r.step.price)) refl

  -- after the INSERT, the row of a tariff's step stands after the others
  pub adds_step : HasAllTables old → (r : StepRow) (params : Row) → params ≡ step_columns r
      → PutsRow steps (new_row steps four_terms params (old.now.trees steps.tree)) old new → AddsStep r old new
  adds_step has r params bound put =
      let h = subst (λ (p : Row). PutsRow steps (new_row steps four_terms p (old.now.trees steps.tree)) old new) bound put in
      let only = only_one (codes "tariff_steps") steps _ old new refl h.changed in
      let kept = changes_only (codes "tariff_steps") old new only in
      record {
        only = only;
        kept = keeps_new ((1, Text r.tariff) ∷ (2, Int (pos r.place)) ∷ []) old new steps_kept steps_in has _
            (with_rowid Chosen (old.now.trees steps.tree) (Null ∷ step_columns r)) h kept
            (ap (with_rowid Chosen (old.now.trees steps.tree)) (step_source r)) refl (refl, (refl, tt));
        stored = stores_hidden (codes "tariff_steps") steps old new refl _ h (step_columns r)
            (ap (λ (r : Row). drop 1 (with_rowid Chosen (old.now.trees steps.tree) r)) (step_source r));
        rows = λ rows held.
            let stored = steps_in.holds present_format old.now rows held in
            let it = stands_after step_columns steps four_terms (step_columns r) r (step_source r) old new h rows.steps stored.0 stored.1 in
            steps_changed present_format old.now new.now rows held (rows.steps ++ r ∷ []) kept it.0 it.1;
      }

  -- ---- the tariff of a meter

  -- whether the row is of the meter of this number
  abbrev pub is_that : List ℕ → (List ℕ × Meter) → Bool
  is_that number r = bytes_eq r.0 number

  abbrev renamed : List ℕ → (List ℕ × Meter) → (List ℕ × Meter)
  renamed name r = (r.0, with_tariff name r.1)

  setting : (number name : List ℕ) → SetsHidden meters is_that_meter tariff_set_terms (Text number ∷ Text name ∷ []) meter_columns
      (is_that number) (renamed name)
  setting number name = record {
    passes = λ n r. last_term (text_is r.0 number);
    identifies = λ n r. refl;
    becomes = λ n r. rw (cast_int n, cast_int (pos (year_of r.1.base))) refl;
  }

  -- where no two rows are of one meter, one at most is of this number
  pub one_at_most : (number : List ℕ) (xs : List (List ℕ × Meter)) → AllPairs (λ a b. a.0 ≢ b.0) xs → length (filter (is_that number) xs) ≤ 1
  one_at_most number xs apart =
      let once = pairs_weaker (λ a b. a.0 ≢ b.0) (NotBothPass (is_that number)) xs
      (λ a b differ p q. differ ((bytes_eq-Decides a.0 number).0 p ∙ sym ((bytes_eq-Decides b.0 number).0 q))) apart in
      subst (λ (l : List (List ℕ × Meter)). length l ≤ 1) (sym (first_is_all (is_that number) xs once)) (few (find (is_that number) xs))

  abbrev tariff_set_row : List Term
  tariff_set_row = col 1 0 ∷ col 1 1 ∷ col 1 2 ∷ col 0 1 ∷ col 1 4 ∷ []

  -- after the UPDATE, the meter of this number has this tariff
  pub sets_tariff : HasAllTables old → (number name : List ℕ) (params : Row) → params ≡ Text number ∷ Text name ∷ []
      → SetsRows meters (tariff_set_query meters.tree) params old new → SetsTariff number name old new
  sets_tariff has number name params bound found =
      let h = subst (λ (p : Row). SetsRows meters (tariff_set_query meters.tree) p old new) bound found in
      let only = only_one (codes "meters") meters _ old new refl h.changed in
      let kept = changes_only (codes "meters") old new only in
      record {
        only = only;
        kept = keeps_set (meter_keys number) old new meters_kept meters_in has is_that_meter tariff_set_row (Text number ∷ Text name ∷ [])
            h kept (λ r passes. text_found (codes "meters") number r passes)
            (λ r is_number own. (
              text_kept (codes "meters") number r
                  (cast_row meters (eval_all tariff_set_row ((Text number ∷ Text name ∷ []) ∷ r ∷ []))) refl own,
              number_kept (rowid r) is_number,
            ));
        rows = λ rows held apart.
            let stored = meters_in.holds present_format old.now rows held in
            let set = sets_hidden meter_columns (is_that number) (renamed name) meters is_that_meter tariff_set_terms
            (Text number ∷ Text name ∷ []) (setting number name) (λ r none. cc)
            old new rows.meters h stored.0 stored.1.rises stored.1.are_numbers (one_at_most number rows.meters apart) in
            let in_order : IsInOrder set.rows = record { rises = set.rises; are_numbers = set.are_numbers } in
            meters_changed present_format old.now new.now rows held (map (row_with_tariff number name) rows.meters) kept
            (ap (map (drop 1)) set.changed.rows_are ∙ set.holds) (subst IsInOrder (sym set.changed.rows_are) in_order);
      }
