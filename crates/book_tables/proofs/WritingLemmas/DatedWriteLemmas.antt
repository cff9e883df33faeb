-- What the rows of dated steps are after a write of them.
use Rattle.std.proofs.Common.{◌≡◌, ℕ, ◌+◌, pos, List, [], ◌∷◌, ◌++◌, drop, length, map, codes, refl, sym, ap, subst, ◌∙◌, arith, append_assoc}
use Rattle.sqlite.specs.Effect.{Database}
use Rattle.sqlite.specs.Order.{Row}
use Rattle.sqlite.specs.State.{State}
use Rattle.sqlite_value.specs.declared.value.Value.TheVariants.{Int, Null, Text}
use Rattle.sqlite_rules.specs.declared.error.Rowids.TheVariants.{Chosen}
use Rattle.sqlite_rules.specs.Edit.{with_rowid}
use Rattle.sqlite_schema.specs.declared.schema.Table.{Table}
use Rattle.tariff.specs.declared.step.Step.{Step}
use Rattle.one_table.specs.InTransaction.{PutsRow}
use Rattle.one_table.specs.Inserting.{new_row, source_row}
use Rattle.one_table.specs.Standing.{tree_in}
use Rattle.one_table.proofs.CastLemmas.{cast_int, cast_no_int}
use Rattle.book_tables.specs.writing.Edited.{dated_rows}
use Rattle.book_tables.specs.Holds.{Holds}
use Rattle.book_tables.specs.row.Rows.{DatedStepRow, dated_columns, present_format}
use Rattle.book_tables.specs.Tables.{dated_steps_table}
use Rattle.book_tables.specs.writing.Storing.{StoresRows}
use Rattle.book_tables.specs.writing.Writing.{AddsDatedStep, AddsSteps}
use Rattle.std.proofs.lemmas.List.{map_push}
use Rattle.book_tables.proofs.ReadingLemmas.DatedLemmas.{dated_at, dated_from}
use Rattle.book_tables.proofs.ReadingLemmas.DatedTexts.{five_terms}
use Rattle.book_tables.proofs.WritingLemmas.HiddenWriteLemmas.{stands_after}
use Rattle.book_tables.specs.Kept.{dated_steps_kept}
use Rattle.book_tables.specs.reading.Reading.{HasAllTables}
use Rattle.book_tables.specs.writing.Keeping.{KeepsRows, dated_keys, dated_step_key}
use Rattle.book_tables.proofs.WritingLemmas.KeepingLemmas.{fewer_parts, keeps_both, keeps_more, keeps_new}
use Rattle.book_tables.proofs.KeptLemmas.{dated_steps_changed}
use Rattle.book_tables.proofs.OfficeTableLemmas.{dated_steps_in}
use Rattle.book_tables.proofs.WritingLemmas.OnlyLemmas.{only_both}
use Rattle.book_tables.proofs.WritingLemmas.StoringLemmas.{stores_hidden, stores_then}
use Rattle.book_tables.proofs.WritingLemmas.WriteLemmas.{cast_optional, changes_only, only_one}

-- ---- a step

module _ (old new : State) where
  abbrev dated : Table
  dated = dated_steps_table (tree_in old.now.schema (codes "dated_steps"))

  dated_source : (r : DatedStepRow) → source_row dated five_terms (dated_columns r) ≡ Null ∷ dated_columns r
  dated_source r = rw (cast_no_int, cast_int (pos r.day), cast_int (pos r.place), cast_optional r.step.ends, cast_int (pos r.step.price)) refl

  -- after the INSERT, a step from a first day on stands after the others
  pub adds_dated_step : HasAllTables old → (r : DatedStepRow) (params : Row) → params ≡ dated_columns r
      → PutsRow dated (new_row dated five_terms params (old.now.trees dated.tree)) old new → AddsDatedStep r old new
  adds_dated_step has r params bound put =
      let h = subst (λ (p : Row). PutsRow dated (new_row dated five_terms p (old.now.trees dated.tree)) old new) bound put in
      let only = only_one (codes "dated_steps") dated _ old new refl h.changed in
      let kept = changes_only (codes "dated_steps") old new only in
      record {
        only = only;
        kept = keeps_new ((1, Text r.tariff) ∷ (2, Int (pos r.day)) ∷ (3, Int (pos r.place)) ∷ []) old new dated_steps_kept dated_steps_in
            has _ (with_rowid Chosen (old.now.trees dated.tree) (Null ∷ dated_columns r)) h kept
            (ap (with_rowid Chosen (old.now.trees dated.tree)) (dated_source r)) refl (refl, (refl, (refl, tt)));
        stored = stores_hidden (codes "dated_steps") dated old new refl _ h (dated_columns r)
            (ap (λ (r : Row). drop 1 (with_rowid Chosen (old.now.trees dated.tree) r)) (dated_source r));
        rows = λ rows held.
            let was = dated_steps_in.holds present_format old.now rows held in
            let it = stands_after dated_columns dated five_terms (dated_columns r) r (dated_source r) old new h rows.dated_steps was.0 was.1 in
            dated_steps_changed present_format old.now new.now rows held (rows.dated_steps ++ r ∷ []) kept it.0 it.1;
      }

-- ---- steps, one after another

module _ (name : List ℕ) (day : ℕ) where
  rows_more : (at : ℕ) (xs : List Step) (s : Step) → dated_from name day at (xs ++ s ∷ []) ≡ dated_from name day at xs
      ++ dated_at name day (at + length xs) s ∷ []
  rows_more at [] s = let here : at ≡ at + 0 = omega arith in ap (λ (n : ℕ). dated_at name day n s ∷ []) here
  rows_more at (x ∷ xs) s =
      let further : at + 1 + length xs ≡ at + length (x ∷ xs) = omega arith in
      ap (λ (l : List DatedStepRow). dated_at name day at x ∷ l)
      (rows_more (at + 1) xs s ∙ ap (λ (n : ℕ). dated_from name day (at + 1) xs ++ dated_at name day n s ∷ []) further)

  -- with one step more, its row stands after those of the others, at the next place
  pub dated_more : (xs : List Step) (s : Step) → dated_rows name day (xs ++ s ∷ []) ≡ dated_rows name day xs ++ dated_at name day (length xs) s ∷ []
  dated_more xs s =
      let here : 0 + length xs ≡ length xs = omega arith in
      rows_more 0 xs s ∙ ap (λ (n : ℕ). dated_rows name day xs ++ dated_at name day n s ∷ []) here

  -- a step of the day is under its key
  of_day : (place : ℕ) (s : Step) (a b : Database) → KeepsRows (dated_step_key (dated_at name day place s)) a b → KeepsRows (dated_keys name day) a b
  of_day place s a b kept =
      keeps_more (dated_step_key (dated_at name day place s)) (dated_keys name day)
      (fewer_parts (codes "dated_steps") ((1, Text name) ∷ (2, Int (pos day)) ∷ []) ((3, Int (pos place)) ∷ [])) a b kept

  -- the first one
  pub adds_first : (s : Step) (old new : State) → AddsDatedStep (dated_at name day 0 s) old new → AddsSteps name day (s ∷ []) old new
  adds_first s old new added = record { only = added.only; kept = of_day 0 s old.now new.now added.kept; stored = added.stored; rows = added.rows }

  adds_at_end : (xs : List Step) (s : Step) (old mid new : State) → AddsSteps name day xs old mid
      → AddsDatedStep (dated_at name day (length xs) s) mid new → AddsSteps name day (xs ++ s ∷ []) old new
  adds_at_end xs s old mid new first second = record {
    only = only_both (codes "dated_steps" ∷ []) old mid new first.only second.only;
    kept = keeps_both (dated_keys name day) old.now mid.now new.now first.kept (of_day (length xs) s mid.now new.now second.kept);
    stored = subst (λ (l : List Row). StoresRows dated_steps_kept l old.now new.now)
        (sym (map_push dated_columns (dated_rows name day xs) (dated_at name day (length xs) s)) ∙ ap (map dated_columns) (sym (dated_more xs s)))
        (stores_then dated_steps_kept (map dated_columns (dated_rows name day xs)) (dated_columns (dated_at name day (length xs) s) ∷ [])
        old.now mid.now new.now first.stored second.stored);
    rows = λ rows held.
        let all = second.rows (record rows { dated_steps = rows.dated_steps ++ dated_rows name day xs }) (first.rows rows held) in
        let last : List DatedStepRow = dated_at name day (length xs) s ∷ [] in
        let steps : (rows.dated_steps ++ dated_rows name day xs) ++ last ≡ rows.dated_steps ++ dated_rows name day (xs ++ s ∷ []) =
        append_assoc rows.dated_steps (dated_rows name day xs) last ∙ ap (λ (l : List DatedStepRow). rows.dated_steps ++ l) (sym (dated_more xs s)) in
        subst (λ (l : List DatedStepRow). Holds new.now (record rows { dated_steps = l })) steps all;
  }

  -- with one step more
  pub adds_next : (xs : List Step) (place : ℕ) (s : Step) (old mid new : State) → place ≡ length xs → AddsSteps name day xs old mid
      → AddsDatedStep (dated_at name day place s) mid new → AddsSteps name day (xs ++ s ∷ []) old new
  adds_next xs place s old mid new is first added = adds_at_end xs s old mid new first
      (subst (λ (n : ℕ). AddsDatedStep (dated_at name day n s) mid new) is added)
