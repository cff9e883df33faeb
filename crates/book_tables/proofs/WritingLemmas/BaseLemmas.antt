-- What the rows of meters and of their bases are after a write of them.
use Rattle.std.proofs.Common.{◌≡◌, ℕ, pos, List, [], ◌∷◌, ◌++◌, drop, map, codes, refl, sym, ap, subst, ◌∙◌}
use Rattle.sqlite.specs.Order.{Row}
use Rattle.sqlite.specs.State.{State}
use Rattle.sqlite_value.specs.declared.value.Value.TheVariants.{Int, Null, Text}
use Rattle.sqlite_sql.specs.Term.{Term, col, eval_all}
use Rattle.sqlite_trees.specs.Tree.{rowid}
use Rattle.sqlite_rules.specs.Cast.{cast_row}
use Rattle.sqlite_rules.specs.declared.error.Rowids.TheVariants.{Chosen}
use Rattle.sqlite_rules.specs.Edit.{with_rowid}
use Rattle.sqlite_schema.specs.declared.schema.Table.{Table}
use Rattle.sqlite_typed.proofs.TestLemmas.{last_term}
use Rattle.one_table.specs.InTransaction.{PutsRow, SetsRows}
use Rattle.one_table.specs.Inserting.{new_row, source_row}
use Rattle.one_table.specs.Numbered.{IsInOrder}
use Rattle.one_table.specs.Standing.{tree_in}
use Rattle.one_table.specs.Updating.{SetsHidden}
use Rattle.one_table.proofs.CastLemmas.{cast_int, cast_no_int}
use Rattle.one_table.proofs.HiddenSetLemmas.{sets_hidden}
use Rattle.one_table.proofs.TestsLemmas.{text_is}
use Rattle.sts_fields.specs.Base.{year_of}
use Rattle.sts_fields.specs.declared.base.Base.{Base}
use Rattle.office_rules.specs.Decision.Edits.{with_base}
use Rattle.office_rules.specs.declared.office.meter.Meter.{Meter}
use Rattle.book_tables.specs.writing.Edited.{row_with_base}
use Rattle.book_tables.specs.row.Rows.{base_columns, meter_columns, present_format}
use Rattle.book_tables.specs.Tables.{meter_bases_table, meters_table}
use Rattle.book_tables.specs.writing.Writing.{AddsBase, AddsMeter, AddsMeterRow, MovesBase, SetsBase, WritesOnly}
use Rattle.book_tables.proofs.WritingLemmas.BaseTexts.{base_set_query, base_set_terms, two_terms}
use Rattle.book_tables.proofs.WritingLemmas.HiddenWriteLemmas.{is_that, one_at_most, stands_after}
use Rattle.book_tables.specs.Holds.{HasOffice}
use Rattle.book_tables.specs.Kept.{bases_kept, meters_kept}
use Rattle.book_tables.specs.reading.Reading.{HasAllTables}
use Rattle.book_tables.specs.writing.Keeping.{base_keys, meter_keys}
use Rattle.book_tables.proofs.WritingLemmas.KeepingLemmas.{keeps_new, keeps_set, keeps_then, number_kept, text_found, text_kept}
use Rattle.book_tables.proofs.KeptLemmas.{bases_changed, meters_changed}
use Rattle.book_tables.proofs.OfficeTableLemmas.{bases_in, meters_in}
use Rattle.book_tables.proofs.WritingLemmas.OnlyLemmas.{only_then}
use Rattle.book_tables.proofs.WritingLemmas.StoringLemmas.{left_by_one, stores_after, stores_before, stores_hidden}
use Rattle.book_tables.proofs.WritingLemmas.WriteLemmas.{changes_only, only_one}
use Rattle.book_tables.proofs.WritingLemmas.WriteTexts.{is_that_meter}

module _ (old new : State) where
  -- ---- a base more

  abbrev bases : Table
  bases = meter_bases_table (tree_in old.now.schema (codes "meter_bases"))

  base_source : (r : List ℕ × Base) → source_row bases two_terms (base_columns r) ≡ Null ∷ base_columns r
  base_source r = rw (cast_no_int, cast_int (pos (year_of r.1))) refl

  -- after the INSERT, the base of a meter stands after the others
  pub adds_base : HasAllTables old → (number : List ℕ) (base : Base) (params : Row) → params ≡ base_columns (number, base)
      → PutsRow bases (new_row bases two_terms params (old.now.trees bases.tree)) old new → AddsBase number base old new
  adds_base has number base params bound put =
      let h = subst (λ (p : Row). PutsRow bases (new_row bases two_terms p (old.now.trees bases.tree)) old new) bound put in
      let only = only_one (codes "meter_bases") bases _ old new refl h.changed in
      let kept = changes_only (codes "meter_bases") old new only in
      record {
        only = only;
        kept = keeps_new ((1, Text number) ∷ (2, Int (pos (year_of base))) ∷ []) old new bases_kept bases_in has _
            (with_rowid Chosen (old.now.trees bases.tree) (Null ∷ base_columns (number, base))) h kept
            (ap (with_rowid Chosen (old.now.trees bases.tree)) (base_source (number, base))) refl (refl, (refl, tt));
        stored = stores_hidden (codes "meter_bases") bases old new refl _ h (base_columns (number, base))
            (ap (λ (r : Row). drop 1 (with_rowid Chosen (old.now.trees bases.tree) r)) (base_source (number, base)));
        rows = λ told rows held.
            let was = bases_in.holds told old.now rows held in
            let it = stands_after base_columns bases two_terms (base_columns (number, base)) (number, base) (base_source (number, base))
            old new h rows.bases was.0 was.1 in
            bases_changed told old.now new.now rows held (rows.bases ++ (number, base) ∷ []) kept it.0 it.1;
      }

  -- ---- the present base of a meter

  abbrev meters : Table
  meters = meters_table (tree_in old.now.schema (codes "meters"))

  abbrev rebased : Base → (List ℕ × Meter) → (List ℕ × Meter)
  rebased base r = (r.0, with_base base r.1)

  abbrev base_params : List ℕ → Base → Row
  base_params number base = Text number ∷ Int (pos (year_of base)) ∷ []

  setting : (number : List ℕ) (base : Base) → SetsHidden meters is_that_meter base_set_terms (base_params number base) meter_columns
      (is_that old new number) (rebased base)
  setting number base = record {
    passes = λ n r. last_term (text_is r.0 number);
    identifies = λ n r. refl;
    becomes = λ n r. rw (cast_int n, cast_int (pos (year_of base))) refl;
  }

  abbrev base_set_row : List Term
  base_set_row = col 1 0 ∷ col 1 1 ∷ col 0 1 ∷ col 1 3 ∷ col 1 4 ∷ []

  -- after the UPDATE, the meter of this number has this base as its present one
  pub sets_base : HasAllTables old → (number : List ℕ) (base : Base) (params : Row) → params ≡ base_columns (number, base)
      → SetsRows meters (base_set_query meters.tree) params old new → SetsBase number base old new
  sets_base has number base params bound found =
      let h = subst (λ (p : Row). SetsRows meters (base_set_query meters.tree) p old new) bound found in
      let only = only_one (codes "meters") meters _ old new refl h.changed in
      let kept = changes_only (codes "meters") old new only in
      record {
        only = only;
        kept = keeps_set (meter_keys number) old new meters_kept meters_in has is_that_meter base_set_row (base_params number base) h kept
            (λ r passes. text_found (codes "meters") number r passes)
            (λ r is_number own. (
              text_kept (codes "meters") number r
                  (cast_row meters (eval_all base_set_row (base_params number base ∷ r ∷ []))) refl own,
              number_kept (rowid r) is_number,
            ));
        rows = λ rows held apart.
            let was = meters_in.holds present_format old.now rows held in
            let set = sets_hidden meter_columns (is_that old new number) (rebased base) meters is_that_meter base_set_terms
            (base_params number base) (setting number base) (λ r none. cc)
            old new rows.meters h was.0 was.1.rises was.1.are_numbers (one_at_most old new number rows.meters apart) in
            let in_order : IsInOrder set.rows = record { rises = set.rises; are_numbers = set.are_numbers } in
            meters_changed present_format old.now new.now rows held (map (row_with_base number base) rows.meters) kept
            (ap (map (drop 1)) set.changed.rows_are ∙ set.holds) (subst IsInOrder (sym set.changed.rows_are) in_order);
      }

-- ---- both tables

abbrev both : List (List ℕ)
both = codes "meters" ∷ codes "meter_bases" ∷ []

only_two : (old mid new : State) → WritesOnly (codes "meters" ∷ []) old mid → WritesOnly (codes "meter_bases" ∷ []) mid new → WritesOnly both old new
only_two = only_then both (codes "meters" ∷ []) (codes "meter_bases" ∷ []) refl refl

then_has : (old mid : State) → WritesOnly (codes "meters" ∷ []) old mid → HasAllTables old → HasOffice mid.now.schema
then_has old mid only has = subst HasOffice (sym only.schema) (has only.inside.was_open)

-- the row of a meter is put in, and then its base: the office has the meter
pub adds_both : (number : List ℕ) (m : Meter) (old mid new : State) → HasAllTables old → AddsMeterRow number m old mid
    → AddsBase number m.base mid new → AddsMeter number m old new
adds_both number m old mid new has first second = record {
  only = only_two old mid new first.only second.only;
  kept = keeps_then (meter_keys number) (base_keys number m.base) old.now mid.now new.now first.kept second.kept;
  stored = stores_before meters_kept (meter_columns (number, m) ∷ []) old.now mid.now new.now first.stored
      (left_by_one meters_kept bases_kept meters_in bases_in mid.now new.now (then_has old mid first.only has)
      (changes_only (codes "meter_bases") mid new second.only) refl);
  base = stores_after bases_kept (base_columns (number, m.base) ∷ []) old.now mid.now new.now
      (left_by_one bases_kept meters_kept bases_in meters_in old.now mid.now (has first.only.inside.was_open)
      (changes_only (codes "meters") old mid first.only) refl) second.stored;
  rows = λ rows held. second.rows present_format (record rows { meters = rows.meters ++ (number, m) ∷ [] }) (first.rows rows held);
}

-- a meter's present base is set, and then put in as a row: the meter has moved to it
pub moves_both : (number : List ℕ) (base : Base) (old mid new : State) → HasAllTables old → SetsBase number base old mid
    → AddsBase number base mid new → MovesBase number base old new
moves_both number base old mid new has first second = record {
  only = only_two old mid new first.only second.only;
  kept = λ order. keeps_then (meter_keys number) (base_keys number base) old.now mid.now new.now (first.kept order) second.kept;
  stored = stores_after bases_kept (base_columns (number, base) ∷ []) old.now mid.now new.now
      (left_by_one bases_kept meters_kept bases_in meters_in old.now mid.now (has first.only.inside.was_open)
      (changes_only (codes "meters") old mid first.only) refl) second.stored;
  rows = λ rows held apart. second.rows present_format (record rows { meters = map (row_with_base number base) rows.meters }) (first.rows rows held apart);
}
