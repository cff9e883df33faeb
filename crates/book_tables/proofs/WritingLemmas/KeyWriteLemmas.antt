-- What the rows of meters are after one of them was given a key.
use Rattle.std.proofs.Common.{◌≡◌, ℕ, pos, List, [], ◌∷◌, drop, map, codes, refl, sym, ap, subst, ◌∙◌}
use Rattle.sqlite.specs.Order.{Row}
use Rattle.sqlite.specs.State.{State}
use Rattle.sqlite_value.specs.declared.value.Value.TheVariants.{Text}
use Rattle.sqlite_sql.specs.Term.{Term, col, eval_all}
use Rattle.sqlite_trees.specs.Tree.{rowid}
use Rattle.sqlite_rules.specs.Cast.{cast_row}
use Rattle.sqlite_schema.specs.declared.schema.Table.{Table}
use Rattle.sqlite_typed.proofs.TestLemmas.{last_term}
use Rattle.one_table.specs.InTransaction.{SetsRows}
use Rattle.one_table.specs.Numbered.{IsInOrder}
use Rattle.one_table.specs.Standing.{tree_in}
use Rattle.one_table.specs.Updating.{SetsHidden}
use Rattle.one_table.proofs.CastLemmas.{cast_int}
use Rattle.one_table.proofs.HiddenSetLemmas.{sets_hidden}
use Rattle.one_table.proofs.TestsLemmas.{text_is}
use Rattle.sts_fields.specs.Base.{year_of}
use Rattle.office_rules.specs.Decision.Edits.{with_key}
use Rattle.office_rules.specs.declared.office.meter.Meter.{Meter}
use Rattle.book_tables.specs.writing.Edited.{row_with_key}
use Rattle.book_tables.specs.row.Rows.{meter_columns, present_format, secret_of}
use Rattle.book_tables.specs.Tables.{meters_table}
use Rattle.book_tables.specs.writing.Writing.{SetsKey}
use Rattle.book_tables.specs.Kept.{meters_kept}
use Rattle.book_tables.specs.reading.Reading.{HasAllTables}
use Rattle.book_tables.specs.writing.Keeping.{meter_keys}
use Rattle.book_tables.proofs.KeptLemmas.{meters_changed}
use Rattle.book_tables.proofs.OfficeTableLemmas.{meters_in}
use Rattle.book_tables.proofs.WritingLemmas.HiddenWriteLemmas.{is_that, one_at_most}
use Rattle.book_tables.proofs.WritingLemmas.KeepingLemmas.{keeps_set, number_kept, text_found, text_kept}
use Rattle.book_tables.proofs.WritingLemmas.WriteLemmas.{changes_only, only_one}
use Rattle.book_tables.proofs.WritingLemmas.WriteTexts.{is_that_meter, key_set_query, key_set_terms}

module _ (old new : State) where
  abbrev meters : Table
  meters = meters_table (tree_in old.now.schema (codes "meters"))

  abbrev given : ℕ → (List ℕ × Meter) → (List ℕ × Meter)
  given key r = (r.0, with_key key r.1)

  abbrev key_params : List ℕ → ℕ → Row
  key_params number key = Text number ∷ Text (secret_of key) ∷ []

  setting : (number : List ℕ) (key : ℕ) → SetsHidden meters is_that_meter key_set_terms (key_params number key) meter_columns
      (is_that old new number) (given key)
  setting number key = record {
    passes = λ n r. last_term (text_is r.0 number);
    identifies = λ n r. refl;
    becomes = λ n r. rw (cast_int n, cast_int (pos (year_of r.1.base))) refl;
  }

  abbrev key_set_row : List Term
  key_set_row = col 1 0 ∷ col 1 1 ∷ col 1 2 ∷ col 1 3 ∷ col 0 1 ∷ []

  -- after the UPDATE, the meter of this number has this key
  pub sets_key : HasAllTables old → (number : List ℕ) (key : ℕ) (params : Row) → params ≡ key_params number key
      → SetsRows meters (key_set_query meters.tree) params old new → SetsKey number key old new
  sets_key has number key params bound found =
      let h = subst (λ (p : Row). SetsRows meters (key_set_query meters.tree) p old new) bound found in
      let only = only_one (codes "meters") meters _ old new refl h.changed in
      let kept = changes_only (codes "meters") old new only in
      record {
        only = only;
        kept = keeps_set (meter_keys number) old new meters_kept meters_in has is_that_meter key_set_row (key_params number key) h kept
            (λ r passes. text_found (codes "meters") number r passes)
            (λ r is_number own. (
              text_kept (codes "meters") number r
                  (cast_row meters (eval_all key_set_row (key_params number key ∷ r ∷ []))) refl own,
              number_kept (rowid r) is_number,
            ));
        rows = λ rows held apart.
            let was = meters_in.holds present_format old.now rows held in
            let set = sets_hidden meter_columns (is_that old new number) (given key) meters is_that_meter key_set_terms
            (key_params number key) (setting number key) (λ r none. cc)
            old new rows.meters h was.0 was.1.rises was.1.are_numbers (one_at_most old new number rows.meters apart) in
            let in_order : IsInOrder set.rows = record { rises = set.rises; are_numbers = set.are_numbers } in
            meters_changed present_format old.now new.now rows held (map (row_with_key number key) rows.meters) kept
            (ap (map (drop 1)) set.changed.rows_are ∙ set.holds) (subst IsInOrder (sym set.changed.rows_are) in_order);
      }
