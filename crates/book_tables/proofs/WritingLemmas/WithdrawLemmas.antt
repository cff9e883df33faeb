-- What the rows of dated steps are after those of a tariff and a day were withdrawn.
use Rattle.std.proofs.Common.{◌≡◌, ℕ, pos, Bool, true, false, List, [], ◌∷◌, Some, drop, map, codes, refl, sym, ap, ap₂, subst, ◌∙◌, inl, inr, is_eq}
use Rattle.std.specs.Prelude.{◌&&◌, ◌||◌, filter, not, if◌then◌else◌}
use Rattle.std.specs.List.{AllByRecursion, list_all}
use Rattle.std.proofs.lemmas.Bool.{and_parts, cases_Bool, false≢true}
use Rattle.sqlite.specs.Order.{Row}
use Rattle.sqlite.specs.State.{State}
use Rattle.sqlite_value.specs.Order.{column, value_cmp}
use Rattle.sqlite_value.specs.declared.keys.Collation.TheVariants.{Binary}
use Rattle.sqlite_value.specs.declared.value.Value.{Value}
use Rattle.sqlite_value.specs.declared.value.Value.TheVariants.{Null, Int, Real, Text, Blob}
use Rattle.sqlite_value.proofs.OrderLemmas.{value_cmp-apart}
use Rattle.sqlite_keyed.proofs.ListLemmas.{all_weaker}
use Rattle.sqlite_sql.specs.declared.ops.BinaryOp.TheVariants.{Compare}
use Rattle.sqlite_sql.specs.declared.ops.CompareOp.TheVariants.{Eq}
use Rattle.sqlite_sql.specs.Ops.{binary, from_truth, is_null, is_true}
use Rattle.sqlite_sql.specs.Term.{holds}
use Rattle.sqlite_schema.specs.declared.schema.Table.{Table}
use Rattle.sqlite_typed.proofs.TestLemmas.{last_term, then_term}
use Rattle.one_table.specs.Deleting.{RemovesHidden, removal_query}
use Rattle.one_table.specs.InTransaction.{RemovesRows}
use Rattle.one_table.specs.Numbered.{IsInOrder}
use Rattle.one_table.specs.Standing.{tree_in}
use Rattle.one_table.proofs.HiddenDeleteLemmas.{removes_hidden}
use Rattle.one_table.proofs.TestsLemmas.{number_is, text_is}
use Rattle.book_tables.specs.Kept.{dated_steps_kept}
use Rattle.book_tables.specs.Tables.{dated_steps_table}
use Rattle.book_tables.specs.reading.Reading.{HasAllTables}
use Rattle.book_tables.specs.row.Rows.{dated_columns, present_format}
use Rattle.book_tables.specs.writing.Edited.{is_from}
use Rattle.book_tables.specs.writing.Keeping.{dated_key, dated_keys, has_key, is_own}
use Rattle.book_tables.specs.writing.Writing.{WithdrawsSteps}
use Rattle.book_tables.proofs.KeptLemmas.{dated_steps_changed}
use Rattle.book_tables.proofs.OfficeTableLemmas.{dated_steps_in}
use Rattle.book_tables.proofs.ReadingLemmas.DatedTexts.{is_from_day}
use Rattle.book_tables.proofs.WritingLemmas.KeepingLemmas.{compares, keeps_in, own_of_key}
use Rattle.book_tables.proofs.WritingLemmas.OtherRowsLemmas.{none_passes, remove_keeps}
use Rattle.book_tables.proofs.WritingLemmas.WriteLemmas.{changes_only, only_one}

-- ---- values that are found by a key

-- what compares as equal to a value that is there is there
there_too : (v w : Value) → is_null w ≡ false → is_eq (value_cmp v w) ≡ true → is_null v ≡ false
there_too Null Null there h = absurd (false≢true (sym there))
there_too Null (Int n) there h = absurd (false≢true (sym (ap is_eq (value_cmp-apart Null (Int n) (λ same. cc))) ∙ h))
there_too Null (Real x) there h = absurd (false≢true (sym (ap is_eq (value_cmp-apart Null (Real x) (λ same. cc))) ∙ h))
there_too Null (Text t) there h = absurd (false≢true (sym (ap is_eq (value_cmp-apart Null (Text t) (λ same. cc))) ∙ h))
there_too Null (Blob b) there h = absurd (false≢true (sym (ap is_eq (value_cmp-apart Null (Blob b) (λ same. cc))) ∙ h))
there_too (Int n) w there h = refl
there_too (Real x) w there h = refl
there_too (Text t) w there h = refl
there_too (Blob b) w there h = refl

-- a value that compares as equal to one that is there is found
found_as : (a b : Value) → is_null b ≡ false → is_eq (value_cmp a b) ≡ true → is_true (binary (Compare Eq Binary) a b) ≡ true
unfolding binary
found_as a b there h = go (is_null a) (is_null b) (there_too a b there h) there
  where
    go : (m n : Bool) → m ≡ false → n ≡ false → is_true (if m || n then Null else from_truth (Some (is_eq (value_cmp a b)))) ≡ true
    go true n is none = absurd (false≢true (sym is))
    go false true is none = absurd (false≢true (sym none))
    go false false is none = ap (λ (e : Bool). is_true (from_truth (Some e))) h

module _ (name : List ℕ) (day : ℕ) where
  abbrev params : Row
  params = Text name ∷ Int (pos day) ∷ []

  abbrev passes : Row → Bool
  passes r = list_all (holds (params ∷ r ∷ [])) is_from_day

  abbrev first_is : Row → Bool
  first_is r = is_true (binary (Compare Eq Binary) (column r 1) (Text name))

  abbrev second_is : Row → Bool
  second_is r = is_true (binary (Compare Eq Binary) (column r 2) (Int (pos day)))

  -- a row that is found has the key
  found_own : (r : Row) → passes r ≡ true → is_own (dated_keys name day) (codes "dated_steps") r ≡ true
  found_own r found =
      let parts = and_parts (first_is r) (second_is r && true) found in
      let second = (and_parts (second_is r) true parts.1).0 in
      own_of_key (codes "dated_steps") (dated_key name day) r
      (ap₂ (λ (x y : Bool). x && (y && true)) (compares (column r 1) (Text name) parts.0) (compares (column r 2) (Int (pos day)) second))

  -- and a row that has the key is found
  own_found : (r : Row) → has_key (dated_key name day) r ≡ true → passes r ≡ true
  own_found r has =
      let first = is_eq (value_cmp (column r 1) (Text name)) in
      let second = is_eq (value_cmp (column r 2) (Int (pos day))) in
      let parts = and_parts first (second && true) has in
      let last = (and_parts second true parts.1).0 in
      ap₂ (λ (x y : Bool). x && (y && true)) (found_as (column r 1) (Text name) refl parts.0) (found_as (column r 2) (Int (pos day)) refl last)

  not_own : (r : Row) → passes r ≡ false → has_key (dated_key name day) r ≡ false
  not_own r fails = elim (cases_Bool (has_key (dated_key name day) r)) [
    | inl has ↦ absurd (false≢true (sym fails ∙ own_found r has))
    | inr none ↦ none
  ]

  removing : RemovesHidden is_from_day params dated_columns (is_from name day)
  removing = record { passes = λ n r. then_term (text_is r.tariff name) (last_term (number_is r.day day)) }

  -- ---- the statement

  module _ (old new : State) where
    abbrev dated : Table
    dated = dated_steps_table (tree_in old.now.schema (codes "dated_steps"))

    -- after the DELETE, no row of these steps is left, and the others stand in their order
    pub withdraws_steps : HasAllTables old → (bound : Row) → bound ≡ params → RemovesRows dated (removal_query dated.tree is_from_day) bound old new
        → WithdrawsSteps name day old new
    withdraws_steps has bound are found =
        let h = subst (λ (p : Row). RemovesRows dated (removal_query dated.tree is_from_day) p old new) are found in
        let only = only_one (codes "dated_steps") dated _ old new refl h.changed in
        let kept = changes_only (codes "dated_steps") old new only in
        record {
          only = only;
          kept = λ order.
              let here = has h.changed.inside.was_open in
              let stay = remove_keeps (is_own (dated_keys name day) (codes "dated_steps")) dated is_from_day params old new order.0 h found_own in
              keeps_in (dated_keys name day) old.now new.now dated_steps_kept (dated_steps_in.there old.now.schema here) here kept stay.0 (λ _. stay.1);
          gone = λ order.
              let none = none_passes dated is_from_day params old new order.0 h in
              let rows_are = ap (λ s. new.now.trees (tree_in s (codes "dated_steps"))) kept.schema in
              subst (AllByRecursion (λ r. has_key (dated_key name day) r ≡ false)) (sym rows_are)
              (all_weaker (λ r. passes r ≡ false) (λ r. has_key (dated_key name day) r ≡ false) not_own (new.now.trees dated.tree) none);
          rows = λ rows held.
              let was = dated_steps_in.holds present_format old.now rows held in
              let left = removes_hidden dated_columns (is_from name day) dated is_from_day params removing old new rows.dated_steps h was.0 was.1 in
              let in_order : IsInOrder left.rows = record { rises = left.rises; are_numbers = left.are_numbers } in
              dated_steps_changed present_format old.now new.now rows held (filter (λ r. not (is_from name day r)) rows.dated_steps) kept
              (ap (map (drop 1)) left.changed.rows_are ∙ left.holds) (subst IsInOrder (sym left.changed.rows_are) in_order);
        }
