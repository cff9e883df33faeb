-- What the rows of the office are after a write of one of its tables.
use Rattle.std.proofs.Common.{◌≡◌, ◌<◌, ℕ, ℤ, suc, pos, ◌==◌, ◌≤◌, Bool, Option, None, ◌+◌, ◌+ℤ◌, ◌<ℤ◌, List, [], ◌∷◌, ◌++◌, length, map, filter, find, fold, Some, slice_get, codes, refl, sym, ap, subst, ◌∙◌, arith}
use Rattle.std.specs.List.{AllByRecursion}
use Rattle.std.proofs.lemmas.Int.{ints}
use Rattle.std.specs.Option.{option_to_list}
use Rattle.sqlite.specs.Order.{Row}
use Rattle.sqlite_value.specs.declared.value.Value.TheVariants.{Int}
use Rattle.sqlite_rules.specs.Cast.{cast}
use Rattle.sqlite_schema.specs.declared.schema.Kind.TheVariants.{Integer}
use Rattle.sqlite_typed.proofs.TestLemmas.{last_term}
use Rattle.one_table.specs.InTransaction.{SetsRows}
use Rattle.one_table.specs.Updating.{Sets}
use Rattle.std.proofs.Common.{IsTrue, true, ◌&&◌}
use Rattle.std.specs.List.{list_all}
use Rattle.std.proofs.lemmas.Bool.{and_parts}
use Rattle.sqlite_value.specs.declared.keys.Collation.TheVariants.{Binary}
use Rattle.sqlite_value.specs.declared.value.Value.TheVariants.{Null}
use Rattle.sqlite_value.specs.Order.{column}
use Rattle.sqlite_sql.specs.declared.ops.BinaryOp.TheVariants.{Compare}
use Rattle.sqlite_sql.specs.declared.ops.CompareOp.TheVariants.{Eq}
use Rattle.sqlite_sql.specs.Ops.{binary, is_true}
use Rattle.sqlite_sql.specs.Term.{Term, col, eval_all, holds, lit}
use Rattle.sqlite_rules.specs.Cast.{cast_row}
use Rattle.sqlite_trees.specs.Tree.{rowid}
use Rattle.sqlite_trees.specs.View.{is_int}
use Rattle.one_table.proofs.TestsLemmas.{number_is}
use Rattle.one_table.proofs.UpdateLemmas.{sets_listed}
use Rattle.office_rules.specs.Decision.Fold.{closed_at}
use Rattle.office_rules.specs.declared.office.shift.Shift.{Shift}
use Rattle.book_tables.specs.writing.Edited.{shift_closed}
use Rattle.book_tables.specs.row.Rows.{optional, present_format, shift_columns, shift_row}
use Rattle.book_tables.specs.Tables.{shifts_table}
use Rattle.book_tables.specs.writing.Writing.{AddsShift, ClosesShift}
use Rattle.book_tables.proofs.ReadingLemmas.FoundLemmas.{found_numbered}
use Rattle.book_tables.proofs.KeptLemmas.{shifts_changed}
use Rattle.book_tables.proofs.WritingLemmas.StoringLemmas.{stores_numbered}
use Rattle.book_tables.proofs.WritingLemmas.WriteTexts.{new_shift_terms, shift_closed_query, shift_closed_terms, is_that_shift}
use Rattle.sqlite.specs.State.{State}
use Rattle.sqlite_keyed.specs.Keyed.{IsKeyedBy, next_key}
use Rattle.sqlite_keyed.proofs.ListLemmas.{all_weaker}
use Rattle.sqlite_schema.specs.declared.schema.Table.{Table}
use Rattle.sqlite_trees.specs.Tree.{put_row}
use Rattle.one_table.specs.InTransaction.{HasChanged, PutsRow}
use Rattle.one_table.specs.Inserting.{new_row}
use Rattle.one_table.specs.Standing.{tree_in}
use Rattle.one_table.proofs.AppendLemmas.{appends}
use Rattle.one_table.proofs.CastLemmas.{cast_int, cast_no_int}
use Rattle.office_rules.specs.Office.{AreNumbered}
use Rattle.office_rules.specs.declared.office.sale.Sale.{Sale}
use Rattle.sts_fields.specs.Base.{year_of}
use Rattle.sts_fields.specs.Calendar.{month_at}
use Rattle.book_tables.specs.row.Rows.{sale_columns, sale_row}
use Rattle.book_tables.specs.Tables.{sales_table}
use Rattle.book_tables.specs.writing.Writing.{AddsSale, IsNextNumber, WritesOnly}
use Rattle.book_tables.specs.Kept.{sales_kept, shifts_kept}
use Rattle.book_tables.specs.reading.Reading.{HasAllTables}
use Rattle.book_tables.specs.writing.Keeping.{is_own, shift_keys}
use Rattle.book_tables.proofs.OfficeTableLemmas.{sales_in, shifts_in}
use Rattle.book_tables.proofs.WritingLemmas.KeepingLemmas.{compares, keeps_new, keeps_set, number_kept, own_number_kept, own_of_key}
use Rattle.book_tables.proofs.KeptLemmas.{ChangesOnly, sales_changed}
use Rattle.book_tables.proofs.WritingLemmas.WriteTexts.{new_sale_terms}

-- ---- numbers that count

module _ {X : Type 0} (number : X → ℕ) where
  abbrev key : X → ℤ
  key x = pos (number x)

  -- the rows are numbered from this number on
  abbrev CountFrom : ℕ → List X → Type 0
  CountFrom from xs = (i : ℕ) (x : X) → slice_get xs i ≡ Some x → number x ≡ i + from

  further : (from : ℕ) (x : X) (xs : List X) → CountFrom from (x ∷ xs) → CountFrom (from + 1) xs
  further from x xs count i y at = omega (arith, count (suc i) y at)

  above : (n from : ℕ) (xs : List X) → CountFrom from xs → n < from → AllByRecursion (λ y. pos n <ℤ key y) xs
  above n from [] count below = tt
  above n from (x ∷ xs) count below =
      let here : number x ≡ 0 + from = count 0 x refl in
      (grind (arith, ints, here, below), above n (from + 1) xs (further from x xs count) (omega (arith, below)))

  keyed_from : (from : ℕ) (xs : List X) → CountFrom from xs → IsKeyedBy key xs
  keyed_from from [] count = tt
  keyed_from from (x ∷ xs) count =
      let here : number x ≡ 0 + from = count 0 x refl in
      (above (number x) (from + 1) xs (further from x xs count) (omega (arith, here)), keyed_from (from + 1) xs (further from x xs count))

  next_from : (from : ℕ) (xs : List X) → CountFrom from xs → fold (λ _ x. key x +ℤ pos 1) (pos from) xs ≡ pos (length xs + from)
  next_from from [] count = let none : from ≡ 0 + from = omega arith in ap pos none
  next_from from (x ∷ xs) count =
      let here : number x ≡ from = omega (arith, count 0 x refl) in
      let more : length xs + (from + 1) ≡ suc (length xs) + from = omega arith in
      ap (λ n. fold (λ _ x. key x +ℤ pos 1) (pos (n + 1)) xs) here ∙ next_from (from + 1) xs (further from x xs count) ∙ ap pos more

  -- rows that are numbered from 1 on rise by their numbers
  pub numbers_rise : (xs : List X) → AreNumbered number xs → IsKeyedBy key xs
  numbers_rise xs count = keyed_from 1 xs count

  -- and their next number is the one above the last of them
  pub next_number : (xs : List X) (n : ℕ) → IsNextNumber number xs n → pos n ≡ next_key key xs
  next_number xs n next = ap pos next.next_is ∙ sym (next_from 1 xs next.numbered)

-- ---- one table

-- a statement on the rows of one table leaves the rows of all others as they are
pub only_one : (name : List ℕ) (t : Table) (rows : List Row) (old new : State) → t.tree ≡ tree_in old.now.schema name
    → HasChanged t rows old new → WritesOnly (name ∷ []) old new
only_one name t rows old new is h = record {
  inside = h.inside;
  marks = h.marks;
  schema = h.schema;
  tables = all_weaker _ _ (λ u kept apart. kept (λ same. apart.0 (same ∙ is))) old.now.schema.tables h.tables;
  others = λ tree apart no_index. h.others tree (λ same. apart.0 (same ∙ is)) no_index;
  sound = h.sound;
}

-- the same, told of the two databases
pub changes_only : (name : List ℕ) (old new : State) → WritesOnly (name ∷ []) old new → ChangesOnly name old.now new.now
changes_only name old new only = record {
  schema = only.schema;
  tables = all_weaker _ _ (λ u kept apart. kept (apart, tt)) old.now.schema.tables only.tables;
}

-- ---- values that a column keeps

-- a column of integers keeps a number that may be missing
pub cast_optional : (o : Option ℕ) → cast Integer (optional o) ≡ optional o
cast_optional None = cast_no_int
cast_optional (Some n) = cast_int (pos n)

-- ---- one row at most

-- as a list, what may be missing has one element at most
pub few : {X : Type 0} (o : Option X) → length (option_to_list o) ≤ 1
few None = omega arith
few (Some x) = omega arith

-- ---- a new sale

sale_is : (tree : ℕ) (s : Sale) (rows : List Row) → new_row (sales_table tree) new_sale_terms (sale_columns s) rows ≡ sale_row s
sale_is tree s rows =
    rw (
      cast_int (pos s.number),
      cast_no_int,
      cast_int (pos s.moment),
      cast_int (pos (month_at s.moment)),
      cast_int (pos s.shift),
      cast_int (pos (year_of s.base)),
      cast_int (pos s.tid),
      cast_int (pos s.rnd),
      cast_int (pos s.tenths),
      cast_int (pos s.price),
      cast_int (pos s.tender),
    ) refl

module _ (old new : State) (s : Sale) (params : Row) (bound : params ≡ sale_columns s) where
  abbrev sales : Table
  sales = sales_table (tree_in old.now.schema (codes "sales"))

  -- after the INSERT, a sale of the next number stands after the others
  pub adds_sale : HasAllTables old → PutsRow sales (new_row sales new_sale_terms params (old.now.trees sales.tree)) old new → AddsSale s old new
  adds_sale has h =
      let only = only_one (codes "sales") sales _ old new refl h.changed in
      let kept = changes_only (codes "sales") old new only in
      let row : new_row sales new_sale_terms params (old.now.trees sales.tree) ≡ sale_row s =
      ap (λ (p : Row). new_row sales new_sale_terms p (old.now.trees sales.tree)) bound ∙ sale_is sales.tree s (old.now.trees sales.tree) in
      record {
        only = only;
        kept = keeps_new ((0, Int (pos s.number)) ∷ []) old new sales_kept sales_in has _ (sale_row s) h kept row refl (refl, tt);
        stored = stores_numbered (codes "sales") sales old new refl _ h (sale_row s) row;
        rows = λ rows held next.
            let put = h.changed.rows_are ∙ ap (λ (r : Row). put_row r (old.now.trees sales.tree)) row
            ∙ ap (put_row (sale_row s)) (sales_in.holds present_format old.now rows held)
            ∙ appends (λ (x : Sale). pos x.number) sale_row (λ x. refl) rows.sales s
            (numbers_rise (λ (x : Sale). x.number) rows.sales next.numbered) (next_number (λ (x : Sale). x.number) rows.sales s.number next) in
            sales_changed present_format old.now new.now rows held (rows.sales ++ s ∷ []) kept put;
      }

-- ---- a new shift

shift_is : (tree : ℕ) (s : Shift) (rows : List Row) → new_row (shifts_table tree) new_shift_terms (shift_columns s) rows ≡ shift_row s
shift_is tree s rows = rw (cast_int (pos s.number), cast_no_int, cast_int (pos s.opened), cast_optional s.closed) refl

module _ (old new : State) where
  abbrev shifts : Table
  shifts = shifts_table (tree_in old.now.schema (codes "shifts"))

  -- after the INSERT, a shift of the next number stands after the others
  pub adds_shift : HasAllTables old → (s : Shift) (params : Row) → params ≡ shift_columns s
      → PutsRow shifts (new_row shifts new_shift_terms params (old.now.trees shifts.tree)) old new → AddsShift s old new
  adds_shift has s params bound h =
      let only = only_one (codes "shifts") shifts _ old new refl h.changed in
      let kept = changes_only (codes "shifts") old new only in
      let row : new_row shifts new_shift_terms params (old.now.trees shifts.tree) ≡ shift_row s =
      ap (λ (p : Row). new_row shifts new_shift_terms p (old.now.trees shifts.tree)) bound ∙ shift_is shifts.tree s (old.now.trees shifts.tree) in
      record {
        only = only;
        kept = keeps_new ((0, Int (pos s.number)) ∷ []) old new shifts_kept shifts_in has _ (shift_row s) h kept row refl (refl, tt);
        stored = stores_numbered (codes "shifts") shifts old new refl _ h (shift_row s) row;
        rows = λ rows held next.
            let put = h.changed.rows_are ∙ ap (λ (r : Row). put_row r (old.now.trees shifts.tree)) row
            ∙ ap (put_row (shift_row s)) (shifts_in.holds present_format old.now rows held)
            ∙ appends (λ (x : Shift). pos x.number) shift_row (λ x. refl) rows.shifts s
            (numbers_rise (λ (x : Shift). x.number) rows.shifts next.numbered) (next_number (λ (x : Shift). x.number) rows.shifts s.number next) in
            shifts_changed present_format old.now new.now rows held (rows.shifts ++ s ∷ []) kept put;
      }

  -- ---- a shift that is closed

  abbrev is_that : ℕ → Shift → Bool
  is_that number s = s.number == number

  closing : (number moment : ℕ) → Sets shifts is_that_shift shift_closed_terms (Int (pos number) ∷ Int (pos moment) ∷ [])
      (λ (s : Shift). pos s.number) shift_row (is_that number) (closed_at moment)
  closing number moment = record {
    keyed = λ s. refl;
    passes = λ s. last_term (number_is s.number number);
    identifies = λ s. refl;
    becomes = λ s. rw (cast_int (pos s.number), cast_no_int, cast_int (pos s.opened), cast_int (pos moment)) refl;
    stays = λ s. refl;
  }

  abbrev closed_row : List Term
  closed_row = col 1 0 ∷ lit Null ∷ col 1 2 ∷ col 1 3 ∷ col 0 1 ∷ []

  -- what is closed has the number, and keeps it
  closes_own : (number moment : ℕ) (r : Row) → list_all (holds ((Int (pos number) ∷ Int (pos moment) ∷ []) ∷ r ∷ [])) is_that_shift ≡ true
      → is_own (shift_keys number) (codes "shifts") r ≡ true
  closes_own number moment r found = own_of_key (codes "shifts") ((0, Int (pos number)) ∷ []) r
      (ap (λ (b : Bool). b && true) (compares (column r 0) (Int (pos number))
      (and_parts (is_true (binary (Compare Eq Binary) (column r 0) (Int (pos number)))) true found).0))

  closed_own : (number moment : ℕ) (r : Row) → IsTrue (is_int (rowid r)) → is_own (shift_keys number) (codes "shifts") r ≡ true
      → (is_own (shift_keys number) (codes "shifts") (cast_row shifts (eval_all closed_row ((Int (pos number) ∷ Int (pos moment) ∷ []) ∷ r ∷ []))) ≡ true)
      × (rowid (cast_row shifts (eval_all closed_row ((Int (pos number) ∷ Int (pos moment) ∷ []) ∷ r ∷ []))) ≡ rowid r)
  closed_own number moment r is_number own = let same = number_kept (rowid r) is_number in
      (own_number_kept (codes "shifts") number r (cast_row shifts (eval_all closed_row ((Int (pos number) ∷ Int (pos moment) ∷ []) ∷ r ∷ []))) same own, same)

  -- after the UPDATE, the shift of this number is closed at this moment
  pub closes_shift : HasAllTables old → (number moment : ℕ) (params : Row) → params ≡ Int (pos number) ∷ Int (pos moment) ∷ []
      → SetsRows shifts (shift_closed_query shifts.tree) params old new → ClosesShift number moment old new
  closes_shift has number moment params bound h =
      let set = subst (λ (p : Row). SetsRows shifts (shift_closed_query shifts.tree) p old new) bound h in
      let only = only_one (codes "shifts") shifts _ old new refl set.changed in
      let kept = changes_only (codes "shifts") old new only in
      record {
        only = only;
        kept = keeps_set (shift_keys number) old new shifts_kept shifts_in has is_that_shift closed_row
            (Int (pos number) ∷ Int (pos moment) ∷ []) set kept (closes_own number moment) (closed_own number moment);
        rows = λ rows held numbered.
            let one : length (filter (is_that number) rows.shifts) ≤ 1 =
            subst (λ (l : List Shift). length l ≤ 1) (sym (found_numbered (λ (s : Shift). s.number) rows.shifts number numbered))
            (few (find (is_that number) rows.shifts)) in
            let changed = sets_listed shifts is_that_shift shift_closed_terms (Int (pos number) ∷ Int (pos moment) ∷ [])
            (λ (s : Shift). pos s.number) shift_row (is_that number) (closed_at moment) (closing number moment)
            old new rows.shifts set (shifts_in.holds present_format old.now rows held)
            (numbers_rise (λ (s : Shift). s.number) rows.shifts numbered) one in
            shifts_changed present_format old.now new.now rows held (map (shift_closed number moment) rows.shifts) kept changed.rows_are;
      }
