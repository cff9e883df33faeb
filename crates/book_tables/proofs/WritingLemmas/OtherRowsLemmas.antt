-- Which rows of a tree stay where rows of one's own are put in, set, merged or taken out, whatever
-- the others are.
use Rattle.std.proofs.Common.{◌≡◌, ℤ, Bool, true, false, not, if◌then◌else◌, IsTrue, List, [], ◌∷◌, drop, map, filter, Ordering, Less, Equal, Greater, is_eq, refl, sym, ap, subst, ◌∙◌, inl, inr}
use Rattle.std.specs.List.{AllByRecursion, list_all}
use Rattle.std.specs.Ordering.{match_ordering, ordering_reverse}
use Rattle.std.proofs.lemmas.Bool.{cases_Bool, false≢true}
use Rattle.std.proofs.lemmas.Cmp.{tied_itself}
use Rattle.std.proofs.lemmas.List.Sorted.{IsPermutation-sym}
use Rattle.std.proofs.lemmas.List.{map-id}
use Rattle.sqlite.specs.Order.{Row}
use Rattle.sqlite.specs.State.{State}
use Rattle.sqlite_keyed.proofs.ListLemmas.{all-filter, all_both, all_map, all_weaker, ascending-filter, none_from_any}
use Rattle.sqlite_rules.specs.Calls.{ids_of}
use Rattle.sqlite_rules.specs.Cast.{cast_row}
use Rattle.sqlite_rules.specs.declared.error.Rowids.TheVariants.{Given}
use Rattle.sqlite_rules.specs.Edit.{id_in, is_taken, numbered, put_all, without_all}
use Rattle.sqlite_rules.specs.Lists.{Has as Member}
use Rattle.sqlite_rules.proofs.ListLemmas.{all_from, all_has, has_filtered}
use Rattle.sqlite_schema.specs.declared.schema.Table.{Table}
use Rattle.sqlite_sql.specs.Query.{IsAnswer}
use Rattle.sqlite_sql.specs.Term.{Term, col, eval_all, holds}
use Rattle.sqlite_trees.specs.Tree.{IsTable, has_rowid, put_row, rowid, without_rowid}
use Rattle.sqlite_trees.specs.View.{is_int}
use Rattle.sqlite_trees.proofs.ListLemmas.{all-permutation}
use Rattle.sqlite_trees.proofs.TreeLemmas.{IsTable-put_row, all-put_row}
use Rattle.sqlite_value.specs.Order.{value_cmp}
use Rattle.sqlite_value.specs.declared.value.Value.{Value}
use Rattle.sqlite_value.specs.declared.value.Value.TheVariants.{Null, Int, Real, Text, Blob}
use Rattle.sqlite_value.proofs.OrderLemmas.{value_cmp_total}
use Rattle.one_table.specs.Deleting.{removal_query}
use Rattle.one_table.specs.InTransaction.{PutsRow, RemovesRows, SetsRows}
use Rattle.one_table.specs.Listed.{IsListing, no_limit, query_on}
use Rattle.one_table.specs.Merges.{Upserts, given_row, set_row}
use Rattle.one_table.specs.Numbered.{IsInOrder}
use Rattle.one_table.specs.Standing.{own_keys}
use Rattle.one_table.specs.Upserting.{Merging, is_of_key}
use Rattle.one_table.proofs.ListedLemmas.{all_rows}
use Rattle.one_table.proofs.OneRowLemmas.{kept_member}

-- what passes the test for equality compares as equal
pub eq_is : (o : Ordering) → is_eq o ≡ true → o ≡ Equal
eq_is Less h = absurd (false≢true h)
eq_is Equal h = refl
eq_is Greater h = absurd (false≢true h)

int_back : (v : Value) → IsTrue (is_int v) → Int (id_in v) ≡ v
int_back Null h = absurd (false≢true h)
int_back (Int n) h = refl
int_back (Real x) h = absurd (false≢true h)
int_back (Text t) h = absurd (false≢true h)
int_back (Blob b) h = absurd (false≢true h)

given_ids : (rows sources : List Row) → numbered Given rows sources ≡ sources
given_ids rows [] = refl
given_ids rows (r ∷ sources) = ap (λ (l : List Row). r ∷ l) (given_ids (put_row r rows) sources)

-- ---- in rows whose numbers rise, a number is of one row

same_row : (rows : List Row) → IsTable rows → (a b : Row) → Member rows a → Member rows b → value_cmp (rowid a) (rowid b) ≡ Equal → a ≡ b
same_row [] up a b in_a in_b e = absurd in_a
same_row (r ∷ rs) up a b (inl x) (inl y) e = x ∙ sym y
same_row (r ∷ rs) up a b (inl x) (inr y) e =
    let below : value_cmp (rowid r) (rowid b) ≡ Less = all_has (λ (s : Row). value_cmp (rowid r) (rowid s) ≡ Less) rs b up.0 y in
    let here : value_cmp (rowid r) (rowid b) ≡ Equal = ap (λ (s : Row). value_cmp (rowid s) (rowid b)) (sym x) ∙ e in
    absurd (false≢true (ap is_eq (sym below ∙ here)))
same_row (r ∷ rs) up a b (inr x) (inl y) e =
    let below : value_cmp (rowid r) (rowid a) ≡ Less = all_has (λ (s : Row). value_cmp (rowid r) (rowid s) ≡ Less) rs a up.0 x in
    let here : value_cmp (rowid a) (rowid r) ≡ Equal = ap (λ (s : Row). value_cmp (rowid a) (rowid s)) (sym y) ∙ e in
    let turned : value_cmp (rowid r) (rowid a) ≡ Equal = value_cmp_total.antisymm (rowid r) (rowid a) ∙ ap ordering_reverse here in
    absurd (false≢true (ap is_eq (sym below ∙ turned)))
same_row (r ∷ rs) up a b (inr x) (inr y) e = same_row rs up.1 a b x y e

module _ (p : Row → Bool) where
  -- the rows that are not one's own
  abbrev pub others : List Row → List Row
  others rows = filter (λ row. not (p row)) rows

  -- a row of one's own in front is none of the others
  pub drop_own : (r : Row) (rs : List Row) → p r ≡ true → others (r ∷ rs) ≡ others rs
  drop_own r rs own = ap (λ (b : Bool). if not b then r ∷ others rs else others rs) own

  -- one row in front of two lists with the same others leaves these the same
  pub keep_first : (r : Row) (xs ys : List Row) → others xs ≡ others ys → others (r ∷ xs) ≡ others (r ∷ ys)
  keep_first r xs ys same = ap (λ (l : List Row). if not (p r) then r ∷ l else l) same

  -- who has this number is one's own
  abbrev pub Spares : Value → Row → Type 0
  Spares id r = is_eq (value_cmp (rowid r) id) ≡ true → p r ≡ true

  put_past : (new : Row) → p new ≡ true → (rows : List Row) → AllByRecursion (Spares (rowid new)) rows → others (put_row new rows) ≡ others rows
  put_past new own [] spares = drop_own new [] own
  put_past new own (r ∷ rs) spares = go (value_cmp (rowid r) (rowid new)) refl (put_past new own rs spares.1)
    where
      go : (o : Ordering) → value_cmp (rowid r) (rowid new) ≡ o → others (put_row new rs) ≡ others rs
          → others (match_ordering o (r ∷ put_row new rs) (new ∷ rs) (new ∷ r ∷ rs)) ≡ others (r ∷ rs)
      go Less e more = keep_first r (put_row new rs) rs more
      go Equal e more = drop_own new rs own ∙ sym (drop_own r rs (spares.0 (ap is_eq e)))
      go Greater e more = drop_own new (r ∷ rs) own

  without_past : (id : ℤ) (rows : List Row) → AllByRecursion (Spares (Int id)) rows → others (without_rowid id rows) ≡ others rows
  without_past id [] spares = refl
  without_past id (r ∷ rs) spares = go (has_rowid id r) refl (without_past id rs spares.1)
    where
      go : (b : Bool) → has_rowid id r ≡ b → others (without_rowid id rs) ≡ others rs
          → others (if not b then r ∷ without_rowid id rs else without_rowid id rs) ≡ others (r ∷ rs)
      go true e more = more ∙ sym (drop_own r rs (spares.0 e))
      go false e more = keep_first r (without_rowid id rs) rs more

  -- a row whose number none has is put in
  pub put_fresh : (new : Row) (rows : List Row) → p new ≡ true → is_taken rows new ≡ false → others (put_row new rows) ≡ others rows
  put_fresh new rows own fresh =
      put_past new own rows (all_weaker _ (Spares (rowid new)) (λ r none is. absurd (false≢true (sym none ∙ is))) rows
      (none_from_any (λ r. is_eq (value_cmp (rowid r) (rowid new))) rows fresh))

  -- ---- rows that are taken out by their numbers, and put in under these

  module _ (IsOwnNumber : Value → Type 0) where
    abbrev AllSpare : List Row → Type 0
    AllSpare rows = AllByRecursion (λ r. (v : Value) → IsOwnNumber v → Spares v r) rows

    without_others : (ids : List ℤ) (rows : List Row) → AllByRecursion (λ id. IsOwnNumber (Int id)) ids → AllSpare rows
        → others (without_all rows ids) ≡ others rows
    without_others [] rows are spare = refl
    without_others (id ∷ ids) rows are spare =
        without_others ids (without_rowid id rows) are.1 (all-filter _ (λ r. not (has_rowid id r)) rows spare)
        ∙ without_past id rows (all_weaker _ (Spares (Int id)) (λ r s. s (Int id) are.0) rows spare)

    spare_left : (ids : List ℤ) (rows : List Row) → AllSpare rows → AllSpare (without_all rows ids)
    spare_left [] rows spare = spare
    spare_left (id ∷ ids) rows spare = spare_left ids (without_rowid id rows) (all-filter _ (λ r. not (has_rowid id r)) rows spare)

    put_others : (news rows : List Row) → AllByRecursion (λ n. (p n ≡ true) × IsOwnNumber (rowid n)) news → AllSpare rows
        → others (put_all rows news) ≡ others rows
    put_others [] rows are spare = refl
    put_others (n ∷ news) rows are spare =
        put_others news (put_row n rows) are.1 (all-put_row (λ r. (v : Value) → IsOwnNumber v → Spares v r) n rows (λ v is e. are.0.0) spare)
        ∙ put_past n are.0.0 rows (all_weaker _ (Spares (rowid n)) (λ r s. s (rowid n) are.0.1) rows spare)

    replaced_others : (ids : List ℤ) (news rows : List Row) → AllByRecursion (λ id. IsOwnNumber (Int id)) ids
        → AllByRecursion (λ n. (p n ≡ true) × IsOwnNumber (rowid n)) news → AllSpare rows
        → others (put_all (without_all rows ids) news) ≡ others rows
    replaced_others ids news rows gone are spare = put_others news (without_all rows ids) are (spare_left ids rows spare) ∙ without_others ids rows gone spare

  -- the number of a row of one's own
  abbrev OfOwn : List Row → Value → Type 0
  OfOwn rows v = (r : Row) × Member rows r × (p r ≡ true) × (v ≡ rowid r)

  all_spare : (rows : List Row) → IsTable rows → AllByRecursion (λ r. (v : Value) → OfOwn rows v → Spares v r) rows
  all_spare rows up = all_from _ rows (λ r there v (own, in_rows, is_own, is) e.
      let same : value_cmp (rowid r) (rowid own) ≡ Equal = eq_is _ (ap (λ (w : Value). is_eq (value_cmp (rowid r) w)) (sym is) ∙ e) in
      ap p (same_row rows up r own there in_rows same) ∙ is_own)

-- ---- rows that stay in order

order_put : (row : Row) (rows : List Row) → IsTrue (is_int (rowid row)) → IsInOrder rows → IsInOrder (put_row row rows)
order_put row rows is_number order = record {
  rises = IsTable-put_row row rows order.rises;
  are_numbers = all-put_row (λ r. IsTrue (is_int (rowid r))) row rows is_number order.are_numbers;
}

order_put_all : (news rows : List Row) → AllByRecursion (λ n. IsTrue (is_int (rowid n))) news → IsInOrder rows → IsInOrder (put_all rows news)
order_put_all [] rows are order = order
order_put_all (n ∷ news) rows are order = order_put_all news (put_row n rows) are.1 (order_put n rows are.0 order)

order_without : (ids : List ℤ) (rows : List Row) → IsInOrder rows → IsInOrder (without_all rows ids)
order_without [] rows order = order
order_without (id ∷ ids) rows order = order_without ids (without_rowid id rows) (record {
  rises = ascending-filter _ (λ r. not (has_rowid id r)) rows order.rises;
  are_numbers = all-filter _ (λ r. not (has_rowid id r)) rows order.are_numbers;
})

number_too : (a b : Row) → rowid a ≡ rowid b → IsTrue (is_int (rowid b)) → IsTrue (is_int (rowid a))
number_too a b same is_number = subst (λ (v : Value). IsTrue (is_int v)) (sym same) is_number

-- ---- statements

-- a row with a number is put in
pub put_in_order : (t : Table) (row : Row) (old new : State) → PutsRow t row old new → IsTrue (is_int (rowid row))
    → IsInOrder (old.now.trees t.tree) → IsInOrder (new.now.trees t.tree)
put_in_order t row old new puts is_number order = subst IsInOrder (sym puts.changed.rows_are) (order_put row (old.now.trees t.tree) is_number order)

module _ (p : Row → Bool) where
  -- where a row of one's own is put in, the others stay
  pub put_keeps : (t : Table) (row : Row) (old new : State) → PutsRow t row old new → p row ≡ true → others p (new.now.trees t.tree)
      ≡ others p (old.now.trees t.tree)
  put_keeps t row old new puts own = ap (others p) puts.changed.rows_are ∙ put_fresh p row (old.now.trees t.tree) own puts.fresh

  module _ (t : Table) (tests rest : List Term) (params : Row) (old new : State) where
    abbrev rows : List Row
    rows = old.now.trees t.tree

    abbrev test : Row → Bool
    test r = list_all (holds (params ∷ r ∷ [])) tests

    abbrev made_of : Row → Row
    made_of r = cast_row t (eval_all rest (params ∷ r ∷ []))

    abbrev show : Row → Row
    show r = eval_all (col 1 0 ∷ rest) (params ∷ r ∷ [])

    -- what is found is shown of a row that passes
    abbrev IsFound : Row → Type 0
    IsFound s = (r : Row) × Member rows r × (test r ≡ true) × (s ≡ show r)

    all_found : (found : List Row) → IsAnswer (query_on t.tree tests (col 1 0 ∷ rest) [] no_limit) old.now.trees params found → AllByRecursion IsFound found
    all_found found answer =
        let listing : IsListing old.now.trees t.tree tests (col 1 0 ∷ rest) params (λ (r : Row). r) rows test show =
        record { holds_them = sym (map-id rows); passes = λ _. refl; shows = λ _. refl } in
        all-permutation IsFound (map show (filter test rows)) found (all_rows listing found answer)
        (all_map IsFound show (filter test rows) (all_from (λ r. IsFound (show r)) (filter test rows)
        (λ r there. let it = has_filtered test rows r there in (r, it.0, it.1, refl))))

    -- what is found has the numbers of rows of one's own
    all_gone : IsInOrder rows → ((r : Row) → test r ≡ true → p r ≡ true) → (found : List Row) → AllByRecursion IsFound found
        → AllByRecursion (λ id. OfOwn p rows (Int id)) (ids_of found)
    all_gone order passes found are =
        all_map (λ id. OfOwn p rows (Int id)) (λ s. id_in (rowid s)) found
        (all_weaker IsFound (λ s. OfOwn p rows (Int (id_in (rowid s))))
        (λ s it. (
          it.0,
          it.1,
          passes it.0 it.2,
          ap (λ (x : Row). Int (id_in (rowid x))) it.3
              ∙ int_back (rowid it.0) (all_has _ rows it.0 order.are_numbers it.1),
        )) found are)

    -- The rows that pass are one's own, and so are those that they become, which have their numbers.
    pub set_keeps : IsInOrder rows → SetsRows t (query_on t.tree tests (col 1 0 ∷ rest) [] no_limit) params old new → ((r : Row) → test r ≡ true → p r ≡ true)
        → ((r : Row) → IsTrue (is_int (rowid r)) → p r ≡ true → (p (made_of r) ≡ true) × (rowid (made_of r) ≡ rowid r))
        → (others p (new.now.trees t.tree) ≡ others p rows) × IsInOrder (new.now.trees t.tree)
    set_keeps order sets passes becomes =
        let found : AllByRecursion IsFound sets.found = all_found sets.found sets.answer in
        let gone : AllByRecursion (λ id. OfOwn p rows (Int id)) (ids_of sets.found) = all_gone order passes sets.found found in
        let news : AllByRecursion (λ n. (p n ≡ true) × OfOwn p rows (rowid n)) (map (λ s. cast_row t (drop 1 s)) sets.found) =
        all_map (λ n. (p n ≡ true) × OfOwn p rows (rowid n)) (λ s. cast_row t (drop 1 s)) sets.found
        (all_weaker IsFound (λ s. (p (cast_row t (drop 1 s)) ≡ true) × OfOwn p rows (rowid (cast_row t (drop 1 s)))) (λ s it.
        let own = passes it.0 it.2 in
        let after = becomes it.0 (all_has _ rows it.0 order.are_numbers it.1) own in
        let is : cast_row t (drop 1 s) ≡ made_of it.0 = ap (λ (x : Row). cast_row t (drop 1 x)) it.3 in
        (ap p is ∙ after.0, (it.0, it.1, own, ap rowid is ∙ after.1))) sets.found found) in
        let ints : AllByRecursion (λ n. IsTrue (is_int (rowid n))) (map (λ s. cast_row t (drop 1 s)) sets.found) =
        all_map (λ n. IsTrue (is_int (rowid n))) (λ s. cast_row t (drop 1 s)) sets.found
        (all_weaker IsFound (λ s. IsTrue (is_int (rowid (cast_row t (drop 1 s))))) (λ s it.
        let is_number = all_has _ rows it.0 order.are_numbers it.1 in
        let after = becomes it.0 is_number (passes it.0 it.2) in
        number_too (cast_row t (drop 1 s)) it.0 (ap (λ (x : Row). rowid (cast_row t (drop 1 x))) it.3 ∙ after.1) is_number) sets.found found) in
        let rows_are = (sets.changed.rows_are ∙ ap (λ (l : List Row). put_all (without_all rows (ids_of sets.found)) l)
        (given_ids (without_all rows (ids_of sets.found)) (map (λ s. cast_row t (drop 1 s)) sets.found))) in (
          ap (others p) rows_are ∙ replaced_others p (OfOwn p rows) (ids_of sets.found) (map (λ s. cast_row t (drop 1 s)) sets.found) rows
              gone news (all_spare p rows order.rises),
          subst IsInOrder (sym rows_are)
              (order_put_all (map (λ s. cast_row t (drop 1 s)) sets.found) (without_all rows (ids_of sets.found)) ints
              (order_without (ids_of sets.found) rows order)),
        )

  module _ (t : Table) (tests : List Term) (params : Row) (old new : State) where
    abbrev rows_before : List Row
    rows_before = old.now.trees t.tree

    abbrev test_of : Row → Bool
    test_of r = list_all (holds (params ∷ r ∷ [])) tests

    -- where the rows that pass are one's own, and they are taken out, the others stay
    pub remove_keeps : IsInOrder rows_before → RemovesRows t (removal_query t.tree tests) params old new
        → ((r : Row) → test_of r ≡ true → p r ≡ true)
        → (others p (new.now.trees t.tree) ≡ others p rows_before) × IsInOrder (new.now.trees t.tree)
    remove_keeps order removes passes =
        let found = all_found t tests [] params old new removes.found removes.answer in
        let gone = all_gone t tests [] params old new order passes removes.found found in (
          ap (others p) removes.changed.rows_are
              ∙ without_others p (OfOwn p rows_before) (ids_of removes.found) rows_before gone (all_spare p rows_before order.rises),
          subst IsInOrder (sym removes.changed.rows_are) (order_without (ids_of removes.found) rows_before order),
        )

  module _ (t : Table) (m : Merging) (params : Row) (old new : State) where
    abbrev rows_then : List Row
    rows_then = old.now.trees t.tree

    -- The row that is given is one's own, and so are one that has its key and what this becomes,
    -- which has its number.
    pub merge_keeps : (row : Row) → IsInOrder rows_then → Upserts t m params old new row → p (cast_row t (given_row t m params rows_then)) ≡ true
        → IsTrue (is_int (rowid (cast_row t (given_row t m params rows_then))))
        → ((r : Row) → is_of_key (own_keys t) m.key (given_row t m params rows_then) r ≡ true → p r ≡ true)
        → ((r : Row) → IsTrue (is_int (rowid r)) → p r ≡ true → (p (set_row t m params rows_then r) ≡ true)
        × (rowid (set_row t m params rows_then r) ≡ rowid r))
        → (others p (new.now.trees t.tree) ≡ others p rows_then) × IsInOrder (new.now.trees t.tree)
    merge_keeps row order (inl g) given given_number keyed becomes = (
      put_keeps t row old new g.puts (ap p g.is ∙ given),
      put_in_order t row old new g.puts (number_too row (cast_row t (given_row t m params rows_then)) (ap rowid g.is) given_number) order,
    )
    merge_keeps row order (inr s) given given_number keyed becomes =
        let own = keyed s.there s.keyed in
        let is_number = all_has _ rows_then s.there order.are_numbers s.found in
        let after = becomes s.there is_number own in
        let number : OfOwn p rows_then (Int (id_in (rowid s.there))) = (s.there, s.found, own, int_back (rowid s.there) is_number) in
        let new_number : OfOwn p rows_then (rowid row) = (s.there, s.found, own, ap rowid s.is ∙ after.1) in (
          ap (others p) s.changed.rows_are ∙ replaced_others p (OfOwn p rows_then) (id_in (rowid s.there) ∷ []) (row ∷ []) rows_then
              (number, tt) ((ap p s.is ∙ after.0, new_number), tt) (all_spare p rows_then order.rises),
          subst IsInOrder (sym s.changed.rows_are) (order_put row (without_rowid (id_in (rowid s.there)) rows_then)
              (number_too row s.there (ap rowid s.is ∙ after.1) is_number) (order_without (id_in (rowid s.there) ∷ []) rows_then order)),
        )

-- ---- rows that are taken out

-- a row is none of those that have these numbers
abbrev pub HasNoneOf : List ℤ → Row → Type 0
HasNoneOf ids r = AllByRecursion (λ id. has_rowid id r ≡ false) ids

module _ (P : Row → Type 0) where
  still_all : (ids : List ℤ) (rows : List Row) → AllByRecursion P rows → AllByRecursion P (without_all rows ids)
  still_all [] rows all = all
  still_all (id ∷ ids) rows all = still_all ids (without_rowid id rows) (all-filter P (λ r. not (has_rowid id r)) rows all)

none_has : (id : ℤ) (rows : List Row) → AllByRecursion (λ r. has_rowid id r ≡ false) (without_rowid id rows)
none_has id [] = tt
none_has id (r ∷ rows) = go (has_rowid id r) refl (none_has id rows)
  where
    go : (b : Bool) → has_rowid id r ≡ b → AllByRecursion (λ r. has_rowid id r ≡ false) (without_rowid id rows)
        → AllByRecursion (λ r. has_rowid id r ≡ false) (if not b then r ∷ without_rowid id rows else without_rowid id rows)
    go true e more = more
    go false e more = (e, more)

-- what is left has none of the numbers
left_over : (ids : List ℤ) (rows : List Row) → AllByRecursion (HasNoneOf ids) (without_all rows ids)
left_over [] rows = all_from (HasNoneOf []) rows (λ r there. tt)
left_over (id ∷ ids) rows =
    all_both (λ r. has_rowid id r ≡ false) (HasNoneOf ids) (HasNoneOf (id ∷ ids)) (λ r here more. (here, more)) (without_all (without_rowid id rows) ids)
    (still_all (λ r. has_rowid id r ≡ false) ids (without_rowid id rows) (none_has id rows)) (left_over ids (without_rowid id rows))

all_unmapped : {X Y : Type 0} (P : Y → Type 0) (f : X → Y) (xs : List X) → AllByRecursion P (map f xs) → AllByRecursion (λ x. P (f x)) xs
all_unmapped P f [] all = tt
all_unmapped P f (x ∷ xs) all = (all.0, all_unmapped P f xs all.1)

has_itself : (v : Value) → IsTrue (is_int v) → is_eq (value_cmp v (Int (id_in v))) ≡ true
has_itself v is_number = ap (λ (w : Value). is_eq (value_cmp v w)) (int_back v is_number) ∙ ap is_eq (tied_itself value_cmp_total v)

module _ (t : Table) (tests : List Term) (params : Row) (old new : State) where
  abbrev before : List Row
  before = old.now.trees t.tree

  abbrev passing : Row → Bool
  passing r = list_all (holds (params ∷ r ∷ [])) tests

  abbrev shown_id : Row → Row
  shown_id r = eval_all (col 1 0 ∷ []) (params ∷ r ∷ [])

  -- after a DELETE no row is left that passes
  pub none_passes : IsInOrder before → RemovesRows t (removal_query t.tree tests) params old new
      → AllByRecursion (λ r. passing r ≡ false) (new.now.trees t.tree)
  none_passes order removes =
      let ids = ids_of removes.found in
      let listing : IsListing old.now.trees t.tree tests (col 1 0 ∷ []) params (λ (r : Row). r) before passing shown_id =
      record { holds_them = sym (map-id before); passes = λ _. refl; shows = λ _. refl } in
      let same = IsPermutation-sym (map shown_id (filter passing before)) removes.found (all_rows listing removes.found removes.answer) in
      let not_passing : (r : Row) → Member before r → HasNoneOf ids r → passing r ≡ false = λ r there none.
      elim (cases_Bool (passing r)) [
        | inl passes ↦
            let each = all_unmapped (λ id. has_rowid id r ≡ false) (λ s. id_in (rowid s)) removes.found none in
            let shown = all-permutation (λ s. has_rowid (id_in (rowid s)) r ≡ false) removes.found (map shown_id (filter passing before)) same each in
            let found = all_unmapped (λ s. has_rowid (id_in (rowid s)) r ≡ false) shown_id (filter passing before) shown in
            let apart : has_rowid (id_in (rowid r)) r ≡ false =
            all_has (λ x. has_rowid (id_in (rowid x)) r ≡ false) (filter passing before) r found (kept_member passing before r there passes) in
            absurd (false≢true (sym apart ∙ has_itself (rowid r) (all_has _ before r order.are_numbers there)))
        | inr fails ↦ fails
      ] in
      subst (AllByRecursion (λ r. passing r ≡ false)) (sym removes.changed.rows_are)
      (all_both (Member before) (HasNoneOf ids) (λ r. passing r ≡ false) not_passing (without_all before ids)
      (still_all (Member before) ids before (all_from (Member before) before (λ r there. there))) (left_over ids before))
