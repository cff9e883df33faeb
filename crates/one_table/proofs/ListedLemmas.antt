-- The answer of a SELECT over one table, as a function of what the table holds.
use Rattle.std.proofs.Common.{◌++◌, ◌≡◌, ℕ, ◌-◌, ◌^◌, nat_le, Bool, true, false, if◌then◌else◌, cond, List, [], ◌∷◌, map, filter, flat_map, length, reverse, None, slice_get, unwrap_or, refl, sym, ap, ap₂, subst, ◌∙◌, IsPermutation, Less, arith, ◌≤◌, ◌<ℤ◌, ℤ, int_cmp}
use Rattle.std.specs.List.{list_all, AllByRecursion}
use Rattle.std.proofs.Math.Path.{fun_ext}
use Rattle.std.proofs.lemmas.List.{length-map, reverse-append}
use Rattle.std.proofs.lemmas.List.Sorted.{IsPermutation-map, IsPermutation-refl, IsPermutation-sym, length_permutation, IsPermutation-trans, IsPermutation-reverse}
use Rattle.sqlite_value.specs.declared.keys.Key.{Key}
use Rattle.sqlite_value.specs.declared.value.Value.TheVariants.{Null, Int}
use Rattle.sqlite_value.specs.Order.{Row, column, value_cmp}
use Rattle.sqlite_value.proofs.OrderLemmas.{value_cmp-Int, then-Equal}
use Rattle.sqlite_trees.specs.Tree.{Trees, IsAscending}
use Rattle.sqlite_sql.specs.Term.{Term, Env, eval, holds}
use Rattle.sqlite_sql.specs.Query.{Query, end, inner, matches, Output, output, output_cmp, page, limited, as_count, IsAnswer}
use Rattle.sqlite_sql.specs.Program.{overlay}
use Rattle.sqlite_sql.proofs.QueryLemmas.{output_cmp_total}
use Rattle.sqlite_keyed.specs.Keyed.{IsKeyedBy}
use Rattle.sqlite_keyed.proofs.ListLemmas.{all_weaker, all-append, ascending-append, map-map, flat_map-map, filter-map, filter_as_flat_map, filter_same, map_same, ascending-map, ascending-filter, ascending_weaker}
use Rattle.sqlite_keyed.proofs.KeyedLemmas.{Less-from_lt}
use Rattle.sqlite_keyed.proofs.SortLemmas.{sorted_unique}
use Rattle.sqlite_schema.specs.declared.schema.Schema.{Schema}
use Rattle.sqlite_schema.specs.declared.schema.Table.{Table}
use Rattle.sqlite_schema.specs.declared.command.Command.{Command}
use Rattle.sqlite_resolve.specs.Scope.{Name}
use Rattle.sqlite.specs.State.{State, Shown, Begins}
use Rattle.sqlite.specs.Given.{IsPlain}
use Rattle.sqlite.specs.Listing.{understood}
use Rattle.sqlite.proofs.Callers.{command_of, reads_as, begins_as, one_permutation}
use Rattle.one_table.specs.Place.{Has}
use Rattle.one_table.specs.Reading.{Means, IsSelect, select_as}
use Rattle.one_table.proofs.UnderstandLemmas.{selects}
use Rattle.one_table.specs.Listed.{IsListing, query_on, no_limit, rising, falling}

-- ---- from what the connection shows to an answer

-- with no other tables laid over them, the trees are as they were
pub none_laid : (db : Trees) (t : ℕ) → overlay db [] t ≡ db t
none_laid db t = elim (nat_le (2 ^ 31) t) as (λ b. unwrap_or (if b then slice_get [] (t - 2 ^ 31) else None) (db t) ≡ db t) [ true ↦ refl | false ↦ refl ]

module _ {s : Schema} {sql : List ℕ} {c : Command} (means : Means s sql c) where
  -- the command that is understood is the one that the text means
  pub command_is : command_of (understood s sql) ≡ c
  command_is = ap command_of means.understands ∙ means.command

  -- it neither writes nor reads the clock
  pub is_plain : IsPlain (understood s sql)
  is_plain = subst IsPlain (sym means.understands) (means.returning, means.timeless)

-- the rows that were shown are an answer of the query
pub answers : {s : Schema} {sql : List ℕ} (q : Query) (names : List Name) → Means s sql (select_as q names)
    → (params : Row) (old new : State) → old.now.schema ≡ s
    → (rows : List Row) → Shown sql params old new rows → IsAnswer q old.now.trees params rows
answers {s} {sql} q names means params old new has rows shown =
    let read = reads_as sql params old new s has (select_as q names) (command_is means) (is_plain means) means.unlisted rows shown in
    subst (λ db. IsAnswer q db params rows) (fun_ext (none_laid old.now.trees)) (read.answer Null)

-- the rows that were shown of a SELECT over the table, wherever it stands
pub answered : (s : Schema) (at : ℕ) (t : Table) → Has s at t → (q : Query) (names : List Name) (sql : List ℕ) → IsSelect t q names sql
    → (params : Row) (old new : State) → old.now.schema ≡ s
    → (rows : List Row) → Shown sql params old new rows → IsAnswer q old.now.trees params rows
answered s at t has q names sql is = answers q names (selects s at t has q names sql is)

-- the rows so far are the first of an answer
pub begun : {s : Schema} {sql : List ℕ} (q : Query) (names : List Name) → Means s sql (select_as q names) → (params : Row) (now : State) → now.now.schema ≡ s
    → (rows : List Row) → Begins sql params now rows → (tail : List Row) × IsAnswer q now.now.trees params (rows ++ tail)
begun {s} {sql} q names means params now has rows begins =
    let first = begins_as sql params now now s has (select_as q names) (command_is means) (is_plain means) means.unlisted rows begins in
    (first.1.0, subst (λ db. IsAnswer q db params (rows ++ first.1.0)) (fun_ext (none_laid now.now.trees)) (first.1.1 Null))

few_permuted : (xs ys : List Row) → length xs ≤ 1 → IsPermutation xs ys → ys ≡ xs
few_permuted [] [] few same = refl
few_permuted [] (y ∷ ys) few same = absurd (omega (arith, length_permutation [] (y ∷ ys) same))
few_permuted (x ∷ []) ys few same = one_permutation x ys same
few_permuted (x ∷ y ∷ more) ys few same = absurd (omega arith)

all-reverse : {X : Type 0} (P : X → Type 0) (xs : List X) → AllByRecursion P xs → AllByRecursion P (reverse xs)
all-reverse P [] h = tt
all-reverse P (x ∷ xs) h = subst (AllByRecursion P) (sym (reverse-append (x ∷ []) xs)) (all-append P (reverse xs) (x ∷ []) (all-reverse P xs h.1) (h.0, tt))

falls-reverse : {X : Type 0} (R : X → X → Type 0) (xs : List X) → IsAscending R xs → IsAscending (λ a b. R b a) (reverse xs)
falls-reverse R [] h = tt
falls-reverse {X} R (x ∷ xs) h =
    let before : AllByRecursion (λ y. AllByRecursion (λ z. R z y) (x ∷ [])) (reverse xs) =
    all_weaker (R x) (λ y. AllByRecursion (λ z. R z y) (x ∷ [])) (λ y below. (below, tt)) (reverse xs) (all-reverse (R x) xs h.0) in
    subst (IsAscending (λ a b. R b a)) (sym (reverse-append (x ∷ []) xs))
    (ascending-append (λ a b. R b a) (reverse xs) (x ∷ []) (falls-reverse R xs h.1) (tt, tt) before)

-- ---- what a table holds

module _ {X : Type 0} {db : Trees} {tree : ℕ} {tests shown : List Term} {params : Row} {stored : X → Row} {xs : List X} {p : X → Bool} {show : X → Row}
    (l : IsListing db tree tests shown params stored xs p show) where
  matches_are : matches db tests (inner tree end) (params ∷ []) ≡ map (λ x. params ∷ stored x ∷ []) (filter p xs)
  matches_are =
      let whole = λ (x : X). params ∷ stored x ∷ [] in
      let kept = λ (e : Env). cond (list_all (holds e) tests) (e ∷ []) [] in
      ap (flat_map (λ (r : Row). kept (params ∷ r ∷ []))) l.holds_them ∙ flat_map-map (λ (r : Row). kept (params ∷ r ∷ [])) stored xs
      ∙ sym (filter_as_flat_map (λ e. list_all (holds e) tests) (map whole xs) ∙ flat_map-map kept whole xs)
      ∙ filter-map (λ e. list_all (holds e) tests) whole xs ∙ ap (map whole) (filter_same (λ x. list_all (holds (whole x)) tests) p l.passes xs)

  module _ (order : List (Term × Key)) (limit : Term) (rows : List Row) (answer : IsAnswer (query_on tree tests shown order limit) db params rows) where
    abbrev q : Query
    q = query_on tree tests shown order limit

    abbrev out : X → Output
    out x = output q (params ∷ stored x ∷ [])

    arranged : IsPermutation (map out (filter p xs)) answer.ordered
    arranged = subst (λ l. IsPermutation l answer.ordered)
        (answer.distinct ∙ ap (map (output q)) (answer.grouped ∙ matches_are) ∙ map-map (output q) (λ x. params ∷ stored x ∷ []) (filter p xs)) answer.same

    shown_of : (ys : List X) → map (λ (o : Output). o.1) (map out ys) ≡ map show ys
    shown_of ys = map-map (λ (o : Output). o.1) out ys ∙ map_same (λ x. (out x).1) show l.shows ys

    -- the rows in any order that agrees with ORDER BY
    in_some_order : IsPermutation (map show (filter p xs)) (map (λ (o : Output). o.1) answer.ordered)
    in_some_order = subst (λ l. IsPermutation l (map (λ (o : Output). o.1) answer.ordered)) (shown_of (filter p xs))
        (IsPermutation-map (λ (o : Output). o.1) (map out (filter p xs)) answer.ordered arranged)

    -- an order of them in which ORDER BY rises is the order of the answer
    pub in_order : (ys : List X) → IsPermutation (filter p xs) ys → IsAscending (λ a b. output_cmp q (out a) (out b) ≡ Less) ys → rows
        ≡ page q params (map show ys)
    in_order ys same rises =
        let is : answer.ordered ≡ map out ys = sorted_unique (output_cmp q) (output_cmp_total q) (map out ys) answer.ordered
        (ascending-map (λ a b. output_cmp q a b ≡ Less) out ys rises)
        (IsPermutation-trans (map out ys) (map out (filter p xs)) answer.ordered
        (IsPermutation-map out ys (filter p xs) (IsPermutation-sym (filter p xs) ys same)) arranged) answer.sorted in
        answer.shown ∙ ap (λ l. page q params (map (λ (o : Output). o.1) l)) is ∙ ap (page q params) (shown_of ys)

  -- with no ORDER BY and no LIMIT: each row that passes once, in any order
  pub all_rows : (rows : List Row) → IsAnswer (query_on tree tests shown [] no_limit) db params rows → IsPermutation (map show (filter p xs)) rows
  all_rows rows answer = subst (IsPermutation (map show (filter p xs))) (sym answer.shown) (in_some_order [] no_limit rows answer)

  -- where at most one row passes
  pub one_row : (rows : List Row) → IsAnswer (query_on tree tests shown [] no_limit) db params rows → length (filter p xs) ≤ 1 → rows ≡ map show (filter p xs)
  one_row rows answer few = few_permuted (map show (filter p xs)) rows (subst (λ n. n ≤ 1) (sym (length-map (filter p xs) show)) few) (all_rows rows answer)

  module _ (at : ℕ) (key : X → ℤ) (keeps_key : (x : X) → column (stored x) at ≡ Int (key x)) (limit : Term) (rows : List Row) (ys : List X)
      (same : IsPermutation (filter p xs) ys) (keyed : IsKeyedBy key ys) where
    keys_rise : IsAscending (λ a b. int_cmp (key a) (key b) ≡ Less) ys
    keys_rise = ascending_weaker _ _ (λ a b. Less-from_lt (key a) (key b)) ys keyed

    -- ORDER BY a column that no two of the rows share, up to LIMIT
    pub rising_rows : IsAnswer (query_on tree tests shown (rising at) limit) db params rows → rows ≡ limited (as_count (eval limit (params ∷ []))) (map show ys)
    rising_rows answer = in_order (rising at) limit rows answer ys same
        (ascending_weaker _ _ (λ a b h. then-Equal _ ∙ ap₂ value_cmp (keeps_key a) (keeps_key b) ∙ value_cmp-Int (key a) (key b) ∙ h) ys keys_rise)

    -- the same with DESC
    pub falling_rows : IsAnswer (query_on tree tests shown (falling at) limit) db params rows → rows
        ≡ limited (as_count (eval limit (params ∷ []))) (map show (reverse ys))
    falling_rows answer = in_order (falling at) limit rows answer (reverse ys)
        (IsPermutation-trans (filter p xs) ys (reverse ys) same (IsPermutation-reverse ys))
        (ascending_weaker _ _ (λ a b h. then-Equal _ ∙ ap₂ value_cmp (keeps_key b) (keeps_key a) ∙ value_cmp-Int (key b) (key a) ∙ h)
        (reverse ys) (falls-reverse (λ a b. int_cmp (key a) (key b) ≡ Less) ys keys_rise))

  module _ (at : ℕ) (key : X → ℤ) (keeps_key : (x : X) → column (stored x) at ≡ Int (key x)) (limit : Term) (rows : List Row) (keyed : IsKeyedBy key xs) where
    found_keyed : IsKeyedBy key (filter p xs)
    found_keyed = ascending-filter (λ a b. key a <ℤ key b) p xs keyed

    -- ORDER BY the key of the table, up to LIMIT
    pub first_by_key : IsAnswer (query_on tree tests shown (rising at) limit) db params rows → rows
        ≡ limited (as_count (eval limit (params ∷ []))) (map show (filter p xs))
    first_by_key = rising_rows at key keeps_key limit rows (filter p xs) (IsPermutation-refl (filter p xs)) found_keyed

    -- the same with DESC
    pub last_by_key : IsAnswer (query_on tree tests shown (falling at) limit) db params rows → rows
        ≡ limited (as_count (eval limit (params ∷ []))) (map show (reverse (filter p xs)))
    last_by_key = falling_rows at key keeps_key limit rows (filter p xs) (IsPermutation-refl (filter p xs)) found_keyed
