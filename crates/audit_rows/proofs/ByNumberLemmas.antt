-- The rows that a list of a table answers: all of them, and by their numbers where that is asked.
use Rattle.std.proofs.Common.{◌≡◌, ◌<◌, ◌+◌, ◌∙◌, ℕ, pos, true, List, [], ◌∷◌, map, get_or, length, flat_map, IsPermutation, IsSorted, Less, is_lt, refl, sym, ap, ap₂, subst, arith}
use Rattle.std.proofs.lemmas.List.{get_or-map, length-map}
use Rattle.std.proofs.lemmas.List.Sorted.{IsPermutation-map, IsPermutation-sym}
use Rattle.sqlite.specs.Effect.{Database}
use Rattle.sqlite.specs.Order.{Row, column}
use Rattle.sqlite_keyed.specs.Keyed.{IsKeyedBy}
use Rattle.sqlite_keyed.proofs.KeyedLemmas.{Less-from_lt}
use Rattle.sqlite_keyed.proofs.ListLemmas.{ascending-map, ascending_weaker, map-map, map_same}
use Rattle.sqlite_sql.specs.Query.{IsAnswer, Output, Query, output, output_cmp}
use Rattle.sqlite_sql.specs.Term.{Env, Term, col, eval, eval_all}
use Rattle.sqlite_trees.specs.Tree.{IsAscending}
use Rattle.sqlite_trees.proofs.ListLemmas.{pull_back}
use Rattle.sqlite_value.specs.Order.{value_cmp}
use Rattle.sqlite_value.specs.declared.keys.Key.{Key}
use Rattle.sqlite_value.proofs.OrderLemmas.{then-Equal, value_cmp-Int}
use Rattle.one_table.specs.Listed.{rising}
use Rattle.one_table.specs.Standing.{tree_in}
use Rattle.book_tables.specs.Holds.{rows_in}
use Rattle.book_tables.specs.Kept.{Kept}
use Rattle.book_tables.specs.row.Rows.{number}
use Rattle.audit_rows.specs.Listing.{list_query, list_query_by, order_of}
use Rattle.audit_rows.specs.Whole.{IsTableListing, all_columns, columns_of, places}

one_each : {X Y : Type 0} (f : X → Y) (xs : List X) → flat_map (λ x. f x ∷ []) xs ≡ map f xs
one_each f [] = refl
one_each f (x ∷ xs) = ap (λ l. f x ∷ l) (one_each f xs)

columns_shown : (k : Kept) (row : Row) → eval_all (map (col 1) (places k)) ([] ∷ row ∷ []) ≡ columns_of k row
columns_shown k row = map-map (λ t. eval t ([] ∷ row ∷ [])) (col 1) (places k)

-- the first column of a row that has a number is the number
pub number_first : (k : Kept) (row : Row) → k.is_numbered ≡ true → column (columns_of k row) 0 ≡ column row 0
number_first k row numbered = rw numbered refl

module _ (k : Kept) (order : List (Term × Key)) (db : Database) (answer : List Row)
    (is : IsAnswer (list_query_by k order (tree_in db.schema k.table.name)) db.trees [] answer) where
  abbrev q : Query
  q = list_query_by k order (tree_in db.schema k.table.name)

  abbrev stored : List Row
  stored = rows_in db k.table.name

  abbrev whole : Row → Env
  whole r = [] ∷ r ∷ []

  abbrev out : Row → Output
  out r = output q (whole r)

  arranged : IsPermutation (map out stored) is.ordered
  arranged = subst (λ (l : List Output). IsPermutation l is.ordered)
      (is.distinct ∙ ap (map (output q)) (is.grouped ∙ one_each whole stored) ∙ map-map (output q) whole stored) is.same

  back : (ys : List Row) × IsPermutation stored ys × (is.ordered ≡ map out ys)
  back = pull_back out (map out stored) is.ordered arranged stored refl

  shown : answer ≡ map (columns_of k) back.0
  shown = is.shown ∙ ap (map (λ (o : Output). o.1)) back.2 ∙ map-map (λ (o : Output). o.1) out back.0
      ∙ map_same (λ r. (out r).1) (columns_of k) (columns_shown k) back.0

  all_answered : IsPermutation (all_columns k db) answer
  all_answered = subst (IsPermutation (all_columns k db)) (sym shown) (IsPermutation-map (columns_of k) stored back.0 back.1)

module _ (k : Kept) (is_numbered : k.is_numbered ≡ true) (db : Database) (answer : List Row)
    (is : IsAnswer (list_query_by k (rising 0) (tree_in db.schema k.table.name)) db.trees [] answer) where
  abbrev by : Query
  by = list_query_by k (rising 0) (tree_in db.schema k.table.name)

  abbrev one : Row → Output
  one r = output by ([] ∷ r ∷ [])

  abbrev found : List Row
  found = (back k (rising 0) db answer is).0

  cmp_is : (a b : Row) → output_cmp by (one a) (one b) ≡ value_cmp (column a 0) (column b 0)
  cmp_is a b = then-Equal _

  cmp_first : (a b : Row) → output_cmp by (one a) (one b) ≡ value_cmp (column (columns_of k a) 0) (column (columns_of k b) 0)
  cmp_first a b = cmp_is a b ∙ sym (ap₂ value_cmp (number_first k a is_numbered) (number_first k b is_numbered))

  rises : IsSorted (λ (a b : Row). value_cmp (column a 0) (column b 0)) (map (columns_of k) found)
  rises i d low within =
      let count = length-map found (columns_of k) in
      let count_out = length-map found one in
      let next : i + 1 < length found = omega (arith, within, count) in
      let here : i < length found = omega (arith, next) in
      let a : get_or (map (columns_of k) found) (i + 1) d ≡ columns_of k (get_or found (i + 1) []) = get_or-map (columns_of k) found (i + 1) [] d next in
      let b : get_or (map (columns_of k) found) i d ≡ columns_of k (get_or found i []) = get_or-map (columns_of k) found i [] d here in
      let a_out : get_or (map one found) (i + 1) (one []) ≡ one (get_or found (i + 1) []) = get_or-map one found (i + 1) [] (one []) next in
      let b_out : get_or (map one found) i (one []) ≡ one (get_or found i []) = get_or-map one found i [] (one []) here in
      let sorted = subst (IsSorted (output_cmp by)) (back k (rising 0) db answer is).2 is.sorted i (one []) low (omega (arith, next, count_out)) in
      ap₂ (λ (x y : Row). is_lt (value_cmp (column x 0) (column y 0))) a b
      ∙ ap is_lt (sym (cmp_first (get_or found (i + 1) []) (get_or found i [])))
      ∙ sym (ap₂ (λ (x y : Output). is_lt (output_cmp by x y)) a_out b_out) ∙ sorted

  rows_rise : IsSorted (λ (a b : Row). value_cmp (column a 0) (column b 0)) answer
  rows_rise = subst (IsSorted (λ (a b : Row). value_cmp (column a 0) (column b 0))) (sym (shown k (rising 0) db answer is)) rises

order_is : (k : Kept) → k.is_numbered ≡ true → order_of k ≡ rising 0
order_is k numbered = rw numbered refl

-- an answer is a listing
pub answer_lists : (k : Kept) (db : Database) (answer : List Row)
    → IsAnswer (list_query k (tree_in db.schema k.table.name)) db.trees [] answer → IsTableListing k db answer
answer_lists k db answer is = record {
  same = IsPermutation-sym (all_columns k db) answer (all_answered k (order_of k) db answer is);
  rises = λ numbered. rows_rise k numbered db answer
      (subst (λ (o : List (Term × Key)). IsAnswer (list_query_by k o (tree_in db.schema k.table.name)) db.trees [] answer) (order_is k numbered) is);
}

-- records with numbers that rise have rows that rise
module _ {X : Type 0} (k : Kept) (columns : X → Row) (number_of : X → ℕ) (numbered_by : (x : X) → column (columns x) 0 ≡ number (number_of x)) where
  -- rows of records that are keyed by their numbers rise by their first column
  pub rise_keyed : (xs : List X) → IsKeyedBy (λ x. pos (number_of x)) xs
      → IsAscending (λ (a b : Row). value_cmp (column a 0) (column b 0) ≡ Less) (map columns xs)
  rise_keyed xs up = ascending-map (λ (a b : Row). value_cmp (column a 0) (column b 0) ≡ Less) columns xs
      (ascending_weaker _ _ (λ (a b : X) h. ap₂ value_cmp (numbered_by a) (numbered_by b)
      ∙ value_cmp-Int (pos (number_of a)) (pos (number_of b)) ∙ Less-from_lt (pos (number_of a)) (pos (number_of b)) h) xs up)
