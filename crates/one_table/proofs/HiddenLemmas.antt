-- The answer of a SELECT over a table whose rows have hidden numbers.
use Rattle.std.proofs.Common.{◌≡◌, ℕ, ℤ, ◌≤◌, ◌<ℤ◌, Bool, List, [], ◌∷◌, map, filter, length, sym, ap, subst, ◌∙◌, IsPermutation}
use Rattle.std.proofs.lemmas.List.{length-map}
use Rattle.sqlite_value.specs.declared.value.Value.{Value}
use Rattle.sqlite_value.specs.declared.value.Value.TheVariants.{Int}
use Rattle.sqlite_value.specs.Order.{Row, column}
use Rattle.sqlite_trees.specs.Tree.{Trees}
use Rattle.sqlite_trees.proofs.ListLemmas.{pull_back}
use Rattle.sqlite_sql.specs.Term.{Term, eval}
use Rattle.sqlite_sql.specs.Query.{IsAnswer, limited, as_count}
use Rattle.sqlite_keyed.specs.Keyed.{IsKeyedBy}
use Rattle.sqlite_keyed.proofs.ListLemmas.{map-map, filter-map, ascending_from_map}
use Rattle.one_table.specs.Listed.{IsListing, query_on, no_limit, rising}
use Rattle.one_table.specs.Numbered.{IsHiddenListing}
use Rattle.one_table.proofs.ListedLemmas.{all_rows, one_row, rising_rows}
use Rattle.one_table.proofs.LookUpLemmas.{with_number, numbered}

module _ {X : Type 0} {db : Trees} {tree : ℕ} {tests shown : List Term} {params : Row} {stored : X → Row} {xs : List X} {p : X → Bool} {show : X → Row}
    (l : IsHiddenListing db tree tests shown params stored xs p show) where
  abbrev both : List (Value × X)
  both = (numbered stored l.some (db tree) xs l.holds_them).0

  abbrev value : Value × X → X
  value x = x.1

  values_are : map value both ≡ xs
  values_are = (numbered stored l.some (db tree) xs l.holds_them).2

  beside : IsListing db tree tests shown params (with_number stored) both (λ x. p x.1) (λ x. show x.1)
  beside = record { holds_them = (numbered stored l.some (db tree) xs l.holds_them).1; passes = λ x. l.passes x.0 x.1; shows = λ x. l.shows x.0 x.1 }

  found_are : map value (filter (λ x. p x.1) both) ≡ filter p xs
  found_are = sym (filter-map p value both) ∙ ap (filter p) values_are

  shown_are : map (λ (x : Value × X). show x.1) (filter (λ x. p x.1) both) ≡ map show (filter p xs)
  shown_are = sym (map-map show value (filter (λ x. p x.1) both)) ∙ ap (map show) found_are

  -- each row that passes once, in any order
  pub all_hidden : (rows : List Row) → IsAnswer (query_on tree tests shown [] no_limit) db params rows → IsPermutation (map show (filter p xs)) rows
  all_hidden rows answer = subst (λ l. IsPermutation l rows) shown_are (all_rows beside rows answer)

  -- where at most one row passes
  pub one_hidden : (rows : List Row) → IsAnswer (query_on tree tests shown [] no_limit) db params rows → length (filter p xs) ≤ 1 → rows
      ≡ map show (filter p xs)
  one_hidden rows answer few =
      let same : length (filter (λ x. p x.1) both) ≡ length (filter p xs) = sym (length-map (filter (λ x. p x.1) both) value) ∙ ap length found_are in
      one_row beside rows answer (subst (λ n. n ≤ 1) (sym same) few) ∙ shown_are

  -- ORDER BY a column that no two of the rows share, up to LIMIT
  pub rising_hidden : (at : ℕ) (key : X → ℤ) → ((number : Value) (x : X) → column (number ∷ stored x) at ≡ Int (key x)) → (limit : Term) (rows : List Row)
      → (ys : List X) → IsPermutation (filter p xs) ys → IsKeyedBy key ys → IsAnswer (query_on tree tests shown (rising at) limit) db params rows
      → rows ≡ limited (as_count (eval limit (params ∷ []))) (map show ys)
  rising_hidden at key keeps_key limit rows ys same keyed answer =
      let found = pull_back value (filter p xs) ys same (filter (λ x. p x.1) both) (sym found_are) in
      let keyed_both = ascending_from_map (λ a b. key a <ℤ key b) value found.0 (subst (IsKeyedBy key) found.2 keyed) in
      rising_rows beside at (λ x. key x.1) (λ x. keeps_key x.0 x.1) limit rows found.0 found.1 keyed_both answer
      ∙ ap (limited (as_count (eval limit (params ∷ [])))) (sym (map-map show value found.0) ∙ ap (map show) (sym found.2))
