-- The values that a table holds, in the order in which ORDER BY one column shows their rows.
use Rattle.std.proofs.Common.{◌≡◌, ◌∙◌, ℕ, Bool, cond, List, [], ◌∷◌, filter, flat_map, map, refl, sym, ap, subst, IsPermutation, IsSorted}
use Rattle.std.specs.List.{list_all}
use Rattle.sqlite_value.specs.Order.{Row}
use Rattle.sqlite_trees.specs.Tree.{Trees}
use Rattle.sqlite_trees.proofs.ListLemmas.{pull_back}
use Rattle.sqlite_sql.specs.Term.{Env, Term, holds}
use Rattle.sqlite_sql.specs.Query.{IsAnswer, Output, Query, end, inner, matches, output, output_cmp, page}
use Rattle.sqlite_keyed.proofs.ListLemmas.{filter-map, filter_as_flat_map, filter_same, flat_map-map, map-map, map_same}
use Rattle.one_table.specs.Listed.{IsListing, query_on, rising}

module _ {X : Type 0} {db : Trees} {tree : ℕ} {tests shown : List Term} {params : Row} {stored : X → Row} {xs : List X} {p : X → Bool} {show : X → Row}
    (l : IsListing db tree tests shown params stored xs p show) (at : ℕ) (limit : Term) where
  abbrev q : Query
  q = query_on tree tests shown (rising at) limit

  -- what ORDER BY sees of a value, and what is shown of it
  abbrev pub out : X → Output
  out x = output q (params ∷ stored x ∷ [])

  -- the matches, which `one_table` keeps to itself
  matches_are : matches db tests (inner tree end) (params ∷ []) ≡ map (λ x. params ∷ stored x ∷ []) (filter p xs)
  matches_are =
      let whole = λ (x : X). params ∷ stored x ∷ [] in
      let kept = λ (e : Env). cond (list_all (holds e) tests) (e ∷ []) [] in
      ap (flat_map (λ (r : Row). kept (params ∷ r ∷ []))) l.holds_them ∙ flat_map-map (λ (r : Row). kept (params ∷ r ∷ [])) stored xs
      ∙ sym (filter_as_flat_map (λ e. list_all (holds e) tests) (map whole xs) ∙ flat_map-map kept whole xs)
      ∙ filter-map (λ e. list_all (holds e) tests) whole xs ∙ ap (map whole) (filter_same (λ x. list_all (holds (whole x)) tests) p l.passes xs)

  -- the values that pass, as the answer has them, which may have ties
  pub record Ordered (rows : List Row) : Type 0 where
    pub found : List X
    pub same : IsPermutation (filter p xs) found
    pub sorted : IsSorted (output_cmp q) (map out found)
    pub row : rows ≡ page q params (map show found)

  -- an answer has the values that pass in an order that ORDER BY allows
  pub ordered : (rows : List Row) → IsAnswer q db params rows → Ordered rows
  ordered rows answer =
      let arranged : IsPermutation (map out (filter p xs)) answer.ordered =
      subst (λ l. IsPermutation l answer.ordered) (answer.distinct ∙ ap (map (output q)) (answer.grouped ∙ matches_are)
      ∙ map-map (output q) (λ x. params ∷ stored x ∷ []) (filter p xs)) answer.same in
      let back = pull_back out (map out (filter p xs)) answer.ordered arranged (filter p xs) refl in
      let shown_are : map (λ (o : Output). o.1) (map out back.0) ≡ map show back.0 =
      map-map (λ (o : Output). o.1) out back.0 ∙ map_same (λ x. (out x).1) show l.shows back.0 in
      record {
        found = back.0;
        same = back.1;
        sorted = subst (IsSorted (output_cmp q)) back.2 answer.sorted;
        row = answer.shown ∙ ap (λ (l : List Output). page q params (map (λ (o : Output). o.1) l)) back.2 ∙ ap (page q params) shown_are;
      }
