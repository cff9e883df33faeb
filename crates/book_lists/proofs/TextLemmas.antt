-- What ORDER BY a text that no two rows share, up to LIMIT, shows of the rows after a text.
use Rattle.std.proofs.Common.{◌≡◌, ◌∙◌, ℕ, Bool, true, List, [], ◌∷◌, Option, Some, filter, get_or, is_lt, map, take, sym, ap, ap₂, subst, IsPermutation, IsSorted}
use Rattle.std.specs.Prelude.{All, AllPairs, Contains}
use Rattle.std.proofs.lemmas.List.{take-map}
use Rattle.std.proofs.lemmas.List.Elements.{All-take, Contains-get_or}
use Rattle.std.proofs.lemmas.List.Kept.{AllPairs-filter}
use Rattle.std.proofs.lemmas.List.Sorted.{Contains-permutation, IsPermutation-map, IsPermutation-sym}
use Rattle.sqlite_value.specs.declared.value.Value.{Value}
use Rattle.sqlite_value.specs.declared.value.Value.TheVariants.{Text}
use Rattle.sqlite_value.specs.Order.{Row, column, value_cmp}
use Rattle.sqlite_value.proofs.OrderLemmas.{then-Equal, value_cmp-Text}
use Rattle.sqlite_trees.specs.Tree.{Trees}
use Rattle.sqlite_sql.specs.Term.{Term, eval}
use Rattle.sqlite_sql.specs.Query.{IsAnswer, as_count, limited, output_cmp}
use Rattle.sqlite_keyed.proofs.ListLemmas.{filter-map, map-map}
use Rattle.one_table.specs.Listed.{IsListing, query_on, rising}
use Rattle.one_table.specs.Numbered.{IsHiddenListing}
use Rattle.one_table.proofs.LookUpLemmas.{numbered, with_number}
use Rattle.book_tables.proofs.ListLemmas.{contains_map, map_source}
use Rattle.book_tables.proofs.ReadingLemmas.StepLemmas.{passes_there, there_passes}
use Rattle.book_lists.specs.Pages.{AreFirstAfter, ComesBefore, page_size}
use Rattle.book_lists.proofs.OrderLemmas.{apart_permuted, is_less, keys_apart, keys_sorted, text_cmp, texts_rise}
use Rattle.book_lists.proofs.OrderedLemmas.{ordered, out}
use Rattle.book_lists.proofs.PageLemmas.{first_page}

module _ {X : Type 0} (key : X → List ℕ) (after : List ℕ) where
  -- the text of the value is after this one
  abbrev pub comes_after : X → Bool
  comes_after x = is_lt (text_cmp after (key x))

  -- the values of which rows show a page
  pub record ShowsPage (xs : List X) (show : X → Row) (rows : List Row) : Type 0 where
    pub found : List X
    pub there : All (λ x. Contains xs x) found
    pub first : AreFirstAfter (λ k. Contains (map key xs) k) after (map key found)
    pub row : rows ≡ map show found

  module _ {db : Trees} {tree : ℕ} {tests shown : List Term} {params : Row} {stored : X → Row} {xs : List X} {show : X → Row}
      (l : IsHiddenListing db tree tests shown params stored xs comes_after show) (at : ℕ)
      (keeps_key : (number : Value) (x : X) → column (number ∷ stored x) at ≡ Text (key x))
      (once : AllPairs (λ a b. key a ≡ key b → ⊥) xs) (limit : Term) (counts : as_count (eval limit (params ∷ [])) ≡ Some page_size) where
    module _ (found : List X) (same : IsPermutation (filter comes_after xs) found) (sorted : IsSorted text_cmp (map key found)) where
      keys_rise : AllPairs ComesBefore (map key found)
      keys_rise =
          texts_rise (map key found) sorted
          (apart_permuted (map key (filter comes_after xs)) (map key found) (IsPermutation-map key (filter comes_after xs) found same)
          (keys_apart key (filter comes_after xs) (AllPairs-filter (λ a b. key a ≡ key b → ⊥) comes_after xs once)))

      -- what is found is there and passes, and what is there and passes is found
      from_there : (x : X) → Contains found x → Contains xs x × (comes_after x ≡ true)
      from_there x in_found = there_passes comes_after xs x
          (Contains-permutation found (filter comes_after xs) x (IsPermutation-sym (filter comes_after xs) found same) in_found)

      keys_there : All (λ k. Contains (map key xs) k × ComesBefore after k) (map key found)
      keys_there i d within =
          let source = map_source key found (get_or (map key found) i d) (Contains-get_or (map key found) i d within) in
          let parts = from_there source.0 source.1 in
          subst (λ k. Contains (map key xs) k × ComesBefore after k) source.2
          (contains_map key xs source.0 parts.0, is_less (text_cmp after (key source.0)) parts.1)

      all_found : (k : List ℕ) → Contains (map key xs) k → ComesBefore after k → Contains (map key found) k
      all_found k there later =
          let source = map_source key xs k there in
          let passes : comes_after source.0 ≡ true = ap (λ (t : List ℕ). is_lt (text_cmp after t)) source.2 ∙ ap is_lt later in
          let in_found = Contains-permutation (filter comes_after xs) found source.0 same (passes_there comes_after xs source.0 source.1 passes) in
          subst (Contains (map key found)) source.2 (contains_map key found source.0 in_found)

      page_first : AreFirstAfter (λ k. Contains (map key xs) k) after (map key (take page_size found))
      page_first =
          subst (AreFirstAfter (λ k. Contains (map key xs) k) after) (take-map key page_size found)
          (first_page (λ k. Contains (map key xs) k) after (map key found) keys_rise keys_there all_found)

    -- the rows of an answer show a page
    pub page_by_text : (rows : List Row) → IsAnswer (query_on tree tests shown (rising at) limit) db params rows → ShowsPage xs show rows
    page_by_text rows answer =
        let both = numbered stored l.some (db tree) xs l.holds_them in
        let value : Value × X → X = λ x. x.1 in
        let beside : IsListing db tree tests shown params (with_number stored) both.0 (λ x. comes_after x.1) (λ x. show x.1) =
        record { holds_them = both.1; passes = λ x. l.passes x.0 x.1; shows = λ x. l.shows x.0 x.1 } in
        let all = ordered beside at limit rows answer in
        let by_key : (a b : Value × X) → output_cmp (query_on tree tests shown (rising at) limit) (out beside at limit a)
        (out beside at limit b) ≡ text_cmp (key a.1) (key b.1) =
        λ a b. then-Equal _ ∙ ap₂ value_cmp (keeps_key a.0 a.1) (keeps_key b.0 b.1) ∙ value_cmp-Text (key a.1) (key b.1) in
        let found = map value all.found in
        let found_are : map value (filter (λ x. comes_after x.1) both.0) ≡ filter comes_after xs =
        sym (filter-map comes_after value both.0) ∙ ap (filter comes_after) both.2 in
        let same : IsPermutation (filter comes_after xs) found =
        subst (λ (l : List X). IsPermutation l found) found_are (IsPermutation-map value (filter (λ x. comes_after x.1) both.0) all.found all.same) in
        let sorted : IsSorted text_cmp (map key found) = subst (IsSorted text_cmp) (sym (map-map key value all.found))
        (keys_sorted (λ (x : Value × X). key x.1) (out beside at limit) (output_cmp (query_on tree tests shown (rising at) limit)) by_key
        all.found all.sorted) in
        record {
          found = take page_size found;
          there = All-take (λ x. Contains xs x) page_size found
              (λ i d within. (from_there found same sorted (get_or found i d) (Contains-get_or found i d within)).0);
          first = page_first found same sorted;
          row = all.row ∙ ap (λ (n : Option ℕ). limited n (map (λ (x : Value × X). show x.1) all.found)) counts
              ∙ ap (take page_size) (sym (map-map show value all.found)) ∙ take-map show page_size found;
        }
