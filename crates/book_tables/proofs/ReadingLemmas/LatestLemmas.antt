-- Of numbers that a column keeps, ORDER BY it DESC LIMIT 1 shows the greatest.
use Rattle.std.proofs.Common.{◌≡◌, ℕ, suc, ◌≤◌, inl, inr, Bool, false, true≢false, cond, List, [], ◌∷◌, filter, flat_map, map, take, Less, Option, Some, None, Ordering, is_lt, pos, int_cmp, add-one, arith, refl, sym, ap, ap₂, subst, ◌∙◌, IsPermutation, IsSorted}
use Rattle.std.specs.Prelude.{All}
use Rattle.std.specs.Option.{option_to_list}
use Rattle.std.specs.List.{list_all}
use Rattle.std.proofs.lemmas.Bool.{cases_lt}
use Rattle.std.proofs.lemmas.Int.{ints}
use Rattle.std.proofs.lemmas.List.Elements.{All-cons, All-map, All-nil}
use Rattle.std.proofs.lemmas.List.Sorted.{All-permutation, Contains-permutation, IsPermutation-sym, length_permutation}
use Rattle.sqlite_value.specs.declared.value.Value.{Value}
use Rattle.sqlite_value.specs.declared.value.Value.TheVariants.{Int}
use Rattle.sqlite_value.specs.Order.{Row, column, value_cmp}
use Rattle.sqlite_value.proofs.OrderLemmas.{then-Equal, value_cmp-Int}
use Rattle.sqlite_trees.specs.Tree.{Trees}
use Rattle.sqlite_trees.proofs.ListLemmas.{pull_back}
use Rattle.sqlite_sql.specs.Term.{Env, Term, holds, lit}
use Rattle.sqlite_sql.specs.Query.{IsAnswer, Output, Query, end, inner, matches, output, output_cmp}
use Rattle.sqlite_keyed.proofs.KeyedLemmas.{Less-from_lt}
use Rattle.sqlite_keyed.proofs.ListLemmas.{filter-map, filter_as_flat_map, filter_same, flat_map-map, map-map}
use Rattle.sts_fields.specs.Tid.{IsLast}
use Rattle.one_table.specs.Listed.{IsListing, falling, query_on}
use Rattle.one_table.specs.Numbered.{IsHiddenListing}
use Rattle.one_table.proofs.LookUpLemmas.{numbered, with_number, without_numbers}
use Rattle.book_tables.specs.row.Rows.{shown_number}
use Rattle.book_tables.proofs.ListLemmas.{contains_first, contains_map}

-- ---- the first of a list that falls

module _ {X Y : Type 0} (key : X → ℕ) (out : X → Y) (cmp : Y → Y → Ordering) (falls : (a b : X) → is_lt (cmp (out a) (out b)) ≡ false → key a ≤ key b) where
  greatest_first : (y : X) (more : List X) → IsSorted cmp (map out (y ∷ more)) → All (λ z. key z ≤ key y) (y ∷ more)
  greatest_first y [] sorted = All-cons (λ z. key z ≤ key y) y [] (omega arith) (All-nil (λ z. key z ≤ key y))
  greatest_first y (z ∷ more) sorted =
      let next : key z ≤ key y = falls z y (sorted 0 (out y) (omega arith) (omega arith)) in
      let tail : IsSorted cmp (map out (z ∷ more)) = λ k d p q. rw add-one (rw add-one at (sorted (suc k) d (omega arith) (omega arith))) in
      let rest = greatest_first z more tail in
      All-cons (λ x. key x ≤ key y) y (z ∷ more) (omega arith) (λ i d below. omega (arith, next, rest i d below))

empty : {X : Type 0} (xs : List X) → IsPermutation xs [] → xs ≡ []
empty [] same = refl
empty (x ∷ xs) same = absurd (omega (arith, length_permutation (x ∷ xs) [] same))

-- ---- rows that hold values

module _ {X : Type 0} {db : Trees} {tree : ℕ} {tests shown : List Term} {params : Row} {stored : X → Row} {xs : List X} {p : X → Bool} (key : X → ℕ)
    (l : IsListing db tree tests shown params stored xs p (λ x. shown_number (key x))) (at : ℕ)
    (keeps_key : (x : X) → column (stored x) at ≡ Int (pos (key x))) where
  abbrev q : Query
  q = query_on tree tests shown (falling at) (lit (Int (pos 1)))

  abbrev out : X → Output
  out x = output q (params ∷ stored x ∷ [])

  out_falls : (a b : X) → is_lt (output_cmp q (out a) (out b)) ≡ false → key a ≤ key b
  out_falls a b h =
      let is : output_cmp q (out a) (out b) ≡ int_cmp (pos (key b)) (pos (key a)) =
      then-Equal _ ∙ ap₂ value_cmp (keeps_key b) (keeps_key a) ∙ value_cmp-Int (pos (key b)) (pos (key a)) in
      elim (cases_lt (key b) (key a)) [
        | inl below ↦
            let less : int_cmp (pos (key b)) (pos (key a)) ≡ Less = Less-from_lt (pos (key b)) (pos (key a)) (grind (arith, ints, below)) in
            absurd (true≢false (sym (ap is_lt (is ∙ less)) ∙ h))
        | inr low ↦ low
      ]

  -- the matches, which `one_table` keeps to itself
  matches_are : matches db tests (inner tree end) (params ∷ []) ≡ map (λ x. params ∷ stored x ∷ []) (filter p xs)
  matches_are =
      let whole = λ (x : X). params ∷ stored x ∷ [] in
      let kept = λ (e : Env). cond (list_all (holds e) tests) (e ∷ []) [] in
      ap (flat_map (λ (r : Row). kept (params ∷ r ∷ []))) l.holds_them ∙ flat_map-map (λ (r : Row). kept (params ∷ r ∷ [])) stored xs
      ∙ sym (filter_as_flat_map (λ e. list_all (holds e) tests) (map whole xs) ∙ flat_map-map kept whole xs)
      ∙ filter-map (λ e. list_all (holds e) tests) whole xs ∙ ap (map whole) (filter_same (λ x. list_all (holds (whole x)) tests) p l.passes xs)

  -- the greatest number of those that pass, and the row that shows it
  pub record Greatest (rows : List Row) : Type 0 where
    pub last : Option ℕ
    pub is_last : IsLast (map key (filter p xs)) last
    pub row : rows ≡ map shown_number (option_to_list last)

  of_order : (ys : List X) → IsPermutation (filter p xs) ys → IsSorted (output_cmp q) (map out ys) → (rows : List Row) → rows
      ≡ take 1 (map (λ (o : Output). o.1) (map out ys)) → Greatest rows
  of_order [] same sorted rows is = record { last = None; is_last = ap (map key) (empty (filter p xs) same); row = is }
  of_order (y ∷ ys) same sorted rows is =
      let back = IsPermutation-sym (filter p xs) (y ∷ ys) same in
      record {
        last = Some (key y);
        is_last = (
          contains_map key (filter p xs) y (Contains-permutation (y ∷ ys) (filter p xs) y back (contains_first y ys)),
          All-map (λ n. n ≤ key y) key (filter p xs) (All-permutation (λ z. key z ≤ key y) (y ∷ ys) (filter p xs) back
              (greatest_first key out (output_cmp q) out_falls y ys sorted)),
        );
        row = is ∙ ap (λ (row : Row). row ∷ []) (l.shows y);
      }

  -- an answer of the query shows the greatest number of the rows that pass its tests
  pub greatest_shown : (rows : List Row) → IsAnswer q db params rows → Greatest rows
  greatest_shown rows answer =
      let arranged : IsPermutation (map out (filter p xs)) answer.ordered =
      subst (λ l. IsPermutation l answer.ordered) (answer.distinct ∙ ap (map (output q)) (answer.grouped ∙ matches_are)
      ∙ map-map (output q) (λ x. params ∷ stored x ∷ []) (filter p xs)) answer.same in
      let found = pull_back out (map out (filter p xs)) answer.ordered arranged (filter p xs) refl in
      of_order found.0 found.1 (subst (IsSorted (output_cmp q)) found.2 answer.sorted) rows
      (answer.shown ∙ ap (λ (l : List Output). take 1 (map (λ (o : Output). o.1) l)) found.2)

-- ---- rows that hold them behind hidden numbers

module _ {X : Type 0} {db : Trees} {tree : ℕ} {tests shown : List Term} {params : Row} {stored : X → Row} {xs : List X} {p : X → Bool} (key : X → ℕ)
    (l : IsHiddenListing db tree tests shown params stored xs p (λ x. shown_number (key x))) (at : ℕ)
    (keeps_key : (number : Value) (x : X) → column (number ∷ stored x) at ≡ Int (pos (key x))) where
  -- the same where each row has a hidden number in front of its values
  pub greatest_hidden : (rows : List Row) → IsAnswer (query_on tree tests shown (falling at) (lit (Int (pos 1)))) db params rows
      → (last : Option ℕ) × IsLast (map key (filter p xs)) last × (rows ≡ map shown_number (option_to_list last))
  greatest_hidden rows answer =
      let both = numbered stored l.some (db tree) xs l.holds_them in
      let beside : IsListing db tree tests shown params (with_number stored) both.0 (λ x. p x.1) (λ x. shown_number (key x.1)) =
      record { holds_them = both.1; passes = λ x. l.passes x.0 x.1; shows = λ x. l.shows x.0 x.1 } in
      let found = greatest_shown (λ (x : Value × X). key x.1) beside at (λ x. keeps_key x.0 x.1) rows answer in
      let keys : map (λ (x : Value × X). key x.1) (filter (λ x. p x.1) both.0) ≡ map key (filter p xs) =
      without_numbers stored key p both.0 ∙ ap (λ (l : List X). map key (filter p l)) both.2 in
      (found.last, subst (λ (ns : List ℕ). IsLast ns found.last) keys found.is_last, found.row)
