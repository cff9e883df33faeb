-- Of numbers that a column keeps, ORDER BY it LIMIT 1 shows the least.
use Rattle.std.proofs.Common.{◌≡◌, ◌≤◌, ℕ, suc, inl, inr, Bool, false, true≢false, List, [], ◌∷◌, filter, map, min, take, Less, Option, Some, None, Ordering, is_lt, pos, int_cmp, add-one, arith, refl, sym, ap, ap₂, subst, ◌∙◌, IsPermutation, IsSorted}
use Rattle.std.specs.Prelude.{All, Contains}
use Rattle.std.specs.Option.{option_to_list}
use Rattle.std.proofs.lemmas.Bool.{cases_lt}
use Rattle.std.proofs.lemmas.Int.{ints}
use Rattle.std.proofs.lemmas.List.Elements.{All-cons, All-contains, All-map, All-nil, All-weaker}
use Rattle.std.proofs.lemmas.List.Sorted.{All-permutation, Contains-permutation, IsPermutation-sym, length_permutation}
use Rattle.sqlite_value.specs.declared.value.Value.{Value}
use Rattle.sqlite_value.specs.declared.value.Value.TheVariants.{Int}
use Rattle.sqlite_value.specs.Order.{Row, column, value_cmp}
use Rattle.sqlite_value.proofs.OrderLemmas.{then-Equal, value_cmp-Int}
use Rattle.sqlite_trees.specs.Tree.{Trees}
use Rattle.sqlite_sql.specs.Term.{Term, lit}
use Rattle.sqlite_sql.specs.Query.{IsAnswer, Output, Query, output_cmp}
use Rattle.sqlite_keyed.proofs.KeyedLemmas.{Less-from_lt}
use Rattle.one_table.specs.Listed.{IsListing, query_on, rising}
use Rattle.one_table.specs.Numbered.{IsHiddenListing}
use Rattle.one_table.proofs.LookUpLemmas.{numbered, with_number, without_numbers}
use Rattle.book_tables.specs.row.Rows.{shown_number}
use Rattle.book_lists.proofs.OrderedLemmas.{ordered, out}
use Rattle.book_tables.proofs.ListLemmas.{contains_first, contains_further, contains_map, contains_none}

-- ---- the least of a list

-- the least number, or none of none
abbrev pub IsLeast : List ℕ → Option ℕ → Type 0
IsLeast ns None = ns ≡ []
IsLeast ns (Some n) = Contains ns n × All (λ m. n ≤ m) ns

abbrev with_least : ℕ → Option ℕ → ℕ
with_least n None = n
with_least n (Some m) = min n m

-- the least of some numbers, where there are any
abbrev pub least_of : List ℕ → Option ℕ
least_of [] = None
least_of (n ∷ ns) = Some (with_least n (least_of ns))

-- what is least is so of a list with one number more
least_more : (n : ℕ) (ns : List ℕ) (o : Option ℕ) → IsLeast ns o → IsLeast (n ∷ ns) (Some (with_least n o))
least_more n ns None none = (contains_first n ns, All-cons (λ m. n ≤ m) n ns (omega arith) (subst (All (λ m. n ≤ m)) (sym none) (All-nil (λ m. n ≤ m))))
least_more n ns (Some m) (there, least) = elim (cases_lt n m) [
  | inl below ↦
      let is : min n m ≡ n = omega (arith, below) in
      subst (λ k. IsLeast (n ∷ ns) (Some k)) (sym is) (
        contains_first n ns,
        All-cons (λ k. n ≤ k) n ns (omega arith) (All-weaker (λ k. m ≤ k) (λ k. n ≤ k) (λ k h. omega (arith, below, h)) ns least),
      )
  | inr above ↦
      let is : min n m ≡ m = omega (arith, above) in
      subst (λ k. IsLeast (n ∷ ns) (Some k)) (sym is) (contains_further n m ns there, All-cons (λ k. m ≤ k) n ns above least)
]

-- what is computed is the least
pub least_is : (ns : List ℕ) → IsLeast ns (least_of ns)
least_is [] = refl
least_is (n ∷ ns) = least_more n ns (least_of ns) (least_is ns)

-- there is one least number
pub one_least : (ns : List ℕ) (a b : Option ℕ) → IsLeast ns a → IsLeast ns b → a ≡ b
one_least ns None None none_a none_b = refl
one_least ns None (Some b) none (there, least) = absurd (contains_none b (subst (λ l. Contains l b) none there))
one_least ns (Some a) None (there, least) none = absurd (contains_none a (subst (λ l. Contains l a) none there))
one_least ns (Some a) (Some b) (a_there, a_least) (b_there, b_least) =
    let low : a ≤ b = All-contains (λ m. a ≤ m) ns b a_least b_there in
    let high : b ≤ a = All-contains (λ m. b ≤ m) ns a b_least a_there in
    ap (λ (n : ℕ). Some n) (omega (arith, low, high))

-- ---- the first of a list that rises

module _ {X Y : Type 0} (key : X → ℕ) (out : X → Y) (cmp : Y → Y → Ordering) (rises : (a b : X) → is_lt (cmp (out a) (out b)) ≡ false → key b ≤ key a) where
  least_first : (y : X) (more : List X) → IsSorted cmp (map out (y ∷ more)) → All (λ z. key y ≤ key z) (y ∷ more)
  least_first y [] sorted = All-cons (λ z. key y ≤ key z) y [] (omega arith) (All-nil (λ z. key y ≤ key z))
  least_first y (z ∷ more) sorted =
      let next : key y ≤ key z = rises z y (sorted 0 (out y) (omega arith) (omega arith)) in
      let tail : IsSorted cmp (map out (z ∷ more)) = λ k d p q. rw add-one (rw add-one at (sorted (suc k) d (omega arith) (omega arith))) in
      let rest = least_first z more tail in
      All-cons (λ x. key y ≤ key x) y (z ∷ more) (omega arith) (λ i d below. omega (arith, next, rest i d below))

empty : {X : Type 0} (xs : List X) → IsPermutation xs [] → xs ≡ []
empty [] same = refl
empty (x ∷ xs) same = absurd (omega (arith, length_permutation (x ∷ xs) [] same))

-- ---- rows that hold values

module _ {X : Type 0} {db : Trees} {tree : ℕ} {tests shown : List Term} {params : Row} {stored : X → Row} {xs : List X} {p : X → Bool} (key : X → ℕ)
    (l : IsListing db tree tests shown params stored xs p (λ x. shown_number (key x))) (at : ℕ)
    (keeps_key : (x : X) → column (stored x) at ≡ Int (pos (key x))) where
  abbrev limit : Term
  limit = lit (Int (pos 1))

  abbrev q : Query
  q = query_on tree tests shown (rising at) limit

  abbrev out_of : X → Output
  out_of = out l at limit

  out_rises : (a b : X) → is_lt (output_cmp q (out_of a) (out_of b)) ≡ false → key b ≤ key a
  out_rises a b h =
      let is : output_cmp q (out_of a) (out_of b) ≡ int_cmp (pos (key a)) (pos (key b)) =
      then-Equal _ ∙ ap₂ value_cmp (keeps_key a) (keeps_key b) ∙ value_cmp-Int (pos (key a)) (pos (key b)) in
      elim (cases_lt (key a) (key b)) [
        | inl below ↦
            let less : int_cmp (pos (key a)) (pos (key b)) ≡ Less = Less-from_lt (pos (key a)) (pos (key b)) (grind (arith, ints, below)) in
            absurd (true≢false (sym (ap is_lt (is ∙ less)) ∙ h))
        | inr low ↦ low
      ]

  -- the least number of those that pass, and the row that shows it
  record Least (rows : List Row) : Type 0 where
    pub first : Option ℕ
    pub is_least : IsLeast (map key (filter p xs)) first
    pub row : rows ≡ map shown_number (option_to_list first)

  of_order : (ys : List X) → IsPermutation (filter p xs) ys → IsSorted (output_cmp q) (map out_of ys) → (rows : List Row) → rows
      ≡ take 1 (map (λ x. shown_number (key x)) ys) → Least rows
  of_order [] same sorted rows is = record { first = None; is_least = ap (map key) (empty (filter p xs) same); row = is }
  of_order (y ∷ ys) same sorted rows is =
      let back = IsPermutation-sym (filter p xs) (y ∷ ys) same in
      record {
        first = Some (key y);
        is_least = (
          contains_map key (filter p xs) y (Contains-permutation (y ∷ ys) (filter p xs) y back (contains_first y ys)),
          All-map (λ n. key y ≤ n) key (filter p xs) (All-permutation (λ z. key y ≤ key z) (y ∷ ys) (filter p xs) back
              (least_first key out_of (output_cmp q) out_rises y ys sorted)),
        );
        row = is;
      }

  least_shown : (rows : List Row) → IsAnswer q db params rows → Least rows
  least_shown rows answer = let all = ordered l at limit rows answer in of_order all.found all.same all.sorted rows all.row

-- ---- rows that hold them behind hidden numbers

module _ {X : Type 0} {db : Trees} {tree : ℕ} {tests shown : List Term} {params : Row} {stored : X → Row} {xs : List X} {p : X → Bool} (key : X → ℕ)
    (l : IsHiddenListing db tree tests shown params stored xs p (λ x. shown_number (key x))) (at : ℕ)
    (keeps_key : (number : Value) (x : X) → column (number ∷ stored x) at ≡ Int (pos (key x))) where
  -- the rows of an answer show the least number of those that pass
  pub least_hidden : (rows : List Row) → IsAnswer (query_on tree tests shown (rising at) (lit (Int (pos 1)))) db params rows → rows
      ≡ map shown_number (option_to_list (least_of (map key (filter p xs))))
  least_hidden rows answer =
      let both = numbered stored l.some (db tree) xs l.holds_them in
      let beside : IsListing db tree tests shown params (with_number stored) both.0 (λ x. p x.1) (λ x. shown_number (key x.1)) =
      record { holds_them = both.1; passes = λ x. l.passes x.0 x.1; shows = λ x. l.shows x.0 x.1 } in
      let found = least_shown (λ (x : Value × X). key x.1) beside at (λ x. keeps_key x.0 x.1) rows answer in
      let keys : map (λ (x : Value × X). key x.1) (filter (λ x. p x.1) both.0) ≡ map key (filter p xs) =
      without_numbers stored key p both.0 ∙ ap (λ (l : List X). map key (filter p l)) both.2 in
      let is = one_least (map key (filter p xs)) found.first (least_of (map key (filter p xs)))
      (subst (λ (ns : List ℕ). IsLeast ns found.first) keys found.is_least) (least_is (map key (filter p xs))) in
      found.row ∙ ap (λ (o : Option ℕ). map shown_number (option_to_list o)) is
