-- The steps of a tariff, in the order of their places.
use Rattle.std.proofs.Common.{◌≡◌, ◌≢◌, ◌++◌, cond, get_or, ◌+◌, ◌-◌, ◌<◌, ◌≤◌, ◌<ℤ◌, ◌⊎◌, inl, inr, ℕ, suc, true, false, List, [], ◌∷◌, filter, map, not, pos, slice_get, Option, Some, zero, arith, refl, sym, ap, subst, ◌∙◌, eq-eqb, IsPermutation}
use Rattle.std.specs.Prelude.{◌==◌, AllPairs, Bool, Contains}
use Rattle.std.specs.List.{AllByRecursion, enumerate_from}
use Rattle.std.proofs.lemmas.Bool.{false≢true}
use Rattle.std.proofs.lemmas.Bool.Decides.{nat_tests}
use Rattle.std.proofs.lemmas.Int.{ints}
use Rattle.std.proofs.lemmas.List.Elements.{Contains-get_or}
use Rattle.std.proofs.lemmas.List.Kept.{AllPairs-filter}
use Rattle.std.proofs.lemmas.List.Sorted.{IsPermutation-cons, IsPermutation-filter_both, IsPermutation-refl, IsPermutation-trans}
use Rattle.tariff.specs.declared.step.Step.{Step}
use Rattle.book_tables.specs.row.Rows.{StepRow}
use Rattle.book_tables.proofs.ReadingLemmas.SaleListLemmas.{IsRising}
use Rattle.book_tables.proofs.ListLemmas.{NotBothPass, contains_cases, contains_first, contains_further, contains_none, no_pairs, one_passes, pairs_cons, pairs_first, pairs_rest, pairs_weaker}

-- ---- what passes a test stands in a list

-- what stands in a list and passes a test stands among those that pass
pub passes_there : {X : Type 0} (p : X → Bool) (xs : List X) (x : X) → Contains xs x → p x ≡ true → Contains (filter p xs) x
passes_there p [] x there passes = absurd (contains_none x there)
passes_there {X} p (y ∷ ys) x there passes = by_test (p y) refl (contains_cases y x ys there) (λ further. passes_there p ys x further passes)
  where
    by_test : (b : Bool) → p y ≡ b → (y ≡ x) ⊎ Contains ys x → (Contains ys x → Contains (filter p ys) x) → Contains (cond b (y ∷ filter p ys) (filter p ys)) x
    by_test true is (inl same) more = subst (λ z. Contains (y ∷ filter p ys) z) same (contains_first y (filter p ys))
    by_test true is (inr further) more = contains_further y x (filter p ys) (more further)
    by_test false is (inl same) more = absurd (false≢true (sym is ∙ ap p same ∙ passes))
    by_test false is (inr further) more = more further

-- what stands among those that pass stands in the list, and passes
pub there_passes : {X : Type 0} (p : X → Bool) (xs : List X) (x : X) → Contains (filter p xs) x → Contains xs x × (p x ≡ true)
there_passes p [] x there = absurd (contains_none x there)
there_passes {X} p (y ∷ ys) x there = by_test (p y) refl there (λ further. let rest = there_passes p ys x further in (contains_further y x ys rest.0, rest.1))
  where
    by_test : (b : Bool) → p y ≡ b → Contains (cond b (y ∷ filter p ys) (filter p ys)) x
        → (Contains (filter p ys) x → Contains (y ∷ ys) x × (p x ≡ true)) → Contains (y ∷ ys) x × (p x ≡ true)
    by_test true is there more = elim (contains_cases y x (filter p ys) there) [
      | inl same ↦ (subst (λ z. Contains (y ∷ ys) z) same (contains_first y ys), sym (ap p same) ∙ is)
      | inr further ↦ more further
    ]
    by_test false is there more = more there

-- a relation of all pairs, and what it says of two that pass
pub pairs_that_pass : {X : Type 0} (R S : X → X → Type 0) (p : X → Bool) (xs : List X)
    → ((a b : X) → p a ≡ true → p b ≡ true → R a b → S a b) → AllPairs R xs → AllPairs S (filter p xs)
pairs_that_pass R S p xs weaker pairs i j d before within =
    let ys = filter p xs in
    let left = there_passes p xs (get_or ys i d) (Contains-get_or ys i d (omega (arith, before, within))) in
    let right = there_passes p xs (get_or ys j d) (Contains-get_or ys j d within) in
    weaker (get_or ys i d) (get_or ys j d) left.1 right.1 (AllPairs-filter R p xs pairs i j d before within)

-- ---- lists of the same elements, of which no two have one key

module _ {X : Type 0} (key : X → ℕ) where
  -- two elements whose keys differ
  abbrev pub DifferInKey : X → X → Type 0
  DifferInKey a b = key a ≢ key b

  -- two lists with the same elements, and no key twice, differ in their order alone
  pub permuted : (xs ys : List X) → AllPairs DifferInKey xs → AllPairs DifferInKey ys → ((x : X) → Contains xs x → Contains ys x)
      → ((x : X) → Contains ys x → Contains xs x) → IsPermutation xs ys
  permuted [] [] in_xs in_ys there back = IsPermutation-refl []
  permuted (x ∷ xs) [] in_xs in_ys there back = absurd (contains_none x (there x (contains_first x xs)))
  permuted xs (y ∷ ys) in_xs in_ys there back =
      let is_y : X → Bool = λ x. key x == key y in
      let other : X → Bool = λ x. not (key x == key y) in
      let one : filter is_y xs ≡ y ∷ [] = one_passes is_y xs y
      (pairs_weaker DifferInKey (NotBothPass is_y) xs (λ a b apart p q. apart (grind (arith, nat_tests))) in_xs)
      (back y (contains_first y ys)) (eq-eqb (key y) (key y) refl) in
      let rest = permuted (filter other xs) ys (AllPairs-filter DifferInKey other xs in_xs) (pairs_rest DifferInKey y ys in_ys)
      (λ x here. let parts = there_passes other xs x here in elim (contains_cases y x ys (there x parts.0)) [
        | inl same ↦ absurd (false≢true (sym (ap not (eq-eqb (key x) (key y) (sym (ap key same)))) ∙ parts.1))
        | inr further ↦ further
      ])
      (λ x here. passes_there other xs x (back x (contains_further y x ys here))
      (let apart = pairs_first DifferInKey y x ys in_ys here in grind (arith, nat_tests, apart))) in
      IsPermutation-trans xs (y ∷ filter other xs) (y ∷ ys)
      (subst (λ (l : List X). IsPermutation xs (l ++ filter other xs)) one (IsPermutation-filter_both is_y other (λ x. refl) xs))
      (IsPermutation-cons y (filter other xs) ys rest)

-- ---- the rows of a tariff's steps

module _ (name : List ℕ) where
  -- the rows of a tariff's steps, their places counted from the first
  abbrev pub rows_from : ℕ → List Step → List StepRow
  rows_from first steps = map (λ s. record { tariff = name; place = s.0; step = s.1 }) (enumerate_from first steps)

  rows_above : (low first : ℕ) → low < first → (steps : List Step) → AllByRecursion (λ (r : StepRow). pos low <ℤ pos r.place) (rows_from first steps)
  rows_above low first below [] = tt
  rows_above low first below (s ∷ steps) = (grind (arith, ints, below), rows_above low (first + 1) (omega (arith, below)) steps)

  -- the places of these rows rise
  pub rows_rise : (first : ℕ) (steps : List Step) → IsRising (λ (r : StepRow). r.place) (rows_from first steps)
  rows_rise first [] = tt
  rows_rise first (s ∷ steps) = (rows_above first (first + 1) (omega arith) steps, rows_rise (first + 1) steps)

  -- a row of the list has its step at its place
  pub row_there : (first : ℕ) (steps : List Step) (r : StepRow) → Contains (rows_from first steps) r → (r.tariff ≡ name)
      × (first ≤ r.place) × (slice_get steps (r.place - first) ≡ Some r.step)
  row_there first [] r there = absurd (contains_none r there)
  row_there first (s ∷ steps) r there = elim (contains_cases (record { tariff = name; place = first; step = s }) r (rows_from (first + 1) steps) there) [
    | inl same ↦ (
      sym (ap (λ (r : StepRow). r.tariff) same),
      omega (arith, ap (λ (r : StepRow). r.place) same),
      let at : 0 ≡ r.place - first = omega (arith, ap (λ (r : StepRow). r.place) same) in
          subst (λ k. slice_get (s ∷ steps) k ≡ Some r.step) at (ap (λ (r : StepRow). let o : Option Step = Some r.step in o) same),
    )
    | inr further ↦
        let rest = row_there (first + 1) steps r further in
        let at : suc (r.place - (first + 1)) ≡ r.place - first = omega (arith, rest.1) in
        (rest.0, omega (arith, rest.1), subst (λ k. slice_get (s ∷ steps) k ≡ Some r.step) at rest.2)
  ]

  -- each step has a row, at its place
  pub there_row : (first : ℕ) (steps : List Step) (i : ℕ) (s : Step) → slice_get steps i ≡ Some s
      → Contains (rows_from first steps) (record { tariff = name; place = first + i; step = s })
  there_row first [] i s there = absurd (let e = there in cc)
  there_row first (x ∷ steps) zero s there =
      let same : x ≡ s = cc in
      let at : first ≡ first + 0 = omega arith in
      subst (λ k. Contains (rows_from first (x ∷ steps)) (record { tariff = name; place = k; step = s })) at
      (subst (λ z. Contains (rows_from first (x ∷ steps)) (record { tariff = name; place = first; step = z })) same
      (contains_first (record { tariff = name; place = first; step = x }) (rows_from (first + 1) steps)))
  there_row first (x ∷ steps) (suc i) s there =
      let at : first + 1 + i ≡ first + suc i = omega arith in
      subst (λ k. Contains (rows_from first (x ∷ steps)) (record { tariff = name; place = k; step = s })) at
      (contains_further (record { tariff = name; place = first; step = x }) (record { tariff = name; place = first + 1 + i; step = s })
      (rows_from (first + 1) steps) (there_row (first + 1) steps i s there))

  -- no two of them are at one place
  pub rows_differ : (first : ℕ) (steps : List Step) → AllPairs (DifferInKey (λ (r : StepRow). r.place)) (rows_from first steps)
  rows_differ first [] = no_pairs (DifferInKey (λ (r : StepRow). r.place))
  rows_differ first (s ∷ steps) =
      pairs_cons (DifferInKey (λ (r : StepRow). r.place)) (record { tariff = name; place = first; step = s }) (rows_from (first + 1) steps)
      (rows_differ (first + 1) steps)
      (λ r there same. let at = (row_there (first + 1) steps r there).1 in omega (arith, at, same))
