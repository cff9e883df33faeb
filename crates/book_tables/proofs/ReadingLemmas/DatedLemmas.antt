-- The steps that a tariff has from a day on, in the order of their places.
use Rattle.std.proofs.Common.{◌≡◌, ◌∙◌, ◌+◌, ◌-◌, ◌<◌, ◌≤◌, ◌<ℤ◌, inl, inr, ℕ, zero, suc, true, List, [], ◌∷◌, Option, None, Some, arith, filter, map, pos, slice_get, refl, sym, ap, subst, eq-eqb, IsPermutation}
use Rattle.std.specs.Prelude.{◌&&◌, ◌==◌, AllPairs, Bool, Contains, bytes_eq}
use Rattle.std.specs.List.{AllByRecursion, enumerate_from}
use Rattle.std.proofs.lemmas.Bool.{and_from, and_parts}
use Rattle.std.proofs.lemmas.Bool.Decides.{nat_tests}
use Rattle.std.proofs.lemmas.Int.{ints}
use Rattle.std.proofs.lemmas.Slice.Eq.{bytes_eq-Decides}
use Rattle.tariff.specs.declared.step.Step.{Step}
use Rattle.office_rules.specs.Office.{Office}
use Rattle.book_tables.specs.row.Rows.{DatedStepRow, Rows, shown_step}
use Rattle.book_tables.specs.Stands.{AreDatedApart, AreMembersOf}
use Rattle.book_tables.proofs.ListLemmas.{contains_cases, contains_first, contains_further, contains_none, no_pairs, pairs_cons}
use Rattle.book_tables.proofs.ReadingLemmas.SaleListLemmas.{IsRising}
use Rattle.book_tables.proofs.ReadingLemmas.StepLemmas.{DifferInKey, pairs_that_pass, passes_there, permuted, there_passes}
use Rattle.book_tables.proofs.ReadingLemmas.StepListLemmas.{listed_of}

-- the place of a row's step, by which the rows are put in order
abbrev pub place_of : DatedStepRow → ℕ
place_of r = r.place

-- ---- the rows of the steps from a day on

module _ (name : List ℕ) (day : ℕ) where
  -- the row of a step at a place, of the tariff and the day
  abbrev pub dated_at : ℕ → Step → DatedStepRow
  dated_at place step = record { tariff = name; day = day; place = place; step = step }

  -- the rows of steps of the tariff and the day, their places counted from the first
  abbrev pub dated_from : ℕ → List Step → List DatedStepRow
  dated_from first steps = map (λ s. record { tariff = name; day = day; place = s.0; step = s.1 }) (enumerate_from first steps)

  dated_above : (low first : ℕ) → low < first → (steps : List Step) → AllByRecursion (λ (r : DatedStepRow). pos low <ℤ pos r.place) (dated_from first steps)
  dated_above low first below [] = tt
  dated_above low first below (s ∷ steps) = (grind (arith, ints, below), dated_above low (first + 1) (omega (arith, below)) steps)

  -- the places of these rows rise
  pub dated_rise : (first : ℕ) (steps : List Step) → IsRising place_of (dated_from first steps)
  dated_rise first [] = tt
  dated_rise first (s ∷ steps) = (dated_above first (first + 1) (omega arith) steps, dated_rise (first + 1) steps)

  -- a row of the list has its step at its place
  dated_there : (first : ℕ) (steps : List Step) (r : DatedStepRow) → Contains (dated_from first steps) r
      → (r.tariff ≡ name) × (r.day ≡ day) × (first ≤ r.place) × (slice_get steps (r.place - first) ≡ Some r.step)
  dated_there first [] r there = absurd (contains_none r there)
  dated_there first (s ∷ steps) r there = elim (contains_cases (dated_at first s) r (dated_from (first + 1) steps) there) [
    | inl same ↦ (
      sym (ap (λ (r : DatedStepRow). r.tariff) same),
      sym (ap (λ (r : DatedStepRow). r.day) same),
      omega (arith, ap place_of same),
      let at : 0 ≡ r.place - first = omega (arith, ap place_of same) in
          subst (λ k. slice_get (s ∷ steps) k ≡ Some r.step) at (ap (λ (r : DatedStepRow). let o : Option Step = Some r.step in o) same),
    )
    | inr further ↦
        let rest = dated_there (first + 1) steps r further in
        let at : suc (r.place - (first + 1)) ≡ r.place - first = omega (arith, rest.2) in
        (rest.0, rest.1, omega (arith, rest.2), subst (λ k. slice_get (s ∷ steps) k ≡ Some r.step) at rest.3)
  ]

  there_dated : (first : ℕ) (steps : List Step) (i : ℕ) (s : Step) → slice_get steps i ≡ Some s → Contains (dated_from first steps) (dated_at (first + i) s)
  there_dated first [] i s there = absurd (let e = there in cc)
  there_dated first (x ∷ steps) zero s there =
      let same : x ≡ s = cc in
      let at : first ≡ first + 0 = omega arith in
      subst (λ k. Contains (dated_from first (x ∷ steps)) (dated_at k s)) at
      (subst (λ z. Contains (dated_from first (x ∷ steps)) (dated_at first z)) same (contains_first (dated_at first x) (dated_from (first + 1) steps)))
  there_dated first (x ∷ steps) (suc i) s there =
      let at : first + 1 + i ≡ first + suc i = omega arith in
      subst (λ k. Contains (dated_from first (x ∷ steps)) (dated_at k s)) at
      (contains_further (dated_at first x) (dated_at (first + 1 + i) s) (dated_from (first + 1) steps) (there_dated (first + 1) steps i s there))

  -- no two of them are at one place
  dated_differ : (first : ℕ) (steps : List Step) → AllPairs (DifferInKey place_of) (dated_from first steps)
  dated_differ first [] = no_pairs (DifferInKey place_of)
  dated_differ first (s ∷ steps) =
      pairs_cons (DifferInKey place_of) (dated_at first s) (dated_from (first + 1) steps) (dated_differ (first + 1) steps)
      (λ r there same. let at = (dated_there (first + 1) steps r there).2 in omega (arith, at, same))

  -- these rows show their steps, in the same order
  pub dated_shown : (first : ℕ) (steps : List Step) → map (λ (r : DatedStepRow). shown_step r.step) (dated_from first steps) ≡ map shown_step steps
  dated_shown first [] = refl
  dated_shown first (s ∷ steps) = ap (λ rows. shown_step s ∷ rows) (dated_shown (first + 1) steps)

  -- ---- those of an office's rows

  -- the row is of the tariff and of steps that begin on the day
  abbrev pub is_from_day : DatedStepRow → Bool
  is_from_day r = bytes_eq r.tariff name && (r.day == day)

  name_of : (r : DatedStepRow) → is_from_day r ≡ true → r.tariff ≡ name
  name_of r passes = (bytes_eq-Decides r.tariff name).0 (and_parts (bytes_eq r.tariff name) (r.day == day) passes).0

  day_of : (r : DatedStepRow) → is_from_day r ≡ true → r.day ≡ day
  day_of r passes = let is = (and_parts (bytes_eq r.tariff name) (r.day == day) passes).1 in grind (arith, nat_tests)

  -- a row of the tariff and the day passes that test
  pub is_from : (r : DatedStepRow) → r.tariff ≡ name → r.day ≡ day → is_from_day r ≡ true
  is_from r named dated = and_from (bytes_eq r.tariff name) (r.day == day) ((bytes_eq-Decides r.tariff name).1 named) (eq-eqb r.day day dated)

  module _ (rows : Rows) (o : Office) (are : AreMembersOf rows o) where
    row_is : (steps : Option (List Step)) → o.dated_steps name day ≡ steps → (r : DatedStepRow)
        → Contains (filter is_from_day rows.dated_steps) r → Contains (dated_from 0 (listed_of steps)) r
    row_is steps e r there =
        let parts = there_passes is_from_day rows.dated_steps r there in
        let named = name_of r parts.1 in
        let dated = day_of r parts.1 in
        let has = (are.dated_steps r).1 parts.0 in
        let same : listed_of steps ≡ has.0 =
        sym (ap listed_of e) ∙ ap (λ n. listed_of (o.dated_steps n day)) (sym named)
        ∙ ap (λ d. listed_of (o.dated_steps r.tariff d)) (sym dated) ∙ ap listed_of has.1 in
        let at : 0 + r.place ≡ r.place = omega arith in
        let R : DatedStepRow = record { tariff = r.tariff; day = r.day; place = r.place; step = r.step } in
        let here : dated_at (0 + r.place) r.step ≡ R = cc in
        subst (Contains (dated_from 0 (listed_of steps))) here
        (there_dated 0 (listed_of steps) r.place r.step (subst (λ (steps : List Step). slice_get steps r.place ≡ Some r.step) (sym same) has.2))

    is_row : (steps : Option (List Step)) → o.dated_steps name day ≡ steps → (r : DatedStepRow)
        → Contains (dated_from 0 (listed_of steps)) r → Contains (filter is_from_day rows.dated_steps) r
    is_row None e r there = absurd (let none = (dated_there 0 [] r there).3 in cc)
    is_row (Some steps) e r there =
        let at = dated_there 0 steps r there in
        let whole : r.place - 0 ≡ r.place = omega arith in
        let has = (are.dated_steps r).0 (
          steps,
          ap (λ n. o.dated_steps n r.day) at.0 ∙ ap (o.dated_steps name) at.1 ∙ e,
          subst (λ place. slice_get steps place ≡ Some r.step) whole at.3,
        ) in
        passes_there is_from_day rows.dated_steps r has (is_from r at.0 at.1)

    -- an office's rows of the tariff and the day are those of its steps, in some order
    pub dated_are : IsPermutation (filter is_from_day rows.dated_steps) (dated_from 0 (listed_of (o.dated_steps name day)))
    dated_are =
        permuted place_of (filter is_from_day rows.dated_steps) (dated_from 0 (listed_of (o.dated_steps name day)))
        (pairs_that_pass AreDatedApart (DifferInKey place_of) is_from_day rows.dated_steps
        (λ a b p q apart. apart (name_of a p ∙ sym (name_of b q)) (day_of a p ∙ sym (day_of b q))) are.dated_once)
        (dated_differ 0 (listed_of (o.dated_steps name day)))
        (row_is (o.dated_steps name day) refl) (is_row (o.dated_steps name day) refl)
