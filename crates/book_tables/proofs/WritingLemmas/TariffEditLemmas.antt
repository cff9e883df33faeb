-- The rows after a tariff, or steps from a first day on, was added are the members of the office.
use Rattle.std.proofs.Common.{◌≡◌, ◌≢◌, ℕ, zero, suc, ◌+◌, ◌⊎◌, inl, inr, Bool, true, false, List, [], ◌∷◌, ◌++◌, Option, Some, None, IsSome, refl, sym, ◌∙◌, ap, subst, arith}
use Rattle.std.specs.Prelude.{◌&&◌, ◌==◌, AllPairs, Contains, bytes_eq, if◌then◌else◌, map, slice_get}
use Rattle.std.specs.List.{enumerate_from}
use Rattle.std.proofs.lemmas.Bool.{eq-eqb, false≢true}
use Rattle.std.proofs.lemmas.Bool.Decides.{nat_tests}
use Rattle.std.proofs.lemmas.List.Elements.{Contains-append_cases, Contains-append_left, Contains-append_right, Contains-push, Contains-push_cases}
use Rattle.std.proofs.lemmas.Option.{same_Some}
use Rattle.std.proofs.lemmas.Slice.Eq.{bytes_eq-Decides}
use Rattle.tariff.specs.declared.step.Step.{Step}
use Rattle.office_rules.specs.Decision.Edits.{applied}
use Rattle.office_rules.specs.Office.{Office}
use Rattle.office_rules.specs.declared.decision.change.Edit.TheVariants as edits
use Rattle.book_tables.specs.writing.Edited.{dated_rows, edited, step_rows}
use Rattle.book_tables.specs.row.Rows.{DatedStepRow, Rows, StepRow}
use Rattle.book_tables.specs.Stands.{AreApart, AreDatedApart, AreMembersOf, HasDatedStep, HasStep}
use Rattle.book_tables.proofs.ListLemmas.{contains_cases, contains_first, contains_further, contains_none, no_pairs, pairs_append, pairs_cons, pairs_push, pairs_weaker}
use Rattle.book_tables.proofs.WritingLemmas.PutLemmas.{both_are, both_so, none_some, not_free, put_cases, put_elsewhere, put_here, same_totals, some_by, some_of}

-- ---- the rows of steps by their places

module _ {R : Type 0} (make : ℕ → Step → R) where
  abbrev rows_from : ℕ → List Step → List R
  rows_from at steps = map (λ s. make s.0 s.1) (enumerate_from at steps)

  -- a row of them has the step at its place
  record IsMade (at : ℕ) (steps : List Step) (r : R) : Type 0 where
    further : ℕ
    step : Step
    is : r ≡ make (at + further) step
    there : slice_get steps further ≡ Some step

  made_in : (at : ℕ) (steps : List Step) (r : R) → Contains (rows_from at steps) r → IsMade at steps r
  made_in at [] r there = absurd (contains_none r there)
  made_in at (s ∷ steps) r there =
      elim (contains_cases (make at s) r (rows_from (at + 1) steps) there) [
        | inl is ↦ let here : at ≡ at + 0 = omega arith in record { further = 0; step = s; is = sym is ∙ ap (λ n. make n s) here; there = refl }
        | inr further ↦
            let rest = made_in (at + 1) steps r further in
            let place : at + 1 + rest.further ≡ at + suc rest.further = omega arith in
            record { further = suc rest.further; step = rest.step; is = rest.is ∙ ap (λ n. make n rest.step) place; there = rest.there }
      ]

  made_among : (at : ℕ) (steps : List Step) (k : ℕ) (s : Step) → slice_get steps k ≡ Some s → Contains (rows_from at steps) (make (at + k) s)
  made_among at [] k s e = cc
  made_among at (t ∷ steps) zero s e =
      let here : at ≡ at + 0 = omega arith in
      let same = same_Some t s e in
      subst (Contains (rows_from at (t ∷ steps))) (ap (λ n. make n t) here ∙ ap (make (at + 0)) same) (contains_first (make at t) (rows_from (at + 1) steps))
  made_among at (t ∷ steps) (suc k) s e =
      let place : at + 1 + k ≡ at + suc k = omega arith in
      subst (λ (n : ℕ). Contains (rows_from at (t ∷ steps)) (make n s)) place
      (contains_further (make at t) (make (at + 1 + k) s) (rows_from (at + 1) steps) (made_among (at + 1) steps k s e))

  module _ (place : R → ℕ) (placed : (n : ℕ) (s : Step) → place (make n s) ≡ n) where
    made_at : (at : ℕ) (steps : List Step) (r : R) (m : IsMade at steps r) → place r ≡ at + m.further
    made_at at steps r m = ap place m.is ∙ placed (at + m.further) m.step

    made_apart : (at : ℕ) (steps : List Step) → AllPairs (λ a b. place a ≢ place b) (rows_from at steps)
    made_apart at [] = no_pairs (λ a b. place a ≢ place b)
    made_apart at (s ∷ steps) =
        pairs_cons (λ a b. place a ≢ place b) (make at s) (rows_from (at + 1) steps) (made_apart (at + 1) steps)
        (λ r there same. let m = made_in (at + 1) steps r there in omega (arith, made_at (at + 1) steps r m, placed at s, same))

abbrev step_row : List ℕ → ℕ → Step → StepRow
step_row name place step = record { tariff = name; place = place; step = step }

abbrev dated_row : List ℕ → ℕ → ℕ → Step → DatedStepRow
dated_row name day place step = record { tariff = name; day = day; place = place; step = step }

-- ---- a tariff

module _ (rows : Rows) (o : Office) (are : AreMembersOf rows o) (name : List ℕ) (steps : List Step) (free : o.tariffs name ≡ None) where
  grown : Office
  grown = applied (edits.AddTariff name steps) o

  tariff_there : (q : List ℕ) → IsSome (grown.tariffs q) → Contains (rows.tariffs ++ name ∷ []) q
  unfolding grown
  tariff_there q some =
      let found = some_of (grown.tariffs q) some in
      elim (put_cases (bytes_eq q name) q name steps found.0 (o.tariffs q) refl found.1) [
        | inl here ↦ subst (Contains (rows.tariffs ++ name ∷ [])) (sym here.0) (Contains-push rows.tariffs name)
        | inr old ↦ Contains-append_left rows.tariffs (name ∷ []) q ((are.tariffs q).0 (some_by (o.tariffs q) found.0 old))
      ]

  tariff_back : (q : List ℕ) → Contains (rows.tariffs ++ name ∷ []) q → IsSome (grown.tariffs q)
  unfolding grown
  tariff_back q there =
      elim (Contains-push_cases rows.tariffs name q there) [
        | inl old ↦
            let found = some_of (o.tariffs q) ((are.tariffs q).1 old) in
            let kept = put_elsewhere (bytes_eq q name) q name steps (o.tariffs q) refl (not_free o.tariffs q name found.0 free found.1) in
            some_by (grown.tariffs q) found.0 (kept ∙ found.1)
        | inr new ↦ some_by (grown.tariffs q) steps (put_here (bytes_eq q name) q name steps (o.tariffs q) refl (sym new))
      ]

  step_there : (r : StepRow) → HasStep grown r → Contains (rows.steps ++ step_rows name steps) r
  unfolding grown
  step_there r has =
      elim (put_cases (bytes_eq r.tariff name) r.tariff name steps has.0 (o.tariffs r.tariff) refl has.1) [
        | inl here ↦
            let at : slice_get steps r.place ≡ Some r.step = subst (λ (xs : List Step). slice_get xs r.place ≡ Some r.step) (sym here.1) has.2 in
            let in_new = made_among (step_row name) 0 steps r.place r.step at in
            Contains-append_right rows.steps (step_rows name steps) r (subst (Contains (step_rows name steps)) (same_row r (sym here.0)) in_new)
        | inr old ↦ Contains-append_left rows.steps (step_rows name steps) r ((are.steps r).0 (has.0, old, has.2))
      ]
    where
      same_row : (r : StepRow) → name ≡ r.tariff → step_row name (0 + r.place) r.step ≡ r
      same_row r e =
          let place : 0 + r.place ≡ r.place = omega arith in
          let A : StepRow = record { tariff = name; place = 0 + r.place; step = r.step } in
          let B : StepRow = record { tariff = r.tariff; place = r.place; step = r.step } in
          let same : A ≡ B = cc in
          same

  new_step : (r : StepRow) → Contains (step_rows name steps) r → (r.tariff ≡ name) × (slice_get steps r.place ≡ Some r.step)
  new_step r new =
      let m = made_in (step_row name) 0 steps r new in
      let at : m.further ≡ r.place = omega (arith, made_at (step_row name) (λ (r : StepRow). r.place) (λ n s. refl) 0 steps r m) in
      let step : m.step ≡ r.step = sym (ap (λ (r : StepRow). r.step) m.is) in (
        ap (λ (r : StepRow). r.tariff) m.is,
        subst (λ (k : ℕ). slice_get steps k ≡ Some r.step) at
            (m.there ∙ ap (λ (s : Step). let v : Option Step = Some s in v) step),
      )

  step_back : (r : StepRow) → Contains (rows.steps ++ step_rows name steps) r → HasStep grown r
  unfolding grown
  step_back r there =
      elim (Contains-append_cases rows.steps (step_rows name steps) r there) [
        | inl old ↦
            let has = (are.steps r).1 old in
            let kept = put_elsewhere (bytes_eq r.tariff name) r.tariff name steps (o.tariffs r.tariff) refl
            (not_free o.tariffs r.tariff name has.0 free has.1) in
            (has.0, kept ∙ has.1, has.2)
        | inr new ↦ let is = new_step r new in (steps, put_here (bytes_eq r.tariff name) r.tariff name steps (o.tariffs r.tariff) refl is.0, is.1)
      ]

  -- after a tariff was added with its steps, the rows are the members of the office
  pub tariff_added : AreMembersOf (edited (edits.AddTariff name steps) rows) (applied (edits.AddTariff name steps) o)
  unfolding grown
  tariff_added = record {
    tariffs = λ q. (tariff_there q, tariff_back q);
    steps = λ r. (step_there r, step_back r);
    meters = are.meters;
    bases = are.bases;
    dated_steps = are.dated_steps;
    shifts = are.shifts;
    sales = are.sales;
    totals = same_totals o.sales rows _ refl refl refl are.totals;
    tariffs_once = pairs_push (λ a b. a ≢ b) rows.tariffs name are.tariffs_once (λ q there same.
        let found = some_of (o.tariffs q) ((are.tariffs q).1 there) in
        not_free o.tariffs q name found.0 free found.1 same);
    steps_once = pairs_append AreApart rows.steps (step_rows name steps) are.steps_once
        (pairs_weaker (λ a b. a.place ≢ b.place) AreApart (step_rows name steps) (λ a b apart _. apart)
        (made_apart (step_row name) (λ (r : StepRow). r.place) (λ n s. refl) 0 steps)) (λ a b old new same.
        let has = (are.steps a).1 old in
        absurd (not_free o.tariffs a.tariff name has.0 free has.1 (same ∙ (new_step b new).0)));
    meters_once = are.meters_once;
    bases_once = are.bases_once;
    dated_once = are.dated_once;
  }

-- ---- steps from a first day on

module _ (rows : Rows) (o : Office) (are : AreMembersOf rows o) (name : List ℕ) (day : ℕ) (steps : List Step) (free : o.dated_steps name day ≡ None) where
  dated : Office
  dated = applied (edits.AddSteps name day steps) o

  is_it : List ℕ → ℕ → Bool
  is_it q d = bytes_eq q name && (d == day)

  names_it : (q : List ℕ) (d : ℕ) → is_it q d ≡ true → (q ≡ name) × (d ≡ day)
  unfolding is_it
  names_it q d is = let both = both_are (bytes_eq q name) (d == day) is in ((bytes_eq-Decides q name).0 both.0, let e = both.1 in grind (arith, nat_tests))

  it_is : (q : List ℕ) (d : ℕ) → q ≡ name → d ≡ day → is_it q d ≡ true
  unfolding is_it
  it_is q d e f = both_so (bytes_eq q name) (d == day) ((bytes_eq-Decides q name).1 e) (eq-eqb d day f)

  -- what the office has under a name and a day is what was put there, or what it had
  had_or_put : (q : List ℕ) (d : ℕ) (xs : List Step) → dated.dated_steps q d ≡ Some xs → ((q ≡ name) × (d ≡ day) × (steps ≡ xs)) ⊎ (o.dated_steps q d ≡ Some xs)
  unfolding dated is_it
  had_or_put q d xs e = by_test (is_it q d) refl e
    where
      by_test : (b : Bool) → is_it q d ≡ b → (if b then Some steps else o.dated_steps q d) ≡ Some xs
          → ((q ≡ name) × (d ≡ day) × (steps ≡ xs)) ⊎ (o.dated_steps q d ≡ Some xs)
      by_test true is e = let n = names_it q d is in inl (n.0, n.1, same_Some steps xs e)
      by_test false is e = inr e

  put_there : (q : List ℕ) (d : ℕ) → q ≡ name → d ≡ day → dated.dated_steps q d ≡ Some steps
  unfolding dated is_it
  put_there q d e f = by_test (is_it q d) (it_is q d e f)
    where
      by_test : (b : Bool) → b ≡ true → (if b then Some steps else o.dated_steps q d) ≡ Some steps
      by_test true is = refl
      by_test false is = absurd (false≢true is)

  had_still : (q : List ℕ) (d : ℕ) (xs : List Step) → o.dated_steps q d ≡ Some xs → dated.dated_steps q d ≡ Some xs
  unfolding dated is_it
  had_still q d xs e = by_test (is_it q d) refl
    where
      by_test : (b : Bool) → is_it q d ≡ b → (if b then Some steps else o.dated_steps q d) ≡ Some xs
      by_test true is = let n = names_it q d is in absurd
          (none_some (o.dated_steps name day) xs free (sym (ap (λ (k : List ℕ × ℕ). o.dated_steps k.0 k.1) (pair n.0 n.1)) ∙ e))
        where
          pair : q ≡ name → d ≡ day → ◌≡◌ {A = List ℕ × ℕ} (q, d) (name, day)
          pair e f = cc
      by_test false is = e

  dated_new : (r : DatedStepRow) → Contains (dated_rows name day steps) r → (r.tariff ≡ name) × (r.day ≡ day) × (slice_get steps r.place ≡ Some r.step)
  dated_new r new =
      let m = made_in (dated_row name day) 0 steps r new in
      let at : m.further ≡ r.place = omega (arith, made_at (dated_row name day) (λ (r : DatedStepRow). r.place) (λ n s. refl) 0 steps r m) in
      let step : m.step ≡ r.step = sym (ap (λ (r : DatedStepRow). r.step) m.is) in (
        ap (λ (r : DatedStepRow). r.tariff) m.is,
        ap (λ (r : DatedStepRow). r.day) m.is,
        subst (λ (k : ℕ). slice_get steps k ≡ Some r.step) at (m.there ∙ ap (λ (s : Step). let v : Option Step = Some s in v) step),
      )

  dated_there : (r : DatedStepRow) → HasDatedStep dated r → Contains (rows.dated_steps ++ dated_rows name day steps) r
  dated_there r has =
      elim (had_or_put r.tariff r.day has.0 has.1) [
        | inl here ↦
            let at : slice_get steps r.place ≡ Some r.step = subst (λ (xs : List Step). slice_get xs r.place ≡ Some r.step) (sym here.2) has.2 in
            Contains-append_right rows.dated_steps (dated_rows name day steps) r
            (subst (Contains (dated_rows name day steps)) (same_row r (sym here.0) (sym here.1))
            (made_among (dated_row name day) 0 steps r.place r.step at))
        | inr old ↦ Contains-append_left rows.dated_steps (dated_rows name day steps) r ((are.dated_steps r).0 (has.0, old, has.2))
      ]
    where
      same_row : (r : DatedStepRow) → name ≡ r.tariff → day ≡ r.day → dated_row name day (0 + r.place) r.step ≡ r
      same_row r e f =
          let place : 0 + r.place ≡ r.place = omega arith in
          let A : DatedStepRow = record { tariff = name; day = day; place = 0 + r.place; step = r.step } in
          let B : DatedStepRow = record { tariff = r.tariff; day = r.day; place = r.place; step = r.step } in
          let same : A ≡ B = cc in
          same

  dated_back : (r : DatedStepRow) → Contains (rows.dated_steps ++ dated_rows name day steps) r → HasDatedStep dated r
  dated_back r there =
      elim (Contains-append_cases rows.dated_steps (dated_rows name day steps) r there) [
        | inl old ↦ let has = (are.dated_steps r).1 old in (has.0, had_still r.tariff r.day has.0 has.1, has.2)
        | inr new ↦ let is = dated_new r new in (steps, put_there r.tariff r.day is.0 is.1, is.2)
      ]

  -- after steps from a first day on were added, the rows are the members of the office
  pub steps_added : AreMembersOf (edited (edits.AddSteps name day steps) rows) (applied (edits.AddSteps name day steps) o)
  unfolding dated
  steps_added = record {
    tariffs = are.tariffs;
    steps = are.steps;
    meters = are.meters;
    bases = are.bases;
    dated_steps = λ r. (dated_there r, dated_back r);
    shifts = are.shifts;
    sales = are.sales;
    totals = same_totals o.sales rows _ refl refl refl are.totals;
    tariffs_once = are.tariffs_once;
    steps_once = are.steps_once;
    meters_once = are.meters_once;
    bases_once = are.bases_once;
    dated_once = pairs_append AreDatedApart rows.dated_steps (dated_rows name day steps) are.dated_once
        (pairs_weaker (λ a b. a.place ≢ b.place) AreDatedApart (dated_rows name day steps) (λ a b apart _ _. apart)
        (made_apart (dated_row name day) (λ (r : DatedStepRow). r.place) (λ n s. refl) 0 steps)) (λ a b old new same on.
        let has = (are.dated_steps a).1 old in
        let is = dated_new b new in
        let here : ◌≡◌ {A = List ℕ × ℕ} (a.tariff, a.day) (name, day) = let e = same ∙ is.0 in let f = on ∙ is.1 in cc in
        absurd (none_some (o.dated_steps name day) has.0 free (sym (ap (λ (k : List ℕ × ℕ). o.dated_steps k.0 k.1) here) ∙ has.1)));
  }
