-- The steps of later days, as one day after another is found.
use Rattle.std.proofs.Common.{◌≡◌, ◌↔◌, ◌<◌, ◌≤◌, ◌++◌, ℕ, List, [], ◌∷◌, Option, None, Some, ap, arith, inl, inr, is_some, subst, sym, ◌∙◌}
use Rattle.std.specs.Prelude.{AllPairs, Contains}
use Rattle.std.proofs.lemmas.Bool.{cases_lt, false≢true}
use Rattle.std.proofs.lemmas.List.Elements.{Contains-append_left, Contains-push, Contains-push_cases}
use Rattle.tariff.specs.declared.step.Step.{Step}
use Rattle.book_lists.specs.Days.{IsNextBegun, IsNextDay}
use Rattle.book_tables.proofs.ListLemmas.{contains_none, no_pairs, pairs_append, pairs_of_one}
use Rattle.book_facts.specs.Lookups.{AreLaterSteps}
use Rattle.book_states.specs.declared.lookup.LaterSteps.{LaterSteps}

-- those of the days after a day, until another one
pub record AreUntil (dated : ℕ → Option (List Step)) (day last : ℕ) (later : List LaterSteps) : Type 0 where
  pub not_before : day ≤ last
  pub are : (from : ℕ) (steps : List Step) → (day < from) × (from ≤ last) × (dated from ≡ Some steps) ↔ Contains later (record { from = from; steps = steps })
  pub by_day : AllPairs (λ a b. a.from < b.from) later

module _ (dated : ℕ → Option (List Step)) (day : ℕ) where
  -- none are after the day until itself
  pub until_itself : AreUntil dated day day []
  until_itself = record {
    not_before = omega arith;
    are = λ from steps. (λ is. absurd (omega (arith, is.0, is.1)), λ has. absurd (contains_none _ has));
    by_day = no_pairs (λ a b. a.from < b.from);
  }

  module _ (last : ℕ) (later : List LaterSteps) (so_far : AreUntil dated day last later) where
    -- the day of one of them
    until_of : (a : LaterSteps) → Contains later a → (day < a.from) × (a.from ≤ last) × (dated a.from ≡ Some a.steps)
    until_of a has = (so_far.are a.from a.steps).1 has

    -- with the steps of the next day
    module _ (next : ℕ) (steps : List Step) (begins : IsNextBegun dated last next) (is : dated next ≡ Some steps) where
      -- the steps that begin on the next day
      abbrev pub this : LaterSteps
      this = record { from = next; steps = steps }

      next_after : last < next
      next_after = begins.after

      more_has : (from : ℕ) (given : List Step) → (day < from) × (from ≤ next) × (dated from ≡ Some given)
          → Contains (later ++ this ∷ []) (record { from = from; steps = given })
      more_has from given at =
          elim (cases_lt last from) [
            | inr until ↦ Contains-append_left later (this ∷ []) _ ((so_far.are from given).0 (at.0, until, at.2))
            | inl after ↦ elim (cases_lt from next) [
              | inl between ↦ absurd (let none = begins.none_between from after between in let e = sym none ∙ at.2 in cc)
              | inr there ↦
                  let same : from ≡ next = omega (arith, there, at.1) in
                  let given_is : Some given ≡ Some steps = sym at.2 ∙ ap dated same ∙ is in
                  cast_last from given same given_is
            ]
          ]
        where
          cast_last : (from : ℕ) (given : List Step) → from ≡ next → Some given ≡ Some steps
              → Contains (later ++ this ∷ []) (record { from = from; steps = given })
          cast_last from given same given_is = rw same (let e : given ≡ steps = cc in rw e (Contains-push later this))

      more_is : (from : ℕ) (given : List Step) → Contains (later ++ this ∷ []) (record { from = from; steps = given }) → (day < from)
          × (from ≤ next) × (dated from ≡ Some given)
      more_is from given has =
          let after = next_after in
          let before = so_far.not_before in
          elim (Contains-push_cases later this _ has) [
            | inl there ↦ let at = (so_far.are from given).1 there in (at.0, omega (arith, at.1, after), at.2)
            | inr same ↦
                let from_is : next ≡ from = ap (λ (l : LaterSteps). l.from) same in
                let steps_are : steps ≡ given = ap (λ (l : LaterSteps). l.steps) same in
                (omega (arith, after, before, from_is), omega (arith, from_is), ap dated (sym from_is) ∙ is ∙ ap (λ (s : List Step). Some s) steps_are)
          ]

      until_next : AreUntil dated day next (later ++ this ∷ [])
      until_next = record {
        not_before = (let after = next_after in let before = so_far.not_before in omega (arith, after, before));
        are = λ from given. (more_has from given, more_is from given);
        by_day = pairs_append (λ a b. a.from < b.from) later (this ∷ []) so_far.by_day (pairs_of_one (λ a b. a.from < b.from) this) (λ a b has one.
            let at = until_of a has in
            let after = next_after in
            elim (Contains-push_cases [] this b one) [
              | inl none ↦ absurd (contains_none b none)
              | inr same ↦ let from_is : next ≡ b.from = ap (λ (l : LaterSteps). l.from) same in omega (arith, at.1, after, from_is)
            ]);
      }

    -- where none begin after the last one, they are all
    until_end : ((other : ℕ) → last < other → dated other ≡ None) → AreLaterSteps dated day later
    until_end none = record {
      are = λ from given. (
        λ at. elim (cases_lt last from) [
          | inl after ↦ absurd (let gone = none from after in let e = sym gone ∙ at.1 in cc)
          | inr until ↦ (so_far.are from given).0 (at.0, until, at.1)
        ],
        λ has. let at = (so_far.are from given).1 has in (at.0, at.2),
      );
      by_day = so_far.by_day;
    }

-- ---- what the statements found

module _ (dated : ℕ → Option (List Step)) (last : ℕ) (found : Option ℕ) (next : ℕ) where
  -- steps begin on the day that was found
  pub has_next : (steps : Option (List Step)) → IsNextDay dated last found → found ≡ Some next → steps ≡ dated next → steps ≡ None → ⊥
  has_next steps is there told none =
      let begins : IsNextBegun dated last next = subst (IsNextDay dated last) there is in
      let gone : dated next ≡ None = sym told ∙ none in
      false≢true (sym (ap (λ (s : Option (List Step)). is_some s) gone) ∙ begins.there)

  -- and it is a later one
  pub never_before : IsNextDay dated last found → found ≡ Some next → next ≤ last → ⊥
  never_before is there before =
      let begins : IsNextBegun dated last next = subst (IsNextDay dated last) there is in
      let after : last < next = begins.after in
      absurd (omega (arith, after, before))

  -- so its steps come behind those so far
  pub until_found : (day : ℕ) (later : List LaterSteps) (there : Option (List Step)) (steps : List Step) → AreUntil dated day last later
      → IsNextDay dated last found → found ≡ Some next
      → there ≡ dated next → there ≡ Some steps → AreUntil dated day next (later ++ record { from = next; steps = steps } ∷ [])
  until_found day later there steps so_far is found_is told read =
      let begins : IsNextBegun dated last next = subst (IsNextDay dated last) found_is is in
      until_next dated day last later so_far next steps begins (sym told ∙ read)

-- where no day was found, they are all
pub until_none : (dated : ℕ → Option (List Step)) (day last : ℕ) (later : List LaterSteps) (found : Option ℕ)
    → AreUntil dated day last later → IsNextDay dated last found → found ≡ None → AreLaterSteps dated day later
until_none dated day last later found so_far is gone = until_end dated day last later so_far (subst (IsNextDay dated last) gone is)
