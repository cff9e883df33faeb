-- The latest of further steps on a day: which they are.
use Rattle.std.proofs.Common.{◌≡◌, ℕ, zero, suc, ◌↔◌, inl, inr, List, Option, Some, None, refl, sym, ◌∙◌, ap, subst, arith}
use Rattle.std.specs.Option.{option_or}
use Rattle.std.proofs.lemmas.Bool.{cases_lt}
use Rattle.std.proofs.lemmas.Option.{none-some, same_Some}
use Rattle.tariff.specs.declared.step.Step.{Step}
use Rattle.office_rules.specs.Office.Lookup.{IsLatest, NoneBegun, latest}

module _ (dated : ℕ → Option (List Step)) where
  -- what is found for a day: the latest steps that have begun, or that none have
  abbrev pub LatestIs : ℕ → Option (List Step) → Type 0
  LatestIs day (Some steps) = IsLatest dated day steps
  LatestIs day None = NoneBegun dated day

  latest_at_first : (there : Option (List Step)) → dated zero ≡ there → LatestIs zero there
  latest_at_first None is = λ first below. let e : first ≡ zero = omega (arith, below) in ap dated e ∙ is
  latest_at_first (Some steps) is =
      record { first = zero; not_after = omega arith; there = is; none_between = λ other above below. absurd (omega (arith, above, below)) }

  latest_later : (day : ℕ) (here before : Option (List Step)) → dated (suc day) ≡ here → LatestIs day before → LatestIs (suc day) (option_or here before)
  latest_later day (Some steps) before is rest =
      record { first = suc day; not_after = omega arith; there = is; none_between = λ other above below. absurd (omega (arith, above, below)) }
  latest_later day None None is rest = λ first below. elim (cases_lt first (suc day)) [
    | inl earlier ↦ rest first (omega (arith, earlier))
    | inr last ↦ let e : first ≡ suc day = omega (arith, below, last) in ap dated e ∙ is
  ]
  latest_later day None (Some steps) is rest = record {
    first = rest.first;
    not_after = omega (arith, rest.not_after);
    there = rest.there;
    none_between = λ other above below. elim (cases_lt other (suc day)) [
      | inl earlier ↦ rest.none_between other above (omega (arith, earlier))
      | inr last ↦ let e : other ≡ suc day = omega (arith, below, last) in ap dated e ∙ is
    ];
  }

  -- the look-up of a day finds the latest steps that have begun, or none if none have
  pub latest_is : (day : ℕ) → LatestIs day (latest dated day)
  unfolding latest
  latest_is zero = latest_at_first (dated zero) refl
  latest_is (suc day) = latest_later day (dated (suc day)) (latest dated day) refl (latest_is day)

  -- the latest steps on a day are one and the same
  pub one_latest : (day : ℕ) (a b : List Step) → IsLatest dated day a → IsLatest dated day b → a ≡ b
  one_latest day a b x y = elim (cases_lt x.first y.first) [
    | inl before ↦ absurd (none-some b (sym (x.none_between y.first before y.not_after) ∙ y.there))
    | inr not_before ↦ elim (cases_lt y.first x.first) [
      | inl before ↦ absurd (none-some a (sym (y.none_between x.first before x.not_after) ∙ x.there))
      | inr not_after ↦
          let e : x.first ≡ y.first = omega (arith, not_before, not_after) in
          same_Some a b (sym x.there ∙ ap dated e ∙ y.there)
    ]
  ]

  found_latest : (day : ℕ) (steps : List Step) (found : Option (List Step)) → LatestIs day found → IsLatest dated day steps → found ≡ Some steps
  found_latest day steps (Some other) is latest_steps = ap Some (one_latest day other steps is latest_steps)
  found_latest day steps None none latest_steps = absurd (none-some steps (sym (none latest_steps.first latest_steps.not_after) ∙ latest_steps.there))

  found_none : (day : ℕ) (found : Option (List Step)) → LatestIs day found → NoneBegun dated day → found ≡ None
  found_none day None is none = refl
  found_none day (Some steps) is none = absurd (none-some steps (sym (none is.first is.not_after) ∙ is.there))

  -- steps are found for a day exactly where they are the latest that have begun
  pub latest_steps_are : (day : ℕ) (steps : List Step) → (latest dated day ≡ Some steps) ↔ IsLatest dated day steps
  latest_steps_are day steps = (λ e. subst (LatestIs day) e (latest_is day), found_latest day steps (latest dated day) (latest_is day))

  -- none are found for a day exactly where none have begun
  pub no_latest_steps : (day : ℕ) → (latest dated day ≡ None) ↔ NoneBegun dated day
  no_latest_steps day = (λ e. subst (LatestIs day) e (latest_is day), found_none day (latest dated day) (latest_is day))
