-- The steps of a tariff on a day: which they are, and that those of a day that has passed stay.
use Rattle.std.proofs.Common.{◌≡◌, ℕ, zero, suc, ◌<◌, ◌≤◌, ◌↔◌, inl, inr, Bool, true, false, List, [], ◌∷◌, Option, Some, None, Result, Ok, Err, refl, sym, ◌∙◌, ap, subst, arith}
use Rattle.std.specs.Prelude.{◌&&◌, ◌==◌, All, IsSome, bytes_eq, nat_lt, unwrap_or, if◌then◌else◌}
use Rattle.std.specs.Option.{option_or}
use Rattle.std.proofs.lemmas.Bool.{false≢true, le-ltb, lt-ltb}
use Rattle.std.proofs.lemmas.Bool.Decides.{Decides-eqb, nat_tests}
use Rattle.std.proofs.lemmas.List.Elements.{All-head, All-tail}
use Rattle.std.proofs.lemmas.Option.{none-some, same_Some}
use Rattle.std.proofs.lemmas.Slice.Eq.{bytes_eq-Decides}
use Rattle.sts_fields.specs.Day.{day_at}
use Rattle.sts_token.specs.Token.{KeepsRange}
use Rattle.tariff.specs.StepsEq.{steps_eq-equiv}
use Rattle.tariff.specs.declared.step.Step.{Step}
use Rattle.office_rules.specs.Decision.{add_steps, decision_of, import, row_decision, unchanged, added_if_later}
use Rattle.office_rules.specs.Decision.Fold.{after, office_after, reply, reply_of, step}
use Rattle.office_rules.specs.Office.Lookup.{latest, steps_on}
use Rattle.office_rules.specs.Office.{IsOffice, Office}
use Rattle.vend_core.specs.Law.OfficeLaws.{AreStepsOn, IsNotBefore}
use Rattle.office_rules.specs.Decision.Requests.{IsStamped}
use Rattle.office_rules.specs.declared.decision.answer.Answer.TheVariants as answers
use Rattle.office_rules.specs.declared.decision.change.Change.{Change}
use Rattle.office_rules.specs.declared.decision.refusal.Refusal.{Refusal}
use Rattle.office_rules.specs.declared.decision.refusal.Refusal.TheVariants as refusals
use Rattle.office_rules.specs.declared.decision.request.Request.{Request}
use Rattle.office_rules.specs.declared.decision.request.Request.TheVariants as requests
use Rattle.office_rules.specs.declared.decision.request.Stamped.{Stamped}
use Rattle.office_rules.specs.declared.office.row.Row.{Row}
use Rattle.office_rules.specs.declared.office.row.Row.TheVariants as kinds
use Rattle.office_rules.proofs.DecisionLemmas.ImportLemmas.{import_keeps}
use Rattle.office_rules.proofs.DecisionLemmas.NewSaleLemmas.{LowerLaws}
use Rattle.office_rules.proofs.OfficeLemmas.RowLemmas.{both_true, parts_true}
use Rattle.office_rules.proofs.StoreLemmas.LatestLemmas.{LatestIs, latest_is, one_latest}
use Rattle.vend_core.proofs.LawLemmas.DecidedLemmas.{Each, EachRow, by_decision, by_row}
use Rattle.vend_core.proofs.LawLemmas.EffectLemmas.{beside}
use Rattle.vend_core.proofs.LawLemmas.FoldLemmas.{after_grows}

-- the steps of a tariff on a day are one list
module _ (o : Office) (name : List ℕ) (day : ℕ) where
  steps_chosen : (last first : Option (List Step)) → LatestIs (o.dated_steps name) day last → o.tariffs name ≡ first → IsSome first
      → AreStepsOn o name day (unwrap_or (option_or last first) [])
  steps_chosen (Some steps) first is there some = inl is
  steps_chosen None (Some steps) none there some = inr (none, there)
  steps_chosen None None none there some = cc

  one_on : (a b : List Step) → AreStepsOn o name day a → AreStepsOn o name day b → a ≡ b
  one_on a b (inl x) (inl y) = one_latest (o.dated_steps name) day a b x y
  one_on a b (inl x) (inr (none, first)) = absurd (none-some a (sym (none x.first x.not_after) ∙ x.there))
  one_on a b (inr (none, first)) (inl y) = absurd (none-some b (sym (none y.first y.not_after) ∙ y.there))
  one_on a b (inr (none, first)) (inr (none_too, too)) = same_Some a b (sym first ∙ too)

  -- the steps that are looked up for a day are exactly a tariff's steps on that day
  pub steps_on_are : (steps : List Step) → IsSome (o.tariffs name) → AreStepsOn o name day steps ↔ (steps ≡ steps_on o name day)
  steps_on_are steps some =
      let these = steps_chosen (latest (o.dated_steps name) day) (o.tariffs name) (latest_is (o.dated_steps name) day) refl some in
      (λ are. one_on steps (steps_on o name day) are these, λ e. subst (AreStepsOn o name day) (sym e) these)

-- steps that are asked for, where the tariff is there
module _ (forward : ℕ → ℕ → ℕ) (o : Office) (at : Stamped) (name : List ℕ) (day : ℕ) (steps : List Step) (some : IsSome (o.tariffs name))
    (asks : at.request ≡ requests.AddSteps name day steps) where
  decided_with : (there : Option (List Step)) → o.dated_steps name day ≡ there → decision_of forward o at.moment at.nibble at.request
      ≡ add_steps name day steps (day_at at.moment) true there
  decided_with there is =
      ap (decision_of forward o at.moment at.nibble) asks
      ∙ ap (λ (has : Bool). add_steps name day steps (day_at at.moment) has (o.dated_steps name day)) some
      ∙ ap (add_steps name day steps (day_at at.moment) true) is

  abbrev if_later : Bool → Result Change Refusal
  if_later later = added_if_later name day steps later

  -- further steps from a later day on are added, where there are none of that day
  pub adds_steps : o.dated_steps name day ≡ None → day_at at.moment < day → (reply forward o at ≡ Ok answers.Done)
      × ((step forward o at).dated_steps name day ≡ Some steps)
  adds_steps free later =
      let e = decided_with None free ∙ ap if_later (lt-ltb (day_at at.moment) day later) in
      let here = both_true (bytes_eq name name) (day == day) ((bytes_eq-Decides name name).1 refl) ((Decides-eqb day day).1 refl) in (
        ap reply_of e,
        ap (λ (r : Result Change Refusal). (office_after o r).dated_steps name day) e
            ∙ ap (λ (b : Bool). if b then Some steps else o.dated_steps name day) here,
      )

  -- steps that stand there already are granted again, and change nothing
  pub adds_steps_once : o.dated_steps name day ≡ Some steps → (reply forward o at ≡ Ok answers.Done) × (step forward o at ≡ o)
  adds_steps_once there =
      let e = decided_with (Some steps) there ∙ ap (λ (b : Bool). if b then unchanged answers.Done else Err refusals.Differs) (steps_eq-equiv.refl steps) in
      (ap reply_of e, ap (office_after o) e)

  -- further steps that are new, from a day that has begun or passed, are refused
  pub adds_no_passed_steps : o.dated_steps name day ≡ None → day ≤ day_at at.moment → reply forward o at ≡ Err refusals.DayPast
  adds_no_passed_steps free past = ap reply_of (decided_with None free ∙ ap if_later (le-ltb (day_at at.moment) day past))

-- what is found for a day rests on the days up to it
latest_same : (earlier later : ℕ → Option (List Step)) (day : ℕ) → ((first : ℕ) → first ≤ day → later first ≡ earlier first)
    → latest later day ≡ latest earlier day
unfolding latest
latest_same earlier later zero same = same zero (omega arith)
latest_same earlier later (suc day) same =
    ap (λ (here : Option (List Step)). option_or here (latest later day)) (same (suc day) (omega arith))
    ∙ ap (option_or (earlier (suc day))) (latest_same earlier later day (λ first below. same first (omega (arith, below))))

-- the further steps up to a day are as they were
abbrev pub SameUntil : ℕ → Office → Office → Type 0
SameUntil day o p = (name : List ℕ) (first : ℕ) → first ≤ day → p.dated_steps name first ≡ o.dated_steps name first

same_twice : (day : ℕ) (o p q : Office) → SameUntil day o p → SameUntil day p q → SameUntil day o q
same_twice day o p q first next name d below = next name d below ∙ first name d below

module _ (day : ℕ) (o : Office) where
  abbrev Same : Result Change Refusal → Type 0
  Same r = SameUntil day o (office_after o r)

  other_day : (first today d : ℕ) → day ≤ today → nat_lt today first ≡ true → d ≤ day → (d == first) ≡ false
  other_day first today d past later below = grind (arith, nat_tests)

  -- what is put or taken away of a later day leaves the days before it
  put_later : (name : List ℕ) (first today : ℕ) (put : Option (List Step)) → day ≤ today → nat_lt today first ≡ true
      → (q : List ℕ) (d : ℕ) → d ≤ day → (if bytes_eq q name && (d == first) then put else o.dated_steps q d) ≡ o.dated_steps q d
  put_later name first today put past later q d below = beside (bytes_eq q name && (d == first)) put (o.dated_steps q d) (λ both.
      false≢true (sym (other_day first today d past later below) ∙ (parts_true (bytes_eq q name) (d == first) both).1))

  same_each_row : (today : ℕ) (row : Row) → day ≤ today → EachRow Same o today row
  same_each_row today (kinds.Tariff name steps) past = λ free q d below. refl
  same_each_row today (kinds.Steps name first steps) past = λ free later. put_later name first today (Some steps) past later
  same_each_row today (kinds.Meter number m) past = λ free has q d below. refl

  -- steps are added by a row from a later day on alone
  same_by_row : (today : ℕ) (row : Row) → day ≤ today → Same (row_decision o today row)
  same_by_row today row past = by_row Same o (λ refusal own q d below. refl) (λ answer stand q d below. refl) today row (same_each_row today row past)

same_by_import : (day : ℕ) (o : Office) (today : ℕ) (rows : List Row) → day ≤ today → SameUntil day o (office_after o (import o today rows))
same_by_import day o today rows past =
    import_keeps (SameUntil day o) (λ row. Unit {0}) today
    (λ p row any same. same_twice day o p (office_after p (row_decision p today row)) same (same_by_row day p today row past)) o rows
    (λ i d within. tt) (λ q d below. refl)

module _ (day : ℕ) (o : Office) (forward : ℕ → ℕ → ℕ) (moment nibble : ℕ) (past : day ≤ day_at moment) where
  same_each : (request : Request) → Each (Same day o) o forward moment nibble request
  same_each (requests.AddTariff name steps) = same_each_row day o (day_at moment) (kinds.Tariff name steps) past
  same_each (requests.AddSteps name first steps) = same_each_row day o (day_at moment) (kinds.Steps name first steps) past
  same_each (requests.WithdrawSteps name first) = λ later. put_later day o name first (day_at moment) None past later
  same_each (requests.AddMeter number m) = same_each_row day o (day_at moment) (kinds.Meter number m) past
  same_each (requests.Import rows) = same_by_import day o (day_at moment) rows past
  same_each (requests.SetTariff number name) = λ has q d below. refl
  same_each (requests.MoveBase number base) = λ q d below. refl
  same_each (requests.SetKey number key) = λ q d below. refl
  same_each (requests.OpenShift operator) = λ s number q d below. refl
  same_each (requests.CloseShift operator) = λ s q d below. refl
  same_each (requests.Sell order) = λ s sold q d below. refl
  same_each (requests.Reprint number) = tt
  same_each (requests.ShiftReport number) = tt

  same_by : (request : Request) → SameUntil day o (office_after o (decision_of forward o moment nibble request))
  same_by request =
      by_decision (Same day o) o (λ refusal own q d below. refl) (λ answer stand q d below. refl) forward moment nibble request (same_each request)

-- along requests of a day and of later ones further steps neither come for the day nor go
pub after_same : (day : ℕ) (forward : ℕ → ℕ → ℕ) (o : Office) (ats : List Stamped) → All (IsNotBefore day) ats → SameUntil day o (after forward o ats)
unfolding after
after_same day forward o [] past = λ q d below. refl
after_same day forward o (at ∷ ats) past =
    same_twice day o (step forward o at) (after forward (step forward o at) ats)
    (same_by day o forward at.moment at.nibble (All-head (IsNotBefore day) at ats past) at.request)
    (after_same day forward (step forward o at) ats (All-tail (IsNotBefore day) at ats past))

-- a tariff that stays, with the same further steps up to a day, has the same steps on that day
same_steps_on : (o p : Office) (name : List ℕ) (day : ℕ) (there : Option (List Step)) → o.tariffs name ≡ there → IsSome there
    → ((steps : List Step) → o.tariffs name ≡ Some steps → p.tariffs name ≡ Some steps) → SameUntil day o p → steps_on p name day ≡ steps_on o name day
same_steps_on o p name day None is some stays same = cc
same_steps_on o p name day (Some steps) is some stays same =
    ap (λ (l : Option (List Step)). unwrap_or (option_or l (p.tariffs name)) []) (latest_same (o.dated_steps name) (p.dated_steps name) day (same name))
    ∙ ap (λ (t : Option (List Step)). unwrap_or (option_or (latest (o.dated_steps name) day) t) []) (stays steps is ∙ sym is)

-- a tariff's steps on a day stay over all requests that come on that day or later
pub passed_steps_stay : LowerLaws → (forward : ℕ → ℕ → ℕ) (o : Office) (ats : List Stamped) (name : List ℕ) (day : ℕ) → IsOffice o
    → All IsStamped ats → KeepsRange forward → IsSome (o.tariffs name) → All (IsNotBefore day) ats
    → steps_on (after forward o ats) name day ≡ steps_on o name day
passed_steps_stay laws forward o ats name day office are range some past =
    same_steps_on o (after forward o ats) name day (o.tariffs name) refl some
    ((after_grows laws forward o ats office are range).tariffs.first name) (after_same day forward o ats past)
