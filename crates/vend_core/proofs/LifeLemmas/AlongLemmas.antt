-- What each step of an office keeps is kept along requests, and so in each office that lives may
-- leave.
use Rattle.std.proofs.Common.{ℕ, Bool, inl, inr, List, [], ◌∷◌, get_or, sym, subst}
use Rattle.std.specs.Prelude.{All, Contains, filter, map}
use Rattle.std.proofs.lemmas.List.Elements.{All-contains, All-contains_itself, All-filter, All-head, All-map, All-tail}
use Rattle.sts_token.specs.Token.{KeepsRange}
use Rattle.office_rules.specs.Decision.Fold.{after, step}
use Rattle.vend_core.specs.Law.Life.{Exchange, IsLife, LeadTo, Life, MayLeave, acknowledged, acknowledges, doubts, in_doubt, present}
use Rattle.office_rules.specs.Office.{IsOffice, Office}
use Rattle.office_rules.specs.Decision.Requests.{IsStamped}
use Rattle.office_rules.specs.declared.decision.request.Stamped.{Stamped}
use Rattle.vend_core.proofs.LifeLemmas.{acknowledged_stamped, doubted_stamped, left_office, present_office}
use Rattle.office_rules.proofs.DecisionLemmas.NewSaleLemmas.{LowerLaws}
use Rattle.office_rules.proofs.OfficeLemmas.{step_keeps_office}
use Rattle.office_rules.proofs.OfficeLemmas.MapLemmas.{all_from_contains}
use Rattle.office_rules.proofs.OfficeLemmas.RowLemmas.{contains_map}

-- a step of an office under a transform keeps P
abbrev pub StepKeepsBy : (Office → Type 0) → (ℕ → ℕ → ℕ) → Type 0
StepKeepsBy P forward = (o : Office) (at : Stamped) → IsOffice o → IsStamped at → KeepsRange forward
    → P o → P (step forward o at)

-- a step for one of these requests does
abbrev pub StepKeepsOf : (Office → Type 0) → (ℕ → ℕ → ℕ) → List Stamped → Type 0
StepKeepsOf P forward ats = (o : Office) (at : Stamped) → Contains ats at → IsOffice o → IsStamped at
    → KeepsRange forward → P o → P (step forward o at)

abbrev requests_of : Life → List Stamped
requests_of life = map (λ (e : Exchange). e.request) life.exchanges

-- a step for one of a life's requests does, under its transform
abbrev pub LifeKeeps : (Office → Type 0) → Life → Type 0
LifeKeeps P life = StepKeepsOf P life.forward (requests_of life)

-- a step of an office under any transform keeps P
abbrev pub StepKeeps : (Office → Type 0) → Type 0
StepKeeps P = (forward : ℕ → ℕ → ℕ) (o : Office) (at : Stamped) → IsOffice o → KeepsRange forward
    → P o → P (step forward o at)

module _ (laws : LowerLaws) (P : Office → Type 0) where
  -- what each step for one of these requests keeps is kept along some of them
  after_keeps_of : (forward : ℕ → ℕ → ℕ) (all : List Stamped) → StepKeepsOf P forward all
      → (o : Office) (ats : List Stamped) → IsOffice o → All IsStamped ats → All (Contains all) ats
      → KeepsRange forward → P o → P (after forward o ats)
  unfolding after
  after_keeps_of forward all keeps o [] office are among range holds = holds
  after_keeps_of forward all keeps o (at ∷ ats) office are among range holds =
      let stamped = All-head IsStamped at ats are in
      after_keeps_of forward all keeps (step forward o at) ats
      (step_keeps_office laws forward o at office stamped range)
      (All-tail IsStamped at ats are) (All-tail (Contains all) at ats among) range
      (keeps o at (All-head (Contains all) at ats among) office stamped range holds)

  -- what each step under a transform keeps is kept along requests
  pub after_keeps_by : (forward : ℕ → ℕ → ℕ) → StepKeepsBy P forward → (o : Office)
      (ats : List Stamped) → IsOffice o → All IsStamped ats → KeepsRange forward → P o
      → P (after forward o ats)
  after_keeps_by forward keeps o ats office are range holds =
      after_keeps_of forward ats (λ p at there. keeps p at) o ats office are
      (All-contains_itself ats) range holds

  -- the requests of a life that pass a test are among all of its requests
  requested : (life : Life) (p : Exchange → Bool)
      → All (Contains (requests_of life)) (map (λ (e : Exchange). e.request) (filter p life.exchanges))
  requested life p =
      All-map (Contains (requests_of life)) (λ (e : Exchange). e.request) (filter p life.exchanges)
      (All-filter p (λ (e : Exchange). Contains (requests_of life) e.request) life.exchanges
      (all_from_contains (λ (e : Exchange). Contains (requests_of life) e.request) life.exchanges
      (λ e there. contains_map (λ (e : Exchange). e.request) life.exchanges e there)))

  left_keeps : (life : Life) → LifeKeeps P life → IsLife life → IsOffice life.opening
      → P life.opening → (o : Office) → MayLeave life o → P o
  left_keeps life keeps is office holds o may =
      let holds_now : P (present life) =
      after_keeps_of life.forward (requests_of life) keeps life.opening (acknowledged life) office
      (acknowledged_stamped laws life is) (requested life (λ e. acknowledges e.reply)) is.range holds in
      elim may [
        | inl e ↦ subst P (sym e) holds_now
        | inr (at, there, e) ↦ subst P (sym e) (keeps (present life) at
            (All-contains (Contains (requests_of life)) (in_doubt life) at
            (requested life (λ e. doubts e.reply)) there)
            (present_office laws life is office)
            (All-contains IsStamped (in_doubt life) at (doubted_stamped laws life is) there) is.range
            holds_now)
      ]

  -- what the steps for each life's requests keep holds of what lives may leave, if the office has it
  -- that the first of them opens
  pub led_keeps : (start : Office) (lives : List Life) (o : Office)
      → All (LifeKeeps P) lives → IsOffice start
      → LeadTo start lives o → P start → P o
  led_keeps start [] o keep office e holds = subst P (sym e) holds
  led_keeps start (life ∷ lives) o keep office (is, opens, (left, may, leads)) holds =
      let opening = subst IsOffice (sym opens) office in
      let keeps = All-head (LifeKeeps P) life lives keep in
      let rest = All-tail (LifeKeeps P) life lives keep in
      led_keeps left lives o rest (left_office laws life is opening left may) leads
      (left_keeps life keeps is opening (subst P (sym opens) holds) left may)

module _ (laws : LowerLaws) (P : Office → Type 0) (keeps : StepKeeps P) where
  by_each : (forward : ℕ → ℕ → ℕ) → StepKeepsBy P forward
  by_each forward o at office is range holds = keeps forward o at office range holds

  -- what a step under any transform keeps is kept along requests
  pub after_keeps : (forward : ℕ → ℕ → ℕ) (o : Office) (ats : List Stamped) → IsOffice o
      → All IsStamped ats → KeepsRange forward → P o → P (after forward o ats)
  after_keeps forward o ats office are range holds =
      after_keeps_by laws P forward (by_each forward) o ats office are range holds

  -- what a step under any transform keeps holds of what lives may leave
  pub led_keep : (start : Office) (lives : List Life) (o : Office) → IsOffice start
      → LeadTo start lives o → P start → P o
  led_keep start lives o office lead holds =
      led_keeps laws P start lives o (λ k d below p at there. by_each (get_or lives k d).forward p at)
      office lead holds
