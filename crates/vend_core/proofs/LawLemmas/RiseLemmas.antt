-- Along requests and lives the identifiers of a meter under a base rise, and each sale has a tenth
-- at least.
use Rattle.std.proofs.Common.{◌⊎◌, ℕ, ◌<◌, ◌≤◌, inl, inr, List, sym, subst, ap, arith}
use Rattle.std.specs.Prelude.{All, AllPairs, Contains}
use Rattle.std.proofs.lemmas.List.Elements.{All-push, Contains-get_or}
use Rattle.sts_token.specs.Token.{KeepsRange}
use Rattle.office_rules.specs.Decision.Fold.{after, step}
use Rattle.vend_core.specs.Law.Life.{LeadTo, Life, WasMadeSince}
use Rattle.office_rules.specs.Office.{IsBefore, IsOffice, Office, Rises}
use Rattle.office_rules.specs.Decision.Requests.{IsStamped}
use Rattle.office_rules.specs.declared.decision.request.Stamped.{Stamped}
use Rattle.office_rules.specs.declared.office.sale.Sale.{Sale}
use Rattle.vend_core.proofs.LifeLemmas.{led_office}
use Rattle.vend_core.proofs.LifeLemmas.AlongLemmas.{after_keeps, led_keep}
use Rattle.vend_core.proofs.LawLemmas.AnswerLemmas.{sells_one}
use Rattle.office_rules.proofs.DecisionLemmas.NewSaleLemmas.{LowerLaws}
use Rattle.office_rules.proofs.OfficeLemmas.{new_rises}
use Rattle.office_rules.proofs.OfficeLemmas.RowLemmas.{pairs_push, related}

abbrev Rise : Office → Type 0
Rise o = AllPairs Rises o.sales

abbrev HaveTenths : Office → Type 0
HaveTenths o = All (λ s. 1 ≤ s.tenths) o.sales

-- the later of the two is not one of the start's, unless the identifier rises
abbrev RisesSince : Office → Sale → Sale → Type 0
RisesSince start a b = Contains start.sales b ⊎ Rises a b

-- the earlier of two sales has the lesser number, and the later one rises if it was made since
abbrev EarlierSince : Office → Sale → Sale → Type 0
EarlierSince start a b = IsBefore a b × RisesSince start a b

module _ (laws : LowerLaws) where
  -- what holds of a sale and one with a greater identifier holds of all sales and a new one
  step_relates : (R : Sale → Sale → Type 0) → ((a b : Sale) → Rises a b → R a b)
      → (forward : ℕ → ℕ → ℕ) (o : Office) (at : Stamped) → IsOffice o → KeepsRange forward
      → AllPairs R o.sales → AllPairs R (step forward o at).sales
  step_relates R relates forward o at office range rise =
      elim (sells_one laws forward o at office range) [
        | inl same ↦ subst (λ sales. AllPairs R sales) (sym same) rise
        | inr (s, (order, asks, new), pushed, answered) ↦
            subst (λ sales. AllPairs R sales) (sym pushed)
            (pairs_push R o.sales s rise
            (λ a there. relates a s (new_rises o office forward at order s a new there)))
      ]

  -- identifiers that rise still do after any number of requests
  pub after_rises : (forward : ℕ → ℕ → ℕ) (o : Office) (ats : List Stamped) → IsOffice o
      → All IsStamped ats → KeepsRange forward → AllPairs Rises o.sales
      → AllPairs Rises (after forward o ats).sales
  after_rises forward o ats office are range rise =
      after_keeps laws Rise (step_relates Rises (λ a b less. less)) forward o ats office are range
      rise

  -- the identifier of a sale that lives made is above those of the sales before it to the meter
  -- under the base
  pub led_rises : (start : Office) (lives : List Life) (o : Office) (a b : Sale) → IsOffice start
      → LeadTo start lives o → Contains o.sales a → WasMadeSince start o b → a.number < b.number
      → Rises a b
  led_rises start lives o a b begins lead there made less =
      let office = led_office laws start lives o begins lead in
      let rise = led_keep laws (λ (p : Office). AllPairs (RisesSince start) p.sales)
      (step_relates (RisesSince start) (λ a b rises. inr rises)) start lives o begins lead
      (λ i j d before within. inl (Contains-get_or start.sales j d within)) in
      elim (related (EarlierSince start) o.sales a b
      (λ i j d before within. (office.before i j d before within, rise i j d before within))
      there made.stands) [
        | inl same ↦ absurd (omega (arith, less, ap (λ (s : Sale). s.number) same))
        | inr (inl (before, inl old)) ↦ absurd (made.new old)
        | inr (inl (before, inr rises)) ↦ rises
        | inr (inr (after, any)) ↦ absurd (omega (arith, less, after.number))
      ]

  -- a new sale has a tenth at least
  step_sells_some : (forward : ℕ → ℕ → ℕ) (o : Office) (at : Stamped) → IsOffice o
      → KeepsRange forward → HaveTenths o → HaveTenths (step forward o at)
  step_sells_some forward o at office range have =
      elim (sells_one laws forward o at office range) [
        | inl same ↦ subst (λ sales. All (λ (s : Sale). 1 ≤ s.tenths) sales) (sym same) have
        | inr (s, (order, asks, new), pushed, answered) ↦
            let some = new.bought_is.some in
            subst (λ sales. All (λ (s : Sale). 1 ≤ s.tenths) sales) (sym pushed)
            (All-push (λ (s : Sale). 1 ≤ s.tenths) o.sales s have
            (omega (arith, some, new.tenths)))
      ]

  -- if each sale has a tenth at least, each has one after any number of requests
  pub after_sells_some : (forward : ℕ → ℕ → ℕ) (o : Office) (ats : List Stamped) → IsOffice o
      → All IsStamped ats → KeepsRange forward → HaveTenths o → HaveTenths (after forward o ats)
  after_sells_some forward o ats office are range have =
      after_keeps laws HaveTenths step_sells_some forward o ats office are range have
