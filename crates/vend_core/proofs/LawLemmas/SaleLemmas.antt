-- What holds of each new sale holds of each sale that lives made.
use Rattle.std.proofs.Common.{◌⊎◌, ℕ, ◌≤◌, inl, inr, List, [], ◌∷◌, sym, ◌∙◌, ap, subst, arith}
use Rattle.std.specs.Prelude.{All, Contains}
use Rattle.std.proofs.lemmas.List.Elements.{All-contains, All-head, All-push, All-tail, Contains-get_or}
use Rattle.sts_fields.specs.Tid.{IsReserved, minute_of}
use Rattle.sts_token.specs.Token.{KeepsRange}
use Rattle.office_rules.specs.Decision.Fold.{after, step}
use Rattle.vend_core.specs.Law.Life.{IsLife, LeadTo, Life, MayLeave, WasMadeSince, acknowledged, present}
use Rattle.office_rules.specs.Law.NewSale.{IsNewSale}
use Rattle.office_rules.specs.Office.{IsOffice, Office}
use Rattle.office_rules.specs.Decision.Requests.{IsStamped}
use Rattle.vend_core.specs.Law.Apart.{IsTimely}
use Rattle.vend_core.specs.Law.SoldTokens.{WasWritten}
use Rattle.office_rules.specs.declared.decision.request.Order.{Order}
use Rattle.office_rules.specs.declared.decision.request.Stamped.{Stamped}
use Rattle.office_rules.specs.declared.office.sale.Sale.{Sale}
use Rattle.vend_core.proofs.LawLemmas.AnswerLemmas.{sells_one}
use Rattle.vend_core.proofs.LifeLemmas.{acknowledged_stamped, left_office, present_office}
use Rattle.office_rules.proofs.DecisionLemmas.NewSaleLemmas.{LowerLaws}
use Rattle.office_rules.proofs.OfficeLemmas.{step_keeps_office}
use Rattle.office_rules.proofs.OfficeLemmas.RowLemmas.{contains_first, contains_further}

module _ (laws : LowerLaws) (P : Sale → Type 0) where
  -- what a transform's new sales keep
  abbrev pub KeepsNew : (ℕ → ℕ → ℕ) → Type 0
  KeepsNew forward = (o : Office) (at : Stamped) (order : Order) (s : Sale) → IsOffice o → IsNewSale forward o at order s → P s

  step_all : (forward : ℕ → ℕ → ℕ) (o : Office) (at : Stamped) → IsOffice o → KeepsRange forward → KeepsNew forward → All P o.sales
      → All P (step forward o at).sales
  step_all forward o at office range keeps all =
      elim (sells_one laws forward o at office range) [
        | inl same ↦ subst (λ sales. All P sales) (sym same) all
        | inr (s, (order, asks, new), pushed, answered) ↦ subst (λ sales. All P sales) (sym pushed) (All-push P o.sales s all (keeps o at order s office new))
      ]

  after_all : (forward : ℕ → ℕ → ℕ) (o : Office) (ats : List Stamped) → IsOffice o → All IsStamped ats → KeepsRange forward
      → KeepsNew forward → All P o.sales → All P (after forward o ats).sales
  unfolding after
  after_all forward o [] office are range keeps all = all
  after_all forward o (at ∷ ats) office are range keeps all =
      after_all forward (step forward o at) ats (step_keeps_office laws forward o at office (All-head IsStamped at ats are) range)
      (All-tail IsStamped at ats are) range keeps
      (step_all forward o at office range keeps all)

  left_all : (life : Life) → IsLife life → IsOffice life.opening → KeepsNew life.forward → All P life.opening.sales → (o : Office)
      → MayLeave life o → All P o.sales
  left_all life is office keeps all o (inl e) =
      subst (λ (p : Office). All P p.sales) (sym e) (after_all life.forward life.opening (acknowledged life) office
      (acknowledged_stamped laws life is) is.range keeps all)
  left_all life is office keeps all o (inr (at, there, e)) =
      subst (λ (p : Office). All P p.sales) (sym e) (step_all life.forward (present life) at (present_office laws life is office) is.range keeps
      (after_all life.forward life.opening (acknowledged life) office (acknowledged_stamped laws life is) is.range keeps all))

  led_all : (start : Office) (lives : List Life) (o : Office) → IsOffice start → LeadTo start lives o
      → ((life : Life) → Contains lives life → KeepsNew life.forward) → All P start.sales → All P o.sales
  led_all start [] o office e keeps all = subst (λ (p : Office). All P p.sales) (sym e) all
  led_all start (life ∷ lives) o office (is, opens, (left, may, leads)) keeps all =
      let opening = subst IsOffice (sym opens) office in
      led_all left lives o (left_office laws life is opening left may) leads (λ later there. keeps later (contains_further life later lives there))
      (left_all life is opening (keeps life (contains_first life lives)) (subst (λ (p : Office). All P p.sales) (sym opens) all) left may)

-- what each life's new sales keep holds of each sale that lives made
pub made_keeps : (laws : LowerLaws) (P : Sale → Type 0) (start : Office) (lives : List Life) (o : Office) (s : Sale) → IsOffice start → LeadTo start lives o
    → ((life : Life) → Contains lives life → KeepsNew laws P life.forward) → WasMadeSince start o s → P s
made_keeps laws P start lives o s begins lead keeps made =
    let OldOr : Sale → Type 0 = λ s. Contains start.sales s ⊎ P s in
    let all = led_all laws OldOr start lives o begins lead (λ life there p at order t office new. inr (keeps life there p at order t office new))
    (λ k d below. inl (Contains-get_or start.sales k d below)) in
    elim (All-contains OldOr o.sales s all made.stands) [ inl old ↦ absurd (made.new old) | inr holds ↦ holds ]

module _ (laws : LowerLaws) (start : Office) (lives : List Life) (o : Office) (s : Sale) (begins : IsOffice start) (lead : LeadTo start lives o)
    (made : WasMadeSince start o s) where
  -- an identifier that is sold is at least 2, and not reserved
  pub made_tid : (2 ≤ s.tid) × ¬ IsReserved s.tid
  made_tid =
      made_keeps laws (λ (s : Sale). (2 ≤ s.tid) × ¬ IsReserved s.tid) start lives o s begins lead
      (λ life there o at order s office new. (new.tid.0.may_sell.from_two, new.tid.0.may_sell.not_reserved)) made

  -- a sale has a tenth at least
  pub made_tenths : 1 ≤ s.tenths
  made_tenths =
      made_keeps laws (λ (s : Sale). 1 ≤ s.tenths) start lives o s begins lead
      (λ life there o at order s office new. omega (arith, new.bought_is.some, new.tenths)) made

  -- a sale was written under the transform of one of the lives, and a key
  pub made_token : WasWritten lives s
  made_token =
      made_keeps laws (WasWritten lives) start lives o s begins lead
      (λ life there o at order s office new.
      record {
        life = life;
        key = new.to_meter.key;
        one_of = there;
        key_bits = (office.meters order.meter new.to_meter new.meter_is).key;
        token = new.digits;
      }) made

  -- the identifier of a sale is its minute, or at most a day ahead of it
  pub made_timely : IsTimely s
  made_timely =
      made_keeps laws IsTimely start lives o s begins lead
      (λ life there o at order s office new.
      record {
        minute = new.minute;
        minute_is = ap (λ b. minute_of b s.moment) new.base ∙ ap (λ m. minute_of new.to_meter.base m) new.moment ∙ new.minute_is;
        not_past = new.tid.0.may_sell.not_past;
        lead = new.tid.1;
      }) made
