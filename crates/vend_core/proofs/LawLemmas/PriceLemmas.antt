-- A sale costs what its tenths cost by the steps of its own day, in each later office too.
use Rattle.std.proofs.Common.{◌≡◌, ℕ, List, ◌∷◌, None, Ok, sym, ◌∙◌, ap, subst, arith}
use Rattle.std.specs.Prelude.{All, Contains, IsSome}
use Rattle.std.proofs.lemmas.List.Elements.{All-cons, Contains-push}
use Rattle.sts_fields.specs.Calendar.{month_at}
use Rattle.sts_fields.specs.Day.{day_at}
use Rattle.sts_token.specs.Token.{KeepsRange}
use Rattle.tariff.specs.Cost.{cost_of}
use Rattle.tariff.specs.declared.step.Step.{Step}
use Rattle.office_rules.specs.Decision.Fold.{after, reply, step}
use Rattle.office_rules.specs.Office.Lookup.{prior, sale_of_ref, steps_on}
use Rattle.office_rules.specs.Law.NewSale.{IsNewSale}
use Rattle.office_rules.specs.Office.{IsOffice, Office}
use Rattle.vend_core.specs.Law.OfficeLaws.{IsNotBefore, IsPricedBy, KeepsPrice}
use Rattle.office_rules.specs.Decision.Requests.{IsStamped}
use Rattle.office_rules.specs.declared.decision.answer.Answer.TheVariants as answers
use Rattle.office_rules.specs.declared.decision.request.Order.{Order}
use Rattle.office_rules.specs.declared.decision.request.Request.TheVariants as requests
use Rattle.office_rules.specs.declared.decision.request.Stamped.{Stamped}
use Rattle.office_rules.specs.declared.office.sale.Sale.{Sale}
use Rattle.vend_core.proofs.LawLemmas.DatedLemmas.{passed_steps_stay}
use Rattle.vend_core.proofs.LawLemmas.FoldLemmas.{after_grows}
use Rattle.vend_core.proofs.LawLemmas.GrowthLemmas.{stands_on}
use Rattle.vend_core.proofs.LawLemmas.{new_sale_is}
use Rattle.office_rules.proofs.DecisionLemmas.NewSaleLemmas.{LowerLaws}
use Rattle.office_rules.proofs.OfficeLemmas.{step_keeps_office}

module _ (forward : ℕ → ℕ → ℕ) (o : Office) (at : Stamped) (order : Order) (s : Sale) (new : IsNewSale forward o at order s) where
  -- the new sale costs what the rules say, by its own moment, meter and tenths
  priced_as_new : IsPricedBy o new.to_meter.tariff (prior o s.meter (month_at s.moment)) s
  priced_as_new =
      let steps = λ (moment : ℕ). steps_on o new.to_meter.tariff (day_at moment) in
      let before = λ (meter : List ℕ) (moment : ℕ). prior o meter (month_at moment) in
      new.price ∙ new.bought_is.price
      ∙ ap (λ (moment : ℕ). cost_of (steps moment) (before order.meter moment) new.bought.tenths) (sym new.moment)
      ∙ ap (λ (meter : List ℕ). cost_of (steps s.moment) (before meter s.moment) new.bought.tenths) (sym new.meter)
      ∙ ap (λ (tenths : ℕ). cost_of (steps s.moment) (before s.meter s.moment) tenths) (sym new.tenths)

  has_tariff : IsOffice o → IsSome (o.tariffs new.to_meter.tariff)
  has_tariff office = (office.meters order.meter new.to_meter new.meter_is).tariff

module _ (laws : LowerLaws) (forward : ℕ → ℕ → ℕ) (o : Office) (range : KeepsRange forward) (office : IsOffice o) where
  -- a new sale stands after all later requests, at a price by the steps of its own day
  pub keeps_price : (at : Stamped) (order : Order) (s : Sale) (later : List Stamped) → IsStamped at → All IsStamped later → at.request ≡ requests.Sell order
      → sale_of_ref o order.operator order.order_ref ≡ None → reply forward o at ≡ Ok (answers.Sold s)
      → All (IsNotBefore (day_at at.moment)) later → KeepsPrice o (after forward (step forward o at) later) s
  unfolding after
  keeps_price at order s later stamped are asks alone answered past =
      let made = new_sale_is laws forward o at order s office range asks alone answered in
      let new = made.0 in
      let p = step forward o at in
      let next = step_keeps_office laws forward o at office stamped range in
      let there = subst (λ (sales : List Sale). Contains sales s) (sym made.1) (Contains-push o.sales s) in
      let all = All-cons IsStamped at later stamped are in
      let passed = All-cons (IsNotBefore (day_at at.moment)) at later (omega arith) past in
      let same : steps_on (after forward p later) new.to_meter.tariff (day_at at.moment) ≡ steps_on o new.to_meter.tariff (day_at at.moment) =
      passed_steps_stay laws forward o (at ∷ later) new.to_meter.tariff (day_at at.moment) office all range
      (has_tariff forward o at order s new office) passed in
      let on_day : steps_on (after forward p later) new.to_meter.tariff (day_at s.moment) ≡ steps_on o new.to_meter.tariff (day_at s.moment) =
      subst (λ (moment : ℕ). steps_on (after forward p later) new.to_meter.tariff (day_at moment)
      ≡ steps_on o new.to_meter.tariff (day_at moment)) (sym new.moment) same in
      record {
        stands = stands_on p (after forward p later) s (after_grows laws forward p later next are range) there;
        meter = new.to_meter;
        meter_is = ap o.meters new.meter ∙ new.meter_is;
        price = priced_as_new forward o at order s new
            ∙ ap (λ (steps : List Step). cost_of steps (prior o s.meter (month_at s.moment)) s.tenths) (sym on_day);
      }
