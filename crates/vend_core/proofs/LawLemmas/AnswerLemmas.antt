-- The sales that are answered stand, and what a decision leaves as it was.
use Rattle.std.proofs.Common.{◌≡◌, ℕ, ◌⊎◌, inl, inr, List, [], ◌∷◌, ◌++◌, length, Result, Ok, refl, sym, subst}
use Rattle.std.specs.Prelude.{All, Contains}
use Rattle.sts_fields.specs.Day.{day_at}
use Rattle.std.proofs.lemmas.List.Elements.{All-cons, All-nil, Contains-push}
use Rattle.sts_token.specs.Token.{KeepsRange}
use Rattle.office_rules.specs.Decision.{add_rows, changed, decision_of, import, new_rows, account_of, sell}
use Rattle.office_rules.specs.Decision.Edits.{applied, with_row, with_rows}
use Rattle.office_rules.specs.Decision.Fold.{office_after, reply, reply_of, step}
use Rattle.office_rules.specs.Law.Handed.{sales_in, sales_of}
use Rattle.office_rules.specs.Office.Lookup.{open_shift}
use Rattle.office_rules.specs.Law.NewSale.{IsNewSale}
use Rattle.office_rules.specs.Office.{IsOffice, Office}
use Rattle.vend_core.specs.Law.OfficeLaws.{SellsOne}
use Rattle.office_rules.specs.declared.decision.answer.Answer.{Answer}
use Rattle.office_rules.specs.declared.decision.answer.Answer.TheVariants as answers
use Rattle.office_rules.specs.declared.decision.change.Change.{Change}
use Rattle.office_rules.specs.declared.decision.change.Edit.{Edit}
use Rattle.office_rules.specs.declared.decision.change.Edit.TheVariants as edits
use Rattle.office_rules.specs.declared.decision.refusal.Refusal.{Refusal}
use Rattle.office_rules.specs.declared.decision.request.Order.{Order}
use Rattle.office_rules.specs.declared.decision.request.Request.{Request}
use Rattle.office_rules.specs.declared.decision.request.Request.TheVariants as requests
use Rattle.office_rules.specs.declared.decision.request.Stamped.{Stamped}
use Rattle.office_rules.specs.declared.office.row.Row.{Row}
use Rattle.office_rules.specs.declared.office.row.Row.TheVariants as kinds
use Rattle.office_rules.specs.declared.office.sale.Sale.{Sale}
use Rattle.office_rules.proofs.DecisionLemmas.{after_test, sale_change}
use Rattle.office_rules.proofs.DecisionLemmas.NewSaleLemmas.{LowerLaws, granted_sale}
use Rattle.vend_core.proofs.LawLemmas.DecidedLemmas.{Each, by_decision, same_sale}

-- each sale that is answered stands in the office after the decision
abbrev pub AnswersStand : Office → Result Change Refusal → Type 0
AnswersStand o r = All (Contains (office_after o r).sales) (sales_of (reply_of r))

-- a decision leaves the sales, or adds the one that it answers, of which New holds
abbrev pub AddsOne : Office → (Sale → Type 0) → Result Change Refusal → Type 0
AddsOne o New r = ((office_after o r).sales ≡ o.sales)
    ⊎ ((s : Sale) × New s × ((office_after o r).sales ≡ o.sales ++ s ∷ []) × (reply_of r ≡ Ok (answers.Sold s)))

pub record IsHonest (o : Office) (New : Sale → Type 0) (r : Result Change Refusal) : Type 0 where
  pub stand : AnswersStand o r
  pub adds : AddsOne o New r

module _ (o : Office) (New : Sale → Type 0) where
  nothing : (p : Office) → All (Contains p.sales) []
  nothing p = All-nil (Contains p.sales)

  -- an edit that leaves the sales, and an answer without any
  plain : (e : Edit) (answer : Answer) → (applied e o).sales ≡ o.sales → sales_in answer ≡ [] → IsHonest o New (changed e answer)
  plain e answer same none = record {
    stand = subst (All (Contains (applied e o).sales)) (sym none) (nothing (applied e o));
    adds = inl same;
  }

  -- rows add no sale
  rows_add_none : (new : List Row) (p : Office) → (with_rows new p).sales ≡ p.sales
  rows_add_none [] p = refl
  rows_add_none (kinds.Tariff name steps ∷ rest) p = rows_add_none rest (with_row (kinds.Tariff name steps) p)
  rows_add_none (kinds.Steps name day steps ∷ rest) p = rows_add_none rest (with_row (kinds.Steps name day steps) p)
  rows_add_none (kinds.Meter number m ∷ rest) p = rows_add_none rest (with_row (kinds.Meter number m) p)

  stand_rows : (new : List Row) → IsHonest o New (add_rows new)
  stand_rows [] = record { stand = nothing o; adds = inl refl }
  stand_rows (row ∷ rest) = record { stand = nothing (with_rows (row ∷ rest) o); adds = inl (rows_add_none (row ∷ rest) o) }

  stand_import : (today : ℕ) (rows : List Row) → IsHonest o New (import o today rows)
  stand_import today rows = after_test (IsHonest o New) (new_rows o today 1 rows) add_rows
      (λ refusal. record { stand = nothing o; adds = inl refl }) (λ new e. stand_rows new)

  stand_added : (s : Sale) → New s → IsHonest o New (Ok (sale_change s))
  stand_added s new = record {
    stand = All-cons (Contains (o.sales ++ s ∷ [])) s [] (Contains-push o.sales s) (nothing (office_after o (Ok (sale_change s))));
    adds = inr (s, new, refl, refl);
  }

  module _ (forward : ℕ → ℕ → ℕ) (moment nibble : ℕ) where
    -- the sale that an order makes where it was not served before
    abbrev pub sold_to : Order → Result Change Refusal
    sold_to order = sell forward moment nibble order (open_shift o order.operator) (account_of o order.meter moment) (length o.sales)

    -- a sale that a request makes is new
    abbrev SellsNew : Request → Type 0
    SellsNew request = (order : Order) (s : Sale) → request ≡ requests.Sell order → sold_to order ≡ Ok (sale_change s) → New s

    honest_each : (request : Request) → SellsNew request → Each (IsHonest o New) o forward moment nibble request
    honest_each (requests.AddTariff name steps) sells = λ free. plain (edits.AddTariff name steps) answers.Done refl refl
    honest_each (requests.AddSteps name day steps) sells = λ free later. plain (edits.AddSteps name day steps) answers.Done refl refl
    honest_each (requests.WithdrawSteps name day) sells = λ later. plain (edits.WithdrawSteps name day) (answers.Withdrawn 1) refl refl
    honest_each (requests.AddMeter number m) sells = λ free has. plain (edits.AddMeter number m) answers.Done refl refl
    honest_each (requests.Import rows) sells = stand_import (day_at moment) rows
    honest_each (requests.SetTariff number name) sells = λ has. plain (edits.SetTariff number name) answers.Done refl refl
    honest_each (requests.MoveBase number base) sells = plain (edits.MoveBase number base) answers.Done refl refl
    honest_each (requests.SetKey number key) sells = plain (edits.SetKey number key) answers.Done refl refl
    honest_each (requests.OpenShift operator) sells = λ s number. plain (edits.OpenShift s) (answers.Opened number) refl refl
    honest_each (requests.CloseShift operator) sells = λ s. plain (edits.CloseShift s.number moment) (answers.Closed s.number) refl refl
    honest_each (requests.Sell order) sells = λ s sold. stand_added s (sells order s refl sold)
    honest_each (requests.Reprint number) sells = tt
    honest_each (requests.ShiftReport number) sells = tt

    -- whatever is asked, only sales that stand are answered, and one new at most is added
    pub honest : (request : Request) → SellsNew request → IsHonest o New (decision_of forward o moment nibble request)
    honest request sells =
        by_decision (IsHonest o New) o (λ refusal own. record { stand = nothing o; adds = inl refl })
        (λ answer stand. record { stand = stand; adds = inl refl }) forward moment nibble request (honest_each request sells)

-- each sale that is answered stands after the step
pub answered_stand : (forward : ℕ → ℕ → ℕ) (o : Office) (at : Stamped) → All (Contains (step forward o at).sales) (sales_of (reply forward o at))
answered_stand forward o at = (honest o (λ s. Unit {0}) forward at.moment at.nibble at.request (λ order s asks sold. tt)).stand

-- a step of an office leaves the sales, or adds the new one of an order
pub sells_one : LowerLaws → (forward : ℕ → ℕ → ℕ) (o : Office) (at : Stamped) → IsOffice o → KeepsRange forward → SellsOne forward o at
sells_one laws forward o at office range =
    (honest o (λ s. (order : Order) × (at.request ≡ requests.Sell order) × IsNewSale forward o at order s) forward at.moment at.nibble
    at.request (λ order s asks sold.
    let granted = granted_sale laws forward o at order (sale_change s) range office sold in
    let same : granted.sale ≡ s = sym (same_sale s granted.sale granted.change_is) in
    (order, asks, subst (IsNewSale forward o at order) same granted.new))).adds
