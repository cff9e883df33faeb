use Rattle.tariff.proofs.CodeLemmas.{AmountLaw}
use Rattle.tariff.proofs.CostLemmas.{cost_of-parts, cost_of-rises}
use Rattle.tariff.proofs.PurchaseLemmas.{computed_iff, more_for_more, none_iff, purchase_of-is, too_little_iff}
use Rattle.tariff.proofs.purchase.purchase_law.Goals as goal

-- what the body's call of `amount_law` tells
law : goal.After-amount_law → AmountLaw
law c =
    let told = c.amount_law.ensures in
    record {
      each_code = told.each_code;
      each_amount = told.each_amount;
      one_amount = told.one_amount;
      sixteen_bits = told.sixteen_bits;
      greatest = told.greatest;
      rises = told.rises;
    }

pub returns-clause-parts : goal.returns-clause-parts
returns-clause-parts c = cost_of-parts

pub returns-clause-rises : goal.returns-clause-rises
returns-clause-rises c = cost_of-rises

pub returns-clause-more_for_more : goal.returns-clause-more_for_more
returns-clause-more_for_more c = more_for_more (law c)

pub returns-clause-computed : goal.returns-clause-computed
returns-clause-computed c = λ steps prior tender b. computed_iff steps prior tender b _
    (purchase_of-is (law c) steps prior tender)

pub returns-clause-none : goal.returns-clause-none
returns-clause-none c =
    λ steps prior tender. none_iff steps prior tender _ (purchase_of-is (law c) steps prior tender)

pub returns-clause-too_little : goal.returns-clause-too_little
returns-clause-too_little c = λ steps prior tender. too_little_iff steps prior tender _
    (purchase_of-is (law c) steps prior tender)
