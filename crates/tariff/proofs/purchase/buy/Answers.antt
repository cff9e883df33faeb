use Rattle.std.proofs.Common.{◌-◌, ◌<◌, arith}
use Rattle.tariff.specs.Cost.{cost_of}
use Rattle.tariff.specs.MostTenths.{AreMost}
use Rattle.tariff.specs.Purchase.{IsPurchase}
use Rattle.tariff.proofs.CodeLemmas.{AmountLaw}
use Rattle.tariff.proofs.PurchaseLemmas.{purchase_from_most, purchase_of-is, same_outcome}
use Rattle.tariff.proofs.purchase.buy.Goals as goal

pub returns-then-most-eq0-clause-value : goal.returns-then-most-eq0-clause-value
returns-then-most-eq0-clause-value c =
    let most : AreMost c.args.steps.now c.args.prior c.args.tender c.most_tenths-most.result =
    rw c.cents-cents.ensures.value at c.most_tenths-most.ensures in
    let dear : c.args.tender < cost_of c.args.steps.now c.args.prior 1 =
    most.greatest 1 (omega arith) (omega arith) in
    let told = c.amount_law.ensures in
    let law : AmountLaw = record {
      each_code = told.each_code;
      each_amount = told.each_amount;
      one_amount = told.one_amount;
      sixteen_bits = told.sixteen_bits;
      greatest = told.greatest;
      rises = told.rises;
    } in
    same_outcome c.args.steps.now c.args.prior c.args.tender _ _ dear (purchase_of-is law _ _ _)

-- what the body's call of `amount_law` tells
law : goal.After-price-price → AmountLaw
law c =
    let told = c.amount_law.ensures in
    record {
      each_code = told.each_code;
      each_amount = told.each_amount;
      one_amount = told.one_amount;
      sixteen_bits = told.sixteen_bits;
      greatest = told.greatest;
      rises = told.rises;
    }

-- the floor of the most tenths gives the purchase
purchased : (c : goal.After-price-price) → IsPurchase c.args.steps.now c.args.prior c.args.tender
    (record { tenths = c.floor-tenths.result; price = c.price-price.result; change = c.cents-cents.result - c.price-price.result })
purchased c =
    let most : AreMost c.args.steps.now c.args.prior c.args.tender c.most_tenths-most.result =
    rw c.cents-cents.ensures.value at c.most_tenths-most.ensures in
    rw (c.price-price.ensures, c.tenths.ensures.value, c.cents-cents.ensures.value)
    (purchase_from_most (law c) c.args.steps.now c.args.prior c.args.tender _ _ most (omega arith)
    c.floor-tenths.ensures)

pub overflow_cast-price : goal.overflow_cast-price
overflow_cast-price c = omega (arith, (purchased c).within, c.cents-cents.ensures.range.1)

pub overflow_sub-result : goal.overflow_sub-result
overflow_sub-result c = omega (arith, (purchased c).within, c.cents-cents.ensures.value)

pub returns-clause-purchase : goal.returns-clause-purchase
returns-clause-purchase c = purchased c

pub returns-clause-value : goal.returns-clause-value
returns-clause-value c = same_outcome c.args.steps.now c.args.prior c.args.tender _ _ (purchased c)
    (purchase_of-is (law c) _ _ _)
