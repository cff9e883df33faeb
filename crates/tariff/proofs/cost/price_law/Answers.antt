use Rattle.tariff.proofs.CostLemmas.{prices_of-add, prices_of-one, prices_of-zero}
use Rattle.tariff.proofs.PriceLemmas.{in_a_step, never_free}
use Rattle.tariff.proofs.cost.price_law.Goals as goal

pub returns-clause-no_tenths : goal.returns-clause-no_tenths
returns-clause-no_tenths c = prices_of-zero

pub returns-clause-one_tenth : goal.returns-clause-one_tenth
returns-clause-one_tenth c = prices_of-one

pub returns-clause-adds : goal.returns-clause-adds
returns-clause-adds c = prices_of-add

pub returns-clause-in_a_step : goal.returns-clause-in_a_step
returns-clause-in_a_step c = in_a_step

pub returns-clause-never_free : goal.returns-clause-never_free
returns-clause-never_free c = never_free
