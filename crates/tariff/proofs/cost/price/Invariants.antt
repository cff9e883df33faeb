use Rattle.tariff.proofs.CostLemmas.{IsSummed}
use Rattle.tariff.proofs.cost.price.Given as goal

abbrev pub invariant-loop-step : goal.invariant-loop-step
invariant-loop-step l = IsSummed l.step-items l.prior l.end l.priced l.sum l.step-index
