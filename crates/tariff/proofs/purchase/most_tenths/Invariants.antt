use Rattle.std.proofs.Common.{◌*◌}
use Rattle.tariff.proofs.MostLemmas.{ArePaid}
use Rattle.tariff.proofs.purchase.most_tenths.Given as goal

abbrev pub invariant-loop-step : goal.invariant-loop-step
invariant-loop-step l = ArePaid l.step-items l.prior (l.cents * 10) l.end l.paid l.left l.step-index
