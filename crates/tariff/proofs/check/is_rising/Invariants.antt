use Rattle.std.proofs.Common.{take}
use Rattle.std.specs.Prelude.{All}
use Rattle.tariff.specs.Steps.{EndFits}
use Rattle.tariff.proofs.StepsLemmas.{IsLeft}
use Rattle.tariff.proofs.check.is_rising.Given as goal

abbrev pub invariant-loop-step : goal.invariant-loop-step
invariant-loop-step l = record {
  left : IsLeft l.steps l.before l.step-index;
  ends_fit : All EndFits (take l.step-index l.steps);
}
