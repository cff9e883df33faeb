use Rattle.std.proofs.Common.{◌≡◌, ◌++◌, drop}
use Rattle.tariff.specs.StepsText.{steps_text}
use Rattle.asks.proofs.StepsLemmas.{steps_rest}
use Rattle.asks.proofs.texts.put_steps.Given as goal

-- what was added so far, before what is still to be added
abbrev pub invariant-loop-step : goal.invariant-loop-step
invariant-loop-step l = l.text.items ++ steps_rest l.later (drop l.step-index l.steps) ≡ l.fn.text.items ++ steps_text l.steps
