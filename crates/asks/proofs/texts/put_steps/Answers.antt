use Rattle.std.proofs.Common.{◌+◌, true, sym}
use Rattle.asks.proofs.StepsLemmas.{rest_at, step_more, steps_done}
use Rattle.asks.proofs.texts.put_steps.Goals as goal

pub loop-step-preserved : goal.loop-step-preserved
loop-step-preserved c =
    let whole = rest_at c.loop-step.later _ _ c.loop-step.step-index _ _ c.as_slice-step-items.ensures.view c.loop-step.invariant in
    rest_at true _ _ (c.loop-step.step-index + 1) _ _ (sym c.as_slice-step-items.ensures.view)
    (step_more c.loop-step.later c.as_slice-step-items.result.now c.loop-step.step-index _ _ _ _ _ c.loop-step-test.true
    c.in_ok-put_between.ensures c.in_ok-put_step.ensures whole)

pub returns-clause-text : goal.returns-clause-text
returns-clause-text c =
    steps_done c.loop-step.later c.as_slice-step-items.result.now c.loop-step.step-index _ _ c.loop-step-test.false
    (rest_at c.loop-step.later _ _ c.loop-step.step-index _ _ c.as_slice-step-items.ensures.view c.loop-step.invariant)
