use Rattle.std.proofs.Common.{◌∙◌, ap, max, arith}
use Rattle.std.specs.Prelude.{All}
use Rattle.tariff.specs.Steps.{HasPrice}
use Rattle.tariff.proofs.MostLemmas.{are_most_end, are_most_here, are_paid_more, paid_in_part, paid_whole}
use Rattle.tariff.proofs.purchase.most_tenths.Goals as goal

pub returns-then-affordable-upper : goal.returns-then-affordable-upper
returns-then-affordable-upper c =
    let prices : All HasPrice c.as_slice-step-items.result.now =
    rw c.as_slice-step-items.ensures.view c.as_slice-step-items.ensures.steps.prices in
    let some = (prices _ _ c.loop-step-test.true).0 in
    rw c.from-in-loop-step.ensures
    (rw (← c.as_slice-step-items.ensures.view)
    (let part = paid_in_part _ c.loop-step.left some in
    are_most_here c.as_slice-step-items.result.now _ _ _ _ _ _ _ _ _ (omega (arith, c.from.ensures))
    c.loop-step-test.true
    (c.max-upper.ensures ∙ ap (λ r. max r c.loop-step.paid) c.reach.ensures)
    (rw c.from-in-loop-step.ensures at c.if-affordable-upper.true) part.0 part.1 c.loop-step.invariant))

pub loop-step-preserved : goal.loop-step-preserved
loop-step-preserved c =
    let prices : All HasPrice c.as_slice-step-items.result.now =
    rw c.as_slice-step-items.ensures.view c.as_slice-step-items.ensures.steps.prices in
    let some = (prices _ _ c.loop-step-test.true).0 in
    rw c.from-in-loop-step-2.ensures
    (are_paid_more c.as_slice-step-items.result.now _ _ _ _ _ _ _ _ c.loop-step-test.true
    (c.max-upper.ensures ∙ ap (λ r. max r c.loop-step.paid) c.reach.ensures)
    (paid_whole _ _ _ some (rw c.from-in-loop-step.ensures at c.if-affordable-upper.false))
    c.loop-step.invariant)

pub returns : goal.returns
returns c =
    rw (← c.as_slice-step-items.ensures.view)
    (are_most_end c.as_slice-step-items.result.now _ _ _ _ _ _ (omega (arith, c.from.ensures)) c.loop-step-test.false c.loop-step.invariant)
