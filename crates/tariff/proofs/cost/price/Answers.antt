use Rattle.std.proofs.Common.{◌≡◌, ◌+◌, ◌-◌, ◌∙◌, ap, max, arith}
use Rattle.std.specs.Prelude.{All}
use Rattle.tariff.specs.Cost.{prices_of}
use Rattle.tariff.specs.Steps.{HasPrice}
use Rattle.tariff.proofs.CostLemmas.{is_summed_end, is_summed_more}
use Rattle.tariff.proofs.cost.price.Goals as goal

pub loop-step-preserved : goal.loop-step-preserved
loop-step-preserved c =
    let prices : All HasPrice c.as_slice-step-items.result.now =
    rw c.as_slice-step-items.ensures.view c.as_slice-step-items.ensures.steps.prices in
    rw c.from-in-loop-step.ensures
    (is_summed_more c.as_slice-step-items.result.now _ _ _ _ _ _ _ c.loop-step-test.true
    (c.max-upper.ensures ∙ ap (λ r. max r c.loop-step.priced) c.reach.ensures)
    (prices _ _ c.loop-step-test.true).1 c.loop-step.invariant)

pub returns : goal.returns
returns c =
    let all = is_summed_end c.as_slice-step-items.result.now _ _ _ _ _ c.loop-step-test.false c.loop-step.invariant in
    let run : (c.args.prior + c.from.result) - c.args.prior ≡ c.args.tenths = omega arith in
    let sum : prices_of c.args.steps.now c.args.prior c.args.tenths ≡ c.loop-step.sum =
    rw (← c.as_slice-step-items.ensures.view, ← run) all in
    omega arith
