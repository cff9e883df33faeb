use Rattle.std.proofs.Common.{arith, rules}
use Rattle.tariff.proofs.StepsLemmas.{ends_fit_all, ends_fit_none, ends_fit_some, ends_fit_start, is_left_end, is_left_none, is_left_some, is_left_start, is_left_stop}
use Rattle.tariff.proofs.check.is_rising.Goals as goal
use Rattle.tariff.proofs.check.is_rising.Goals.{in-Some+else-end-before, in_default}

pub loop-step-init : goal.loop-step-init
loop-step-init c =
    record { left = is_left_start c.args.steps.now; ends_fit = ends_fit_start c.args.steps.now }

pub returns-then-end-before-clause-rising : goal.returns-then-end-before-clause-rising
returns-then-end-before-clause-rising c = (
  λ b. cc,
  λ r. absurd (is_left_stop c.args.steps.now _ _ _ _ c.loop-step-test.true c.in-Some.is c.if-end-before.true c.loop-step.invariant.left r),
)

pub loop-step-preserved : goal.loop-step-preserved
loop-step-preserved c = elim c.match-step.branch [
  | in-Some+else-end-before w ↦ record {
    left = rw w.before-is (is_left_some c.args.steps.now _ _ _ _ c.loop-step-test.true w.in-Some.is w.if-end-before.false c.loop-step.invariant.left);
    ends_fit = ends_fit_some c.args.steps.now _ _ _ c.loop-step-test.true w.in-Some.is
        (omega arith) c.loop-step.invariant.ends_fit;
  }
  | in_default w ↦ record {
    left = rw w.before-is (is_left_none c.args.steps.now _ _ _ c.loop-step-test.true w.in_default.is c.loop-step.invariant.left);
    ends_fit = ends_fit_none c.args.steps.now _ _ c.loop-step-test.true w.in_default.is c.loop-step.invariant.ends_fit;
  }
]

pub returns-clause-rising : goal.returns-clause-rising
returns-clause-rising c = (
  λ _. is_left_end c.args.steps.now _ _ c.loop-step-test.false c.loop-step.invariant.left,
  λ _. search rules,
)

pub returns-clause-ends_fit : goal.returns-clause-ends_fit
returns-clause-ends_fit c =
    ends_fit_all c.args.steps.now _ c.loop-step-test.false c.loop-step.invariant.ends_fit
