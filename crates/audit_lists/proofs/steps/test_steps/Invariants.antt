use Rattle.audit_lists.specs.Steps.{AreSteps}
use Rattle.audit_lists.specs.Ties.{EachBelow}
use Rattle.audit_lists.proofs.steps.test_steps.Given as goal

abbrev pub invariant-others : goal.invariant-others
invariant-others g l = EachBelow (λ i other. AreSteps g.T.HasStep.step g.K.KeyOf.key l.rows (g.G.KeyOf.key other)) l.others l.at
