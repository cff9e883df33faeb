use Rattle.audit_lists.specs.Rules.{IsOfMeter}
use Rattle.audit_lists.specs.Ties.{EachBelow}
use Rattle.audit_lists.proofs.bases.test_bases.Given as goal

abbrev pub invariant-bases : goal.invariant-bases
invariant-bases l = EachBelow (λ i base. IsOfMeter l.meters base) l.bases l.at
