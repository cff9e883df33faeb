use Rattle.std.specs.Prelude.{IsSome}
use Rattle.audit_lists.specs.Ties.{EachBelow}
use Rattle.audit_lists.proofs.totals.test_keys.Given as goal

abbrev pub invariant-rows : goal.invariant-rows
invariant-rows g l = EachBelow (λ _ row. IsSome (g.T.Summed.has l.sales row)) l.rows l.at
