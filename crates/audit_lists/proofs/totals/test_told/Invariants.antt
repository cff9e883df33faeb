use Rattle.std.specs.Prelude.{◌≡◌, Some}
use Rattle.audit_lists.specs.Ties.{EachBelow}
use Rattle.audit_lists.proofs.totals.test_told.Given as goal

abbrev pub invariant-rows : goal.invariant-rows
invariant-rows g l = EachBelow (λ _ row. g.T.Summed.has l.sales row ≡ Some (g.T.Summed.told row)) l.rows l.at
