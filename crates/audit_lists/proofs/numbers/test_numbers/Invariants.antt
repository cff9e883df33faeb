use Rattle.std.proofs.Common.{◌≡◌, ◌+◌}
use Rattle.audit_lists.specs.Ties.{EachBelow}
use Rattle.audit_lists.proofs.numbers.test_numbers.Given as goal

abbrev pub invariant-rows : goal.invariant-rows
invariant-rows g l = EachBelow (λ i row. g.T.Numbered.number row ≡ i + 1) l.rows l.at
