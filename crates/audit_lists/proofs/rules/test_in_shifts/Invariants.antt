use Rattle.audit_lists.specs.Rules.{IsInShift}
use Rattle.audit_lists.specs.Ties.{EachBelow}
use Rattle.audit_lists.proofs.rules.test_in_shifts.Given as goal

abbrev pub invariant-sales : goal.invariant-sales
invariant-sales l = EachBelow (λ i s. IsInShift l.shifts s) l.sales l.at
