use Rattle.audit_lists.specs.reached.Prices.{AreLists}
use Rattle.audit_lists.proofs.reached.listed.lists_of.Given as goal

abbrev pub invariant-rows : goal.invariant-rows
invariant-rows g l = AreLists g.T.HasStep.step g.K.KeyOf.key l.rows l.at l.listed.items
