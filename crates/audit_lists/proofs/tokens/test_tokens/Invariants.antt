use Rattle.vend_core.specs.Law.Reached.{IsWrittenBy}
use Rattle.office_rules.specs.Office.{Office}
use Rattle.audit_lists.specs.Ties.{EachBelow}
use Rattle.audit_lists.specs.reached.Finds.{AreRowsOfOffice}
use Rattle.audit_lists.proofs.tokens.test_tokens.Given as goal

abbrev pub invariant-sales : goal.invariant-sales
invariant-sales g l = (o : Office) → AreRowsOfOffice l.rows o → EachBelow (λ _ s. IsWrittenBy (g.T.BlockTransform.forwards l.transform) o s) o.sales l.at
