use Rattle.office_rules.specs.Office.{Office}
use Rattle.audit_lists.specs.reached.Finds.{AreRowsOfOffice}
use Rattle.audit_lists.proofs.ReachedLemmas.WalkLemmas.{IsFront}
use Rattle.audit_lists.proofs.reached.walk.test_sales.Given as goal

abbrev pub invariant-sales : goal.invariant-sales
invariant-sales l = (o : Office) → AreRowsOfOffice l.rows o → IsFront o l.at l.walked
