use Rattle.std.proofs.Common.{◌≡◌, ◌≤◌, ◌+◌, [], drop, length}
use Rattle.office_rules.specs.Decision.{new_rows}
use Rattle.office_rules.specs.Decision.Edits.{with_rows}
use Rattle.office_rules.specs.Decision.Facts.{AreRowsFacts}
use Rattle.office_rules.specs.Law.Growth.{HaveStayed}
use Rattle.office_rules.specs.Office.{Office}
use Rattle.office_rules.proofs.DecisionLemmas.ImportLemmas.{ahead}
use Rattle.office_decisions.proofs.ImportWalkLemmas.{SeesNew}
use Rattle.office_decisions.specs.OverFacts.{new_rows_on}
use Rattle.office_decisions.proofs.decision.import.new_rows.Given as goal

-- the new rows of all are those taken, and the new ones of the rest with them, in the office and by
-- the facts alone
abbrev pub invariant-loop-row : goal.invariant-loop-row
invariant-loop-row l = record {
  numbered : l.number ≡ l.row-index;
  few : length l.taken.rows.items ≤ l.row-index;
  stayed : (o : Office) → AreRowsFacts o l.today l.rows l.found → HaveStayed o (with_rows l.taken.rows.items o);
  facts : (o : Office) → AreRowsFacts o l.today l.rows l.found → AreRowsFacts o l.today (drop l.row-index l.rows) (drop l.row-index l.found);
  seen : (o : Office) → AreRowsFacts o l.today l.rows l.found → SeesNew o l.today l.rows l.taken.rows.items l.row-index;
  rest : (o : Office) → AreRowsFacts o l.today l.rows l.found
      → new_rows o l.today 1 l.rows ≡ ahead l.taken.rows.items (new_rows (with_rows l.taken.rows.items o) l.today (l.row-index + 1) (drop l.row-index l.rows));
  exact : new_rows_on [] l.today 0 l.rows l.found
      ≡ ahead l.taken.rows.items (new_rows_on l.taken.rows.items l.today l.row-index (drop l.row-index l.rows) l.found);
}
