use Rattle.std.proofs.Common.{ℕ, ◌++◌, List, drop}
use Rattle.sqlite.specs.Held.{state}
use Rattle.sqlite.specs.State.{HasCleanDisk}
use Rattle.office_rules.specs.Decision.Facts.{AreRowsFacts}
use Rattle.office_rules.specs.Office.{IsOffice, Office}
use Rattle.office_rules.specs.declared.decision.row_facts.RowFacts.{RowFacts}
use Rattle.book_tables.specs.reading.Reading.{HasAllTables}
use Rattle.book_states.specs.FactsSeen.{AreRowsSeen}
use Rattle.book_states.specs.Members.{HasMembers}
use Rattle.book_states.specs.Spoilt.{AreRowsSpoilt}
use Rattle.book_facts.proofs.PassedLemmas.{HasPassed}
use Rattle.book_facts.proofs.facts.imports.found_of.Given as goal

-- nothing was changed, and what is found, and was seen, for the other rows is, behind what is found
-- so far, found and seen for all; and one of the others that is spoilt stops all
abbrev pub invariant-loop-row : goal.invariant-loop-row
invariant-loop-row g l = record {
  passed : HasPassed (state g.S.Store l.fn.conn) (state g.S.Store l.conn);
  found : HasCleanDisk (state g.S.Store l.conn) → (o : Office) → IsOffice o → HasMembers (state g.S.Store l.fn.conn) o
      → (today : ℕ) (more : List RowFacts) → AreRowsFacts o today (drop l.row-index l.rows) more → AreRowsFacts o today l.rows (l.found.items ++ more);
  seen : HasCleanDisk (state g.S.Store l.conn) → HasAllTables (state g.S.Store l.fn.conn)
      → (more : List RowFacts) → AreRowsSeen (drop l.row-index l.rows) (state g.S.Store l.fn.conn).now more
      → AreRowsSeen l.rows (state g.S.Store l.fn.conn).now (l.found.items ++ more);
  spoilt : HasCleanDisk (state g.S.Store l.conn) → HasAllTables (state g.S.Store l.fn.conn)
      → AreRowsSpoilt (drop l.row-index l.rows) (state g.S.Store l.fn.conn).now → AreRowsSpoilt l.rows (state g.S.Store l.fn.conn).now;
}
