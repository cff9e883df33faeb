use Rattle.std.proofs.Common.{ℕ, ◌++◌, List, drop}
use Rattle.office_rules.specs.Decision.Facts.{AreRowsFacts}
use Rattle.vend_core.specs.Lists.{recorded}
use Rattle.office_rules.specs.declared.decision.row_facts.RowFacts.{RowFacts}
use Rattle.vend_core.proofs.lists.gather.found_of.Given as goal

-- what is found for the other rows is, behind what is found so far, found for all
abbrev pub invariant-loop-row : goal.invariant-loop-row
invariant-loop-row l =
    (today : ℕ) (more : List RowFacts) → AreRowsFacts (recorded l.records) today (drop l.row-index l.rows) more
    → AreRowsFacts (recorded l.records) today l.rows (l.found.items ++ more)
