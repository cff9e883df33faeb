use Rattle.office_rules.specs.Office.{IsOffice}
use Rattle.vend_core.specs.Lists.{office_of}
use Rattle.law_witnesses.proofs.programs.listed.Given as goal

-- it stays an office
abbrev pub invariant-loop-at : goal.invariant-loop-at
invariant-loop-at l = IsOffice (office_of l.lists)
