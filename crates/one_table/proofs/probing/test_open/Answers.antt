use Rattle.std.proofs.Common.{[]}
use Rattle.one_table.proofs.AnswerLemmas.{not_run_left}
use Rattle.one_table.proofs.NoTextLemmas.{fails_alone}
use Rattle.one_table.proofs.probing.test_open.Goals as goal
use Rattle.one_table.proofs.probing.test_open.Goals.{in-Ok, in-Err}

pub returns-clause-kept : goal.returns-clause-kept
returns-clause-kept g c = λ clean. elim c.match-prepare.branch [
  | in-Ok w ↦ rw w.result-is tt
  | in-Err w ↦ rw w.result-is (not_run_left _ [] _ _ _ (w.in-Err.ensures.err clean []))
]

pub returns-clause-faults : goal.returns-clause-faults
returns-clause-faults g c = λ clean. elim c.match-prepare.branch [
  | in-Ok w ↦ rw w.result-is tt
  | in-Err w ↦ rw w.result-is (fails_alone _ _ _ (w.in-Err.ensures.err clean))
]
