use Rattle.std.proofs.Common.{arith, append_assoc}
use Rattle.papers.specs.Report.{shift_head}
use Rattle.papers.proofs.reports.put_shift.Goals as goal

pub returns : goal.returns
unfolding shift_head
returns c = grind (arith, append_assoc)
