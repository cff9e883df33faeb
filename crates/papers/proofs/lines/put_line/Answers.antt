use Rattle.std.proofs.Common.{arith}
use Rattle.papers.proofs.TextLemmas.{line-parts}
use Rattle.papers.proofs.lines.put_line.Goals as goal

pub returns : goal.returns
returns c = grind (arith, line-parts)
