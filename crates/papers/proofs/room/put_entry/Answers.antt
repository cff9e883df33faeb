use Rattle.std.proofs.Common.{arith}
use Rattle.papers.proofs.TextLemmas.{line-parts}
use Rattle.papers.proofs.room.put_entry.Goals as goal

pub returns-clause-items : goal.returns-clause-items
returns-clause-items g c = grind (arith, line-parts)
