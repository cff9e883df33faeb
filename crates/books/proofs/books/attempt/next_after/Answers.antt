use Rattle.std.proofs.Common.{arith}
use Rattle.books.proofs.AttemptLemmas.{adds_none}
use Rattle.books.proofs.books.attempt.next_after.Goals as goal

pub returns-in_default : goal.returns-in_default
returns-in_default c fits = omega (arith, adds_none c.args.edit.now c.in_default.not-AddSale)
