use Rattle.std.proofs.Common.{arith}
use Rattle.desk_client.proofs.receipt.amount_from.Goals as goal

pub returns-then-tenths-from : goal.returns-then-tenths-from
returns-then-tenths-from c = λ t found. absurd (omega (arith, found.1, c.if-tenths-from.true, c.from.ensures, c.amount_law.ensures.greatest t found.0))
