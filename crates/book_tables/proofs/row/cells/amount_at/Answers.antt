use Rattle.std.proofs.Common.{arith}
use Rattle.book_tables.proofs.row.cells.amount_at.Goals as goal

pub returns-in-None : goal.returns-in-None
returns-in-None c = λ x rule same. c.in-None.ensures x (omega arith, c.amount_law.ensures.greatest x rule) same
