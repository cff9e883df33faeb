use Rattle.std.proofs.Common.{arith}
use Rattle.desk_client.proofs.columns.AmountCellColumn.of_cell.Goals as goal

pub returns-in_default : goal.returns-in_default
returns-in_default c = λ v h. c.in_default.ensures v.of (omega (arith, c.amount_law.ensures.greatest v.of h.0), h.1)
