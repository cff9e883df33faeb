use Rattle.std.proofs.Common.{arith}
use Rattle.desk_client.proofs.report_line.is_amount.Goals as goal

pub returns-then-tenths-from : goal.returns-then-tenths-from
returns-then-tenths-from c =
    (λ t. absurd cc, λ is. absurd (omega (arith, c.if-tenths-from.true, c.from.ensures, c.amount_law.ensures.greatest c.args.tenths is)))
