use Rattle.std.proofs.Common.{arith}
use Rattle.command_line.proofs.DescriptionLemmas.{one_description_more}
use Rattle.command_line.proofs.line.with.Goals as goal

pub loop-description-preserved : goal.loop-description-preserved
loop-description-preserved c = λ before is.
    one_description_more before c.args.descriptions.now c.loop-description.description-index _ _ _ _ (omega arith)
    (c.loop-description.invariant before is) c.in_ok-command.ensures c.in_ok-line.ensures
