use Rattle.std.proofs.Common.{arith}
use Rattle.command_line.proofs.DescriptionLemmas.{one_argument_more}
use Rattle.command_line.proofs.description.Description.command.Goals as goal

pub loop-argument-preserved : goal.loop-argument-preserved
loop-argument-preserved c =
    one_argument_more _ c.args.self.now.arguments.now c.loop-argument.argument-index _ _ _ _ (omega arith)
    c.loop-argument.invariant c.arg.ensures.rule c.arg.ensures.own c.in_ok-command.ensures
