use Rattle.std.proofs.Common.{refl}
use Rattle.command_line.specs.Line.{quote_command, meter_command, trial_command, selfcheck_command}
use Rattle.command_line.proofs.commands.officeless.Goals as goal

pub returns : goal.returns
unfolding quote_command meter_command trial_command selfcheck_command
returns c = refl
