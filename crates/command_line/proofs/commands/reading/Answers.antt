use Rattle.std.proofs.Common.{refl}
use Rattle.command_line.specs.Line.{report_command, show_command, list_command, offer_command}
use Rattle.command_line.proofs.commands.reading.Goals as goal

pub returns : goal.returns
unfolding report_command show_command list_command offer_command
returns c = refl
