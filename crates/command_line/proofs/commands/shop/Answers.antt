use Rattle.std.proofs.Common.{refl}
use Rattle.command_line.specs.Line.{import_command, shift_command, sell_command}
use Rattle.command_line.proofs.commands.shop.Goals as goal

pub returns : goal.returns
unfolding import_command shift_command sell_command
returns c = refl
