use Rattle.std.proofs.Common.{refl}
use Rattle.command_line.specs.Line.{tariff_command, withdraw_command, base_command, key_command, audit_command, serve_command}
use Rattle.command_line.proofs.commands.care.Goals as goal

pub returns : goal.returns
unfolding tariff_command withdraw_command base_command key_command audit_command serve_command
returns c = refl
