use Rattle.std.proofs.Common.{Ok}
use Rattle.office_commands.proofs.commands.import.add.Goals as goal

pub returns-in-Ok : goal.returns-in-Ok
returns-in-Ok g c = (c.in-Ok.ensures.0, Ok c.in-Ok.rows, c.in-Ok.ensures.1, c.in-Ok.ensures.2, c.ask_at.ensures)
