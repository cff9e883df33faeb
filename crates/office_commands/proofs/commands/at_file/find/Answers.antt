use Rattle.office_commands.proofs.commands.at_file.find.Goals as goal

pub returns-in-ShiftTotals : goal.returns-in-ShiftTotals
returns-in-ShiftTotals g c = rw c.in-ShiftTotals.is c.run.ensures
