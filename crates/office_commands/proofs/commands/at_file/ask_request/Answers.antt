use Rattle.office_commands.proofs.commands.at_file.ask_request.Goals as goal

pub returns-in-ShiftReport : goal.returns-in-ShiftReport
returns-in-ShiftReport g c = rw c.in-ShiftReport.is c.run.ensures
