use Rattle.office_commands.proofs.commands.at_file.run.Goals as goal

pub returns-in-Export : goal.returns-in-Export
returns-in-Export g c = rw c.in-Export.is (c.leave-in-Export.ensures, c.run-in-Export.ensures)
