use Rattle.office_commands.proofs.commands.at_file.ask_one.Goals as goal

pub returns-in-Receipt : goal.returns-in-Receipt
returns-in-Receipt g c = rw c.in-Receipt.is c.run.ensures
