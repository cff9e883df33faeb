use Rattle.desk_commands.proofs.print.found.put_found.Goals as goal

pub returns-in-Meter : goal.returns-in-Meter
returns-in-Meter g c = rw (c.in-Meter.is, c.if-json.false) c.put_meter.ensures
