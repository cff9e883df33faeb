use Rattle.records.proofs.ReadLemmas.{named_cell}
use Rattle.records.proofs.reading.member_at.Goals as goal

pub returns-in-Some : goal.returns-in-Some
returns-in-Some c = named_cell c.args.later c.args.name.now c.args.text.now c.in-Some.rest.now c.cell_at.result c.in-Some.ensures c.cell_at.ensures
