use Rattle.records.proofs.ReadLemmas.{quoted_cell}
use Rattle.records.proofs.reading.cell_at.Goals as goal

pub returns-in-Some : goal.returns-in-Some
returns-in-Some c = quoted_cell c.args.text.now c.in-Some.quoted.now c.quoted_at.result c.in-Some.ensures c.quoted_at.ensures
