use Rattle.book_tables.proofs.row.gathered.Gathered.last_id.Goals as goal

pub returns : goal.returns
returns c = λ sales held. c.id_under.ensures _ held.last_ids
