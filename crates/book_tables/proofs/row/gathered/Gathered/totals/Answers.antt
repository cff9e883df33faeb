use Rattle.book_tables.proofs.row.gathered.Gathered.totals.Goals as goal

pub returns : goal.returns
returns c = λ sales held. c.totals_under.ensures _ held.shift_totals
