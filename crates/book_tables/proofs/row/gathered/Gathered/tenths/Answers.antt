use Rattle.book_tables.proofs.row.gathered.Gathered.tenths.Goals as goal

pub returns : goal.returns
returns c = λ sales held. c.tenths_under.ensures _ held.month_tenths
