use Rattle.sqlite.specs.Held.{state}
use Rattle.sqlite.specs.Values.{bound}
use Rattle.one_table.proofs.ChangeLemmas.{if_ok}
use Rattle.book_tables.proofs.ReadingLemmas.DatedDayLemmas.{first_day_is, first_day_until}
use Rattle.book_tables.proofs.ReadingLemmas.FindLemmas.{gives, only_asks, reads, sees}
use Rattle.book_tables.proofs.reading.dated_steps.first_day_until.Goals as goal

pub returns-clause-given : goal.returns-clause-given
returns-clause-given g c clean rows o has office are =
    let finds = first_day_until c.args.name.now c.args.day c.store_law.ensures.greatest in
    let old = state g.S.Store c.args.conn.now in
    let only = only_asks finds old (λ runs. (has runs).0) in
    let found = gives finds old (state g.S.Store c.first_record.new.conn) rows has (o, office, are) c.first_record.result
    (bound c.dated_values.result) c.dated_values.ensures (c.first_record.ensures.reads.same clean only) (c.first_record.ensures.given clean only) in
    if_ok c.first_record.result (first_day_is c.args.name.now c.args.day c.store_law.ensures.greatest rows o office are) found

pub returns-clause-reads : goal.returns-clause-reads
returns-clause-reads g c =
    reads (first_day_until c.args.name.now c.args.day c.store_law.ensures.greatest) (state g.S.Store c.args.conn.now)
    (state g.S.Store c.first_record.new.conn) c.first_record.result (bound c.dated_values.result) c.dated_values.ensures
    c.first_record.ensures.reads

pub returns-clause-sees : goal.returns-clause-sees
returns-clause-sees g c =
    sees (first_day_until c.args.name.now c.args.day c.store_law.ensures.greatest) (state g.S.Store c.args.conn.now)
    (state g.S.Store c.first_record.new.conn) c.first_record.result (bound c.dated_values.result) c.dated_values.ensures
    c.first_record.ensures.reads c.first_record.ensures.given
