use Rattle.sqlite.specs.Held.{state}
use Rattle.sqlite.specs.Values.{bound}
use Rattle.one_table.proofs.ChangeLemmas.{if_ok}
use Rattle.book_tables.proofs.ReadingLemmas.ListingLemmas.{gives, only_asks, reads, sees}
use Rattle.book_lists.proofs.TariffListLemmas.{office_names, tariffs_after}
use Rattle.book_lists.proofs.tariffs.tariffs_after.Goals as goal

pub returns-clause-given : goal.returns-clause-given
returns-clause-given g c clean rows o has office are =
    let after = c.args.after.now in
    let lists = tariffs_after after in
    let old = state g.S.Store c.args.conn.now in
    let only = only_asks lists old (λ runs. (has runs).0) in
    let found = gives lists (λ found. found.items) old (state g.S.Store c.all_records.new.conn) rows has (o, office, are) c.all_records.result
    (bound c.text_values.result) c.text_values.ensures (c.all_records.ensures.reads.same clean only) (c.all_records.ensures.given clean only) in
    if_ok c.all_records.result (λ page first. office_names after rows o are page.items first) found

pub returns-clause-reads : goal.returns-clause-reads
returns-clause-reads g c =
    reads (tariffs_after c.args.after.now) (state g.S.Store c.args.conn.now) (state g.S.Store c.all_records.new.conn) c.all_records.result
    (bound c.text_values.result) c.text_values.ensures
    c.all_records.ensures.reads

pub returns-clause-sees : goal.returns-clause-sees
returns-clause-sees g c =
    sees (tariffs_after c.args.after.now) (λ found. found.items) (state g.S.Store c.args.conn.now) (state g.S.Store c.all_records.new.conn)
    c.all_records.result (bound c.text_values.result) c.text_values.ensures
    c.all_records.ensures.reads c.all_records.ensures.given
