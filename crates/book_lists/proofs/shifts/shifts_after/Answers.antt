use Rattle.sqlite.specs.Held.{state}
use Rattle.sqlite.specs.Values.{bound}
use Rattle.book_tables.proofs.ReadingLemmas.ListingLemmas.{gives, only_asks, reads, sees}
use Rattle.book_lists.specs.Pages.{page_size}
use Rattle.book_lists.proofs.ShiftListLemmas.{shifts_after}
use Rattle.book_lists.proofs.shifts.shifts_after.Goals as goal

pub returns-clause-given : goal.returns-clause-given
returns-clause-given g c clean rows has of_office =
    let lists = shifts_after c.args.number page_size in
    let old = state g.S.Store c.args.conn.now in
    let only = only_asks lists old (λ runs. (has runs).0) in
    gives lists (λ found. found.items) old (state g.S.Store c.all_records.new.conn) rows has of_office c.all_records.result
    (bound c.number_values.result) c.number_values.ensures (c.all_records.ensures.reads.same clean only) (c.all_records.ensures.given clean only)

pub returns-clause-reads : goal.returns-clause-reads
returns-clause-reads g c =
    reads (shifts_after c.args.number page_size) (state g.S.Store c.args.conn.now) (state g.S.Store c.all_records.new.conn)
    c.all_records.result (bound c.number_values.result) c.number_values.ensures
    c.all_records.ensures.reads

pub returns-clause-sees : goal.returns-clause-sees
returns-clause-sees g c =
    sees (shifts_after c.args.number page_size) (λ found. found.items) (state g.S.Store c.args.conn.now)
    (state g.S.Store c.all_records.new.conn) c.all_records.result (bound c.number_values.result) c.number_values.ensures
    c.all_records.ensures.reads c.all_records.ensures.given
