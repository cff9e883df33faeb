use Rattle.std.proofs.Common.{refl, inr}
use Rattle.sqlite.specs.Values.{bound}
use Rattle.sqlite.specs.Held.{state}
use Rattle.one_table.specs.ReadFaults.{no_memory}
use Rattle.one_table.proofs.ReadsOnlyLemmas.{fail_as, read_on, stop_on}
use Rattle.book_tables.specs.reading.Reading.{told}
use Rattle.book_tables.proofs.ReadingLemmas.ListingLemmas.{gives_records}
use Rattle.book_tables.proofs.reading.lists.all_records.Goals as goal

pub returns-in_err-shown-clause-reads : goal.returns-in_err-shown-clause-reads
returns-in_err-shown-clause-reads g c =
    fail_as (told c.in_err-shown.field-0.0) c.from_residual.result c.from_residual.ensures.1 c.in_err-shown.ensures.reads
    (λ fails. (c.in_err-shown.field-0.0, refl, fails))

pub returns-in_err-records_of-clause-reads : goal.returns-in_err-records_of-clause-reads
returns-in_err-records_of-clause-reads g c =
    stop_on (told no_memory) c.from_residual-in_err-records_of.result c.from_residual-in_err-records_of.ensures.1 c.in_ok-shown.ensures.reads
    (λ clean asks. (no_memory, refl, inr (refl, c.in_ok-shown.ensures.reads.same clean asks)))

pub returns-clause-given : goal.returns-clause-given
returns-clause-given g c clean asks =
    let old = state g.S.Store c.args.conn.now in
    let new = state g.S.Store c.read_rows.new.conn in
    gives_records g.T.Record.shown g.T.Record.keeps c.args.sql.now (bound c.args.params.now) old new (λ s. s.record)
    c.in_ok-shown.shown.items c.in_ok-records_of.field-0.items
    c.in_ok-records_of.ensures (c.in_ok-shown.ensures.given clean asks)

pub returns-clause-reads : goal.returns-clause-reads
returns-clause-reads g c = read_on c.in_ok-shown.ensures.reads
