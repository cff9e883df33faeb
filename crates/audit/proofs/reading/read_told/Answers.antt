use Rattle.sqlite.specs.Held.{state}
use Rattle.one_table.proofs.ReadsOnlyLemmas.{fail_as}
use Rattle.audit.specs.Fails.{IsNoOffices}
use Rattle.audit.proofs.ToldLemmas.{reads_told, stops_more, told_read}
use Rattle.audit.proofs.reading.read_told.Goals as goal

pub returns-clause-given : goal.returns-clause-given
returns-clause-given g c =
    told_read c.args.format c.requires.some c.requires.known (state g.S.Store c.args.conn.now) (state g.S.Store c.test_told.new.conn)
    (state g.S.Store c.read_office_rows.new.conn) c.read_office_rows.result c.in_ok-test_told.ensures.reads
    (g.met.S.Store.shut_if_dirty c.test_told.new.conn.store) c.read_office_rows.ensures.reads c.in_ok-test_told.ensures.tells c.read_office_rows.ensures.given

pub returns-clause-reads : goal.returns-clause-reads
returns-clause-reads g c =
    reads_told c.args.format c.requires.some c.requires.known (state g.S.Store c.args.conn.now) (state g.S.Store c.test_told.new.conn)
    (state g.S.Store c.read_office_rows.new.conn) c.read_office_rows.result c.in_ok-test_told.ensures.reads
    (g.met.S.Store.shut_if_dirty c.test_told.new.conn.store) c.read_office_rows.ensures.reads c.in_ok-test_told.ensures.tells c.rows_law.ensures.breaks
    c.rows_law.ensures.no_format

pub returns-in_err-test_told-clause-reads : goal.returns-in_err-test_told-clause-reads
returns-in_err-test_told-clause-reads g c =
    let fault = c.in_err-test_told.field-0.0 in
    fail_as fault c.from_residual.result c.from_residual.ensures.1 c.in_err-test_told.ensures.reads
    (stops_more (λ _ _. ⊥) IsNoOffices (state g.S.Store c.args.conn.now) (state g.S.Store c.test_told.new.conn) fault (λ f none. absurd none))
