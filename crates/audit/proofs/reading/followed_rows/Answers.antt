use Rattle.std.proofs.Common.{Err, refl, subst, sym}
use Rattle.sqlite.specs.Held.{state}
use Rattle.one_table.proofs.ReadsOnlyLemmas.{stop_on}
use Rattle.audit.specs.Fails.{IsNoOffices, StopsBy}
use Rattle.audit.proofs.PassedLemmas.{none_passed, rows_passed}
use Rattle.audit.proofs.ShownLemmas.{office_rows_of, office_stops}
use Rattle.audit.proofs.reading.followed_rows.Goals as goal

pub returns-in-Ok-test_office-clause-given : goal.returns-in-Ok-test_office-clause-given
returns-in-Ok-test_office-clause-given g c clean has =
    let db = (state g.S.Store c.args.conn.now).now in
    let told = c.in-Ok.ensures.given clean has in
    office_rows_of c.args.format db c.in-Ok.rows (has (c.in-Ok.ensures.reads.same clean has).0.was_open).0 told
    (c.office_law.ensures.shows c.args.format db c.in-Ok.rows told.read c.in-Ok-test_office.ensures.passes)
    (λ in_order k kept. c.order_law.ensures.stands db k.table in_order kept.0) c.stored_law.ensures.stands c.stored_law.ensures.only

pub returns-in-Err-test_office-clause-reads : goal.returns-in-Err-test_office-clause-reads
returns-in-Err-test_office-clause-reads g c =
    let old = state g.S.Store c.args.conn.now in
    let new = state g.S.Store c.read_told.new.conn in
    stop_on c.fault_of.result (Err c.fault_of.result) refl c.in-Ok.ensures.reads (λ clean has.
    subst (StopsBy IsNoOffices old new) (sym c.fault_of.ensures)
    (office_stops c.args.format c.in-Ok.rows c.in-Err-test_office.fault c.in-Err-test_office.ensures.found
    (c.in-Ok.ensures.given clean has) c.office_law.ensures.none (c.in-Ok.ensures.reads.same clean has)))

pub returns-in-Err-clause-told : goal.returns-in-Err-clause-told
returns-in-Err-clause-told g c clean has = (none_passed g.F.Follows.told c.args.follower.now (state g.S.Store c.args.conn.now).now, tt)

pub returns-in-Ok-test_office-clause-told : goal.returns-in-Ok-test_office-clause-told
returns-in-Ok-test_office-clause-told g c clean has =
    let rows = c.passed in
    let ties = c.passed-in-Ok-test_office in
    (tt, (rows.new.self, rows.ensures, (ties.new.self, ties.ensures, refl)))

pub returns-in-Err-test_office-clause-told : goal.returns-in-Err-test_office-clause-told
returns-in-Err-test_office-clause-told g c clean has = (
  rows_passed g.F.Follows.told c.args.follower.now c.passed.new.self (state g.S.Store c.args.conn.now).now c.args.format c.in-Ok.rows
      c.passed.ensures (c.in-Ok.ensures.given clean has),
  tt,
)
