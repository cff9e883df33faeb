use Rattle.std.proofs.Common.{arith, refl}
use Rattle.sqlite.specs.Values.{bound}
use Rattle.sqlite.specs.Held.{state}
use Rattle.one_table.proofs.AnswerLemmas.{has_asked}
use Rattle.one_table.proofs.ReadsOnlyLemmas.{asked, fail_on, not_open}
use Rattle.one_table.proofs.readers.answer.Goals as goal

pub returns-in_err-test_open-clause-reads : goal.returns-in_err-test_open-clause-reads
returns-in_err-test_open-clause-reads g c =
    fail_on c.from_residual.result c.from_residual.ensures.1
    (not_open c.args.sql.now (bound c.args.params.now) (state g.S.Store c.args.conn.now) (state g.S.Store c.test_open.new.conn)
    c.in_err-test_open.field-0.0 c.in_err-test_open.ensures.faults c.test_open.ensures.mode
    c.test_open.ensures.survives)

pub returns-clause-given : goal.returns-clause-given
returns-clause-given g c clean asks =
    let same = c.in_ok-test_open.ensures.same (omega (arith, c.query_all.ensures.survives.clean)) in
    (has_asked (λ v. v.items) c.args.sql.now c.args.sql.now (bound c.args.params.now) (state g.S.Store c.args.conn.now)
    (state g.S.Store c.test_open.new.conn) (state g.S.Store c.query_all.new.self)
    c.query_all.result asks refl same c.test_open.ensures.survives (c.query_all.ensures.ok clean) (c.query_all.ensures.err clean)).given

pub returns-clause-reads : goal.returns-clause-reads
returns-clause-reads g c =
    asked c.args.sql.now (bound c.args.params.now) (state g.S.Store c.args.conn.now) (state g.S.Store c.query_all.new.self) (λ v. v.items)
    c.args.sql.now (state g.S.Store c.test_open.new.conn) c.query_all.result
    (λ clean. (refl, c.in_ok-test_open.ensures.same clean)) c.test_open.ensures.survives c.query_all.ensures.survives
    (λ out. c.query_all.ensures.mode (c.test_open.ensures.mode out)) c.query_all.ensures.ok c.query_all.ensures.err
