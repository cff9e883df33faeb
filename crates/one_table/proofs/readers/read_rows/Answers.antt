use Rattle.std.proofs.Common.{inl, subst, sym}
use Rattle.sqlite.specs.State.{Shown}
use Rattle.sqlite.specs.Values.{bound}
use Rattle.sqlite.specs.Held.{state}
use Rattle.one_table.specs.declared.read_fault.ReadFault.TheVariants.{Database}
use Rattle.one_table.proofs.AnswerLemmas.{stops_in}
use Rattle.one_table.proofs.ChangeLemmas.{if_err}
use Rattle.one_table.proofs.ReadsOnlyLemmas.{fail_as, read_into}
use Rattle.one_table.proofs.readers.read_rows.Goals as goal

pub returns-in_err-rows-clause-reads : goal.returns-in_err-rows-clause-reads
returns-in_err-rows-clause-reads g c = fail_as (Database c.in_err-rows.field-0.0) c.from_residual.result c.from_residual.ensures.1
    c.in_err-rows.ensures.reads inl

pub returns-clause-reads : goal.returns-clause-reads
returns-clause-reads g c =
    read_into c.values.result c.in_ok-rows.ensures.reads
    (λ clean asks.
    let old = state g.S.Store c.args.conn.now in
    let new = state g.S.Store c.answer.new.conn in
    let shown = subst (Shown c.args.sql.now (bound c.args.params.now) old new) (sym c.deref.ensures.value) (c.in_ok-rows.ensures.given clean asks) in
    if_err c.values.result (stops_in g.X.FromRow.is_readable c.args.sql.now (bound c.args.params.now) old new asks _ shown
    (c.in_ok-rows.ensures.reads.same clean asks)) c.values.ensures.faults)
