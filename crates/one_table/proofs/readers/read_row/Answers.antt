use Rattle.std.proofs.Common.{inl, sym, subst}
use Rattle.sqlite.specs.State.{Shown}
use Rattle.sqlite.specs.Values.{bound}
use Rattle.sqlite.specs.Held.{state}
use Rattle.one_table.specs.declared.read_fault.ReadFault.TheVariants.{Database}
use Rattle.one_table.proofs.AnswerLemmas.{only_where, stops_in}
use Rattle.one_table.proofs.ReadsOnlyLemmas.{fail_as, read_on, stop_on}
use Rattle.one_table.proofs.readers.read_row.Goals as goal

pub returns-in_err-rows-clause-reads : goal.returns-in_err-rows-clause-reads
returns-in_err-rows-clause-reads g c = fail_as (Database c.in_err-rows.field-0.0) c.from_residual.result c.from_residual.ensures.1
    c.in_err-rows.ensures.reads inl

pub returns-in_err-from_row-in-Some-clause-reads : goal.returns-in_err-from_row-in-Some-clause-reads
returns-in_err-from_row-in-Some-clause-reads g c =
    stop_on c.in_err-from_row-in-Some.field-0.0 c.from_residual-in_err-from_row-in-Some.result
    c.from_residual-in_err-from_row-in-Some.ensures.1 c.in_ok-rows.ensures.reads
    (λ clean asks.
    let old = state g.S.Store c.args.conn.now in
    let new = state g.S.Store c.answer.new.conn in
    let here = c.in-Some.ensures.item in
    let shown = subst (Shown c.args.sql.now (bound c.args.params.now) old new) (sym c.deref.ensures.value) (c.in_ok-rows.ensures.given clean asks) in
    stops_in g.X.FromRow.is_readable c.args.sql.now (bound c.args.params.now) old new asks _ shown
    (c.in_ok-rows.ensures.reads.same clean asks) c.in_err-from_row-in-Some.field-0.0
    (only_where c.in_err-from_row-in-Some.field-0.0 (λ bad. (0, c.in-Some.row.now, here.3.0, sym here.1, bad)) c.in_err-from_row-in-Some.ensures.err))

pub returns-in-Some-clause-reads : goal.returns-in-Some-clause-reads
returns-in-Some-clause-reads g c = read_on c.in_ok-rows.ensures.reads
