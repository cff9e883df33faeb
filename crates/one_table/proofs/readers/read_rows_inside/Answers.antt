use Rattle.std.proofs.Common.{inl, subst, sym}
use Rattle.sqlite.specs.State.{Shown}
use Rattle.sqlite.specs.Values.{bound}
use Rattle.sqlite.specs.Held.{state}
use Rattle.one_table.specs.declared.read_fault.ReadFault.TheVariants.{Database}
use Rattle.one_table.proofs.AnswerLemmas.{stops_in}
use Rattle.one_table.proofs.ChangeLemmas.{if_err, transaction_into, transaction_off}
use Rattle.one_table.proofs.ReadsOnlyLemmas.{inside_fails, inside_into}
use Rattle.one_table.proofs.readers.read_rows_inside.Goals as goal

pub returns-in_err-rows-clause-reads : goal.returns-in_err-rows-clause-reads
returns-in_err-rows-clause-reads g c =
    let failed = c.in_err-rows.ensures.shown in
    record {
      same_reference = failed.same_reference;
      transaction = transaction_off (Database c.in_err-rows.field-0.0) c.from_residual.result c.from_residual.ensures.1
          failed.transaction.kept failed.transaction.survives;
      says = inside_fails c.args.sql.now (bound c.args.params.now) (state g.S.Store c.args.tx.now.conn.now)
          (state g.S.Store c.show.new.tx.conn.now) c.in_err-rows.field-0.0 (Database c.in_err-rows.field-0.0)
          c.from_residual.result c.from_residual.ensures.1 c.in_err-rows.ensures.refused inl;
    }

pub returns-clause-reads : goal.returns-clause-reads
returns-clause-reads g c =
    let old = state g.S.Store c.args.tx.now.conn.now in
    let new = state g.S.Store c.show.new.tx.conn.now in
    let done = c.in_ok-rows.ensures.shown in
    record {
      same_reference = done.same_reference;
      transaction = transaction_into c.values.result done.transaction;
      says = inside_into c.args.sql.now (bound c.args.params.now) old new c.deref.result.now c.values.result
          (λ clean. subst (Shown c.args.sql.now (bound c.args.params.now) old new) (sym c.deref.ensures.value) (done.says clean))
          (λ clean asks same. if_err c.values.result
          (stops_in g.X.FromRow.is_readable c.args.sql.now (bound c.args.params.now) old new asks _
          (subst (Shown c.args.sql.now (bound c.args.params.now) old new) (sym c.deref.ensures.value) (done.says clean)) same)
          c.values.ensures.faults);
    }
