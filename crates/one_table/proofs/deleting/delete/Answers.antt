use Rattle.std.proofs.Common.{[], None}
use Rattle.sqlite.specs.Values.{bound}
use Rattle.sqlite.specs.Held.{state}
use Rattle.one_table.proofs.ChangeLemmas.{if_err, on_ok, ran_inside}
use Rattle.one_table.proofs.DeleteLemmas.{removes_rows}
use Rattle.one_table.specs.Deleting.{delete_as}
use Rattle.one_table.proofs.DeleteTextLemmas.{deletes}
use Rattle.one_table.proofs.RefusalLemmas.{fails_to_write, delete_changes}
use Rattle.one_table.proofs.deleting.delete.Goals as goal

pub returns-clause-changed : goal.returns-clause-changed
returns-clause-changed g c = record {
  same_reference = c.run.ensures.ran.same_reference;
  transaction = c.run.ensures.ran.transaction;
  says = λ clean t at q is has.
      on_ok c.run.result (λ ran. removes_rows c.args.sql.now (bound c.args.params.now) (state g.S.Store c.args.tx.now.conn.now)
      (state g.S.Store c.run.new.tx.conn.now) t at q is has ran.0 ran.1) (c.run.ensures.ran.says clean);
}

pub returns-clause-refused : goal.returns-clause-refused
returns-clause-refused g c clean t at q is whole has =
    let old = state g.S.Store c.args.tx.now.conn.now in
    if_err c.run.result
    (fails_to_write c.args.sql.now (bound c.args.params.now) old (state g.S.Store c.run.new.tx.conn.now) (delete_as at q)
    (delete_changes at (record { lets = []; body = q })) (λ runs. deletes old.now.schema at t (has runs) q c.args.sql.now is)
    whole)
    (c.run.ensures.refused clean)

pub returns-clause-ran : goal.returns-clause-ran
returns-clause-ran g c clean t at q is has =
    let old = state g.S.Store c.args.tx.now.conn.now in
    let new = state g.S.Store c.run.new.tx.conn.now in
    on_ok c.run.result (λ ran. let it = ran_inside c.args.sql.now (bound c.args.params.now) old new (delete_as at q)
    (λ runs. deletes old.now.schema at t (has runs) q c.args.sql.now is) ran.0 ran.1 in
    record { command = delete_as at q; shows = None; means = it.0; tally = it.1.tally; does = it.1.changed })
    (c.run.ensures.ran.says clean)
