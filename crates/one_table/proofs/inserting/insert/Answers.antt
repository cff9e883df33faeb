use Rattle.std.proofs.Common.{None}
use Rattle.sqlite.specs.Values.{bound}
use Rattle.sqlite.specs.Held.{state}
use Rattle.one_table.proofs.ChangeLemmas.{if_err, on_ok, ran_inside}
use Rattle.one_table.proofs.InsertLemmas.{puts_row}
use Rattle.one_table.specs.Inserting.{insert_as, source_of_row}
use Rattle.one_table.proofs.InsertTextLemmas.{inserts}
use Rattle.one_table.proofs.RefusalLemmas.{fails_to_write, insert_changes}
use Rattle.one_table.proofs.inserting.insert.Goals as goal

pub returns-clause-added : goal.returns-clause-added
returns-clause-added g c = record {
  same_reference = c.run.ensures.ran.same_reference;
  transaction = c.run.ensures.ran.transaction;
  says = λ clean t at terms is has.
      on_ok c.run.result (λ ran. puts_row c.args.sql.now (bound c.args.params.now) (state g.S.Store c.args.tx.now.conn.now)
      (state g.S.Store c.run.new.tx.conn.now) t at terms is has ran.0 ran.1) (c.run.ensures.ran.says clean);
}

pub returns-clause-refused : goal.returns-clause-refused
returns-clause-refused g c clean t at terms is whole has =
    let old = state g.S.Store c.args.tx.now.conn.now in
    if_err c.run.result
    (fails_to_write c.args.sql.now (bound c.args.params.now) old (state g.S.Store c.run.new.tx.conn.now) (insert_as at t terms)
    (insert_changes at (source_of_row t terms)) (λ runs. inserts old.now.schema at t (has runs) terms c.args.sql.now is)
    whole)
    (c.run.ensures.refused clean)

pub returns-clause-ran : goal.returns-clause-ran
returns-clause-ran g c clean t at terms is has =
    let old = state g.S.Store c.args.tx.now.conn.now in
    let new = state g.S.Store c.run.new.tx.conn.now in
    on_ok c.run.result (λ ran. let it = ran_inside c.args.sql.now (bound c.args.params.now) old new (insert_as at t terms)
    (λ runs. inserts old.now.schema at t (has runs) terms c.args.sql.now is) ran.0 ran.1 in
    record { command = insert_as at t terms; shows = None; means = it.0; tally = it.1.tally; does = it.1.changed })
    (c.run.ensures.ran.says clean)
