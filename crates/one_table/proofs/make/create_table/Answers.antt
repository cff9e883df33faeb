use Rattle.sqlite.specs.Held.{state}
use Rattle.one_table.proofs.ChangeLemmas.{on_ok}
use Rattle.one_table.proofs.CreationLemmas.{executes_as}
use Rattle.one_table.proofs.make.create_table.Goals as goal

pub returns-clause-added : goal.returns-clause-added
returns-clause-added g c = record {
  same_reference = c.run.ensures.ran.same_reference;
  transaction = c.run.ensures.ran.transaction;
  says = λ clean t defined.
      on_ok c.run.result (λ ran. executes_as (state g.S.Store c.args.tx.now.conn.now) (state g.S.Store c.run.new.tx.conn.now)
      c.args.text.now _ ran.0 t c.requires defined ran.1.0) (c.run.ensures.ran.says clean);
}

pub returns-clause-inside : goal.returns-clause-inside
returns-clause-inside g c clean = on_ok c.run.result (λ ran. ran.1.1) (c.run.ensures.ran.says clean)
