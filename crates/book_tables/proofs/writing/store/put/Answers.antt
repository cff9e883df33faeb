use Rattle.std.proofs.Common.{rules}
use Rattle.sqlite.specs.Held.{state}
use Rattle.sqlite.specs.Values.{bound}
use Rattle.one_table.proofs.InsertTextLemmas.{inserts}
use Rattle.one_table.proofs.ChangeLemmas.{transaction_off, transaction_on}
use Rattle.one_table.specs.Inserting.{insert_as}
use Rattle.book_tables.proofs.WritingLemmas.CauseLemmas.{one_written}
use Rattle.book_tables.proofs.WritingLemmas.RefusalLemmas.{fails_to_store}
use Rattle.book_tables.proofs.writing.store.put.Goals as goal

pub returns-in_err-insert-clause-added : goal.returns-in_err-insert-clause-added
returns-in_err-insert-clause-added g c = record {
  same_reference = search rules;
  transaction = transaction_off _ c.from_residual.result c.from_residual.ensures.1 c.in_err-insert.ensures.added.transaction.kept
      c.in_err-insert.ensures.added.transaction.survives;
  says = search rules;
}

pub returns-in_err-insert-clause-ends : goal.returns-in_err-insert-clause-ends
returns-in_err-insert-clause-ends g c clean t at terms is whole has =
    let old = state g.S.Store c.args.tx.now.conn.now in
    fails_to_store (record { sql = c.args.sql.now; params = bound c.args.params.now }) (insert_as at t terms) c.from_residual.result
    c.from_residual.ensures.1 (λ runs. inserts old.now.schema at t (has runs) terms c.args.sql.now is)
    (c.in_err-insert.ensures.refused clean t at terms is whole has)

pub returns-clause-ends : goal.returns-clause-ends
returns-clause-ends g c clean t at terms is whole has = (
  one_written (record { sql = c.args.sql.now; params = bound c.args.params.now }) (state g.S.Store c.args.tx.now.conn.now)
      (state g.S.Store c.insert.new.tx.conn.now) (c.in_ok-insert.ensures.ran clean t at terms is has),
  tt,
)

pub returns-clause-added : goal.returns-clause-added
returns-clause-added g c = record {
  same_reference = search rules;
  transaction = transaction_on c.in_ok-insert.ensures.added.transaction;
  says = c.in_ok-insert.ensures.added.says;
}
