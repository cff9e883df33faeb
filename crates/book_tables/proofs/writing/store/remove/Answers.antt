use Rattle.std.proofs.Common.{rules}
use Rattle.sqlite.specs.Held.{state}
use Rattle.sqlite.specs.Values.{bound}
use Rattle.one_table.proofs.DeleteTextLemmas.{deletes}
use Rattle.one_table.proofs.ChangeLemmas.{transaction_off, transaction_on}
use Rattle.one_table.specs.Deleting.{delete_as}
use Rattle.book_tables.proofs.WritingLemmas.CauseLemmas.{one_written}
use Rattle.book_tables.proofs.WritingLemmas.RefusalLemmas.{fails_to_store}
use Rattle.book_tables.proofs.writing.store.remove.Goals as goal

pub returns-in_err-delete-clause-changed : goal.returns-in_err-delete-clause-changed
returns-in_err-delete-clause-changed g c = record {
  same_reference = search rules;
  transaction = transaction_off _ c.from_residual.result c.from_residual.ensures.1 c.in_err-delete.ensures.changed.transaction.kept
      c.in_err-delete.ensures.changed.transaction.survives;
  says = search rules;
}

pub returns-in_err-delete-clause-ends : goal.returns-in_err-delete-clause-ends
returns-in_err-delete-clause-ends g c clean t at q is whole has =
    let old = state g.S.Store c.args.tx.now.conn.now in
    fails_to_store (record { sql = c.args.sql.now; params = bound c.args.params.now }) (delete_as at q) c.from_residual.result
    c.from_residual.ensures.1 (λ runs. deletes old.now.schema at t (has runs) q c.args.sql.now is)
    (c.in_err-delete.ensures.refused clean t at q is whole has)

pub returns-clause-ends : goal.returns-clause-ends
returns-clause-ends g c clean t at q is whole has = (
  one_written (record { sql = c.args.sql.now; params = bound c.args.params.now }) (state g.S.Store c.args.tx.now.conn.now)
      (state g.S.Store c.delete.new.tx.conn.now) (c.in_ok-delete.ensures.ran clean t at q is has),
  tt,
)

pub returns-clause-changed : goal.returns-clause-changed
returns-clause-changed g c = record {
  same_reference = search rules;
  transaction = transaction_on c.in_ok-delete.ensures.changed.transaction;
  says = c.in_ok-delete.ensures.changed.says;
}
