use Rattle.std.proofs.Common.{rules}
use Rattle.sqlite.specs.Held.{state}
use Rattle.sqlite.specs.Values.{bound}
use Rattle.book_tables.specs.reading.Reading.{ShowsRecord}
use Rattle.one_table.proofs.ChangeLemmas.{transaction_off, transaction_on}
use Rattle.book_tables.proofs.WritingLemmas.CauseLemmas.{one_written}
use Rattle.book_tables.proofs.WritingLemmas.RefusalLemmas.{false_row, fails_to_merge, means_merging}
use Rattle.book_tables.proofs.writing.merge.merge.Goals as goal

pub returns-in_err-shown-clause-merged : goal.returns-in_err-shown-clause-merged
returns-in_err-shown-clause-merged g c = record {
  same_reference = search rules;
  transaction = transaction_off _ c.from_residual.result c.from_residual.ensures.1 c.in_err-shown.ensures.merged.transaction.kept
      c.in_err-shown.ensures.merged.transaction.survives;
  says = search rules;
}

pub returns-in_err-shown-clause-ends : goal.returns-in_err-shown-clause-ends
returns-in_err-shown-clause-ends g c clean way t at m is whole stands =
    let old = state g.S.Store c.args.tx.now.conn.now in
    let new = state g.S.Store c.upsert.new.tx.conn.now in
    fails_to_merge old new (ShowsRecord g.T.Record.shown g.T.Record.keeps) (record { sql = c.args.sql.now; params = bound c.args.params.now }) t m at c.in_err-shown.field-0.0
    c.from_residual.result c.from_residual.ensures.1 (λ runs. means_merging c.args.sql.now old.now.schema t at m is (stands runs))
    (c.in_err-shown.ensures.failed clean way t at m is whole stands)

pub returns-clause-ends : goal.returns-clause-ends
returns-clause-ends g c clean way t at m is whole stands = (
  one_written (record { sql = c.args.sql.now; params = bound c.args.params.now }) (state g.S.Store c.args.tx.now.conn.now)
      (state g.S.Store c.upsert.new.tx.conn.now) (c.in_ok-shown.ensures.ran clean t at m is stands).0,
  tt,
)

pub returns-in_err-shown-clause-false_row : goal.returns-in_err-shown-clause-false_row
returns-in_err-shown-clause-false_row g c clean way t at m is whole takes told_so =
    false_row t m (bound c.args.params.now) at (ShowsRecord g.T.Record.shown g.T.Record.keeps) c.in_err-shown.field-0.0
    c.from_residual.result c.from_residual.ensures.1 (c.in_err-shown.ensures.refused clean way t at m is whole takes) told_so

pub returns-clause-merged : goal.returns-clause-merged
returns-clause-merged g c = record {
  same_reference = search rules;
  transaction = transaction_on c.in_ok-shown.ensures.merged.transaction;
  says = c.in_ok-shown.ensures.merged.says;
}
