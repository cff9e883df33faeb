use Rattle.std.proofs.Common.{rules}
use Rattle.sqlite.specs.Values.{bound}
use Rattle.sqlite.specs.Held.{state}
use Rattle.one_table.proofs.ReadsOnlyLemmas.{showing}
use Rattle.one_table.proofs.writing.show.Goals as goal

pub returns-clause-shown : goal.returns-clause-shown
returns-clause-shown g c = record {
  same_reference = search rules;
  transaction = showing c.args.sql.now (bound c.args.params.now) (state g.S.Store c.args.tx.now.conn.now)
      (state g.S.Store c.query_all.new.self.conn.now) (λ v. v.items) c.query_all.result c.query_all.ensures.ok
      c.query_all.ensures.err c.query_all.ensures.survives;
  says = search rules;
}
