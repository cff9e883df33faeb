use Rattle.std.proofs.Common.{rules}
use Rattle.sqlite.specs.Values.{bound}
use Rattle.sqlite.specs.Held.{state}
use Rattle.one_table.proofs.ChangeLemmas.{fails_to_run, keeps_failed, keeps_inside, transaction_off}
use Rattle.one_table.proofs.writing.run.Goals as goal

pub returns-in_err-execute-clause-ran : goal.returns-in_err-execute-clause-ran
returns-in_err-execute-clause-ran g c =
    let old = state g.S.Store c.args.tx.now.conn.now in
    let new = state g.S.Store c.execute.new.self.conn.now in
    record {
      same_reference = search rules;
      transaction = transaction_off _ c.from_residual.result c.from_residual.ensures.1
          (λ clean way. keeps_failed c.args.sql.now (bound c.args.params.now) old new c.in_err-execute.field-0.0
          (fails_to_run g.S.Store c.args.sql.now (bound c.args.params.now) c.args.tx.now.conn.now c.execute.new.self.conn.now
          c.in_err-execute.field-0.0 c.in_err-execute.ensures.ended (c.in_err-execute.ensures.runs clean)))
          c.execute.ensures.survives;
      says = search rules;
    }

pub returns-in_err-execute-clause-refused : goal.returns-in_err-execute-clause-refused
returns-in_err-execute-clause-refused g c clean =
    let fails = fails_to_run g.S.Store c.args.sql.now (bound c.args.params.now) c.args.tx.now.conn.now c.execute.new.self.conn.now
    c.in_err-execute.field-0.0 c.in_err-execute.ensures.ended (c.in_err-execute.ensures.runs clean) in
    search (rules, fails)

pub returns-clause-ran : goal.returns-clause-ran
returns-clause-ran g c =
    let old = state g.S.Store c.args.tx.now.conn.now in
    let new = state g.S.Store c.execute.new.self.conn.now in
    record {
      same_reference = search rules;
      transaction = record {
        inside = λ clean way. (c.in_ok-execute.ensures.runs clean way).1;
        kept = λ clean way. keeps_inside old new (c.in_ok-execute.ensures.runs clean way).1;
        survives = c.execute.ensures.survives;
      };
      says = search rules;
    }
