use Rattle.std.proofs.Common.{rules, arith, [], ◌∷◌}
use Rattle.sqlite.specs.Held.{state}
use Rattle.sqlite.specs.State.{HasCleanDisk}
use Rattle.one_table.proofs.ChangeLemmas.{on_ok, transaction_off, transaction_then}
use Rattle.book_tables.proofs.WritingLemmas.BaseLemmas.{moves_both}
use Rattle.book_tables.proofs.WritingLemmas.OnlyLemmas.{tables_there}
use Rattle.book_tables.specs.writing.Failing.{FailsToWriteAll}
use Rattle.book_tables.specs.writing.Writes.{base_set, new_base}
use Rattle.book_tables.proofs.WritingLemmas.CauseLemmas.{came_by, came_here, ends_off, ends_then, of_store}
use Rattle.book_tables.proofs.writing.bases.move_base.Goals as goal

pub returns-in_err-set_base-clause-moved : goal.returns-in_err-set_base-clause-moved
returns-in_err-set_base-clause-moved g c = record {
  same_reference = search rules;
  transaction =
      transaction_off _ c.from_residual.result c.from_residual.ensures.1 c.in_err-set_base.ensures.writes.transaction.kept
      c.in_err-set_base.ensures.writes.transaction.survives;
  says = search rules;
}

pub returns-clause-moved : goal.returns-clause-moved
returns-clause-moved g c = record {
  same_reference = search rules;
  transaction =
      transaction_then (state g.S.Store c.args.tx.now.conn.now) (state g.S.Store c.set_base.new.tx.conn.now)
      (state g.S.Store c.add_base.new.tx.conn.now) c.add_base.result c.in_ok-set_base.ensures.writes.transaction c.add_base.ensures.writes.transaction;
  says = λ clean has.
      let old = state g.S.Store c.args.tx.now.conn.now in
      let mid = state g.S.Store c.set_base.new.tx.conn.now in
      let new = state g.S.Store c.add_base.new.tx.conn.now in
      let early : HasCleanDisk mid = omega (arith, c.add_base.ensures.writes.transaction.survives.clean) in
      let first = c.in_ok-set_base.ensures.writes.says.made early has in
      on_ok c.add_base.result (moves_both c.args.number.now c.args.base old mid new has first)
      (c.add_base.ensures.writes.says.made clean (tables_there _ old mid first.only has));
}

pub returns-in_err-set_base-clause-ends : goal.returns-in_err-set_base-clause-ends
returns-in_err-set_base-clause-ends g c clean way has =
    let old = state g.S.Store c.args.tx.now.conn.now in
    let new = state g.S.Store c.set_base.new.tx.conn.now in
    let first = base_set c.args.number.now c.args.base in
    let second = new_base c.args.number.now c.args.base in
    let e = c.in_err-set_base.field-0.0 in
    ends_off FailsToWriteAll (first ∷ second ∷ []) old new e c.from_residual.result c.from_residual.ensures.1
    (of_store [] old old new (came_here old way) first (second ∷ []) e (c.in_err-set_base.ensures.writes.says.ends clean has).1)

pub returns-clause-ends : goal.returns-clause-ends
returns-clause-ends g c clean way has =
    let old = state g.S.Store c.args.tx.now.conn.now in
    let mid = state g.S.Store c.set_base.new.tx.conn.now in
    let new = state g.S.Store c.add_base.new.tx.conn.now in
    let first = base_set c.args.number.now c.args.base in
    let early : HasCleanDisk mid = omega (arith, c.add_base.ensures.writes.transaction.survives.clean) in
    let done = c.in_ok-set_base.ensures.writes in
    let made = done.says.made early has in
    let came = came_by (first ∷ []) old mid (done.says.ends early has).0 made.only.inside done.transaction.survives in
    ends_then (first ∷ []) old mid new came (new_base c.args.number.now c.args.base) c.add_base.result
    (c.add_base.ensures.writes.says.ends clean (tables_there _ old mid made.only has))
