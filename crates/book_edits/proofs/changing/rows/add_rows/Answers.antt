use Rattle.std.proofs.Common.{◌≡◌, ◌∙◌, rules, arith, List, ◌∷◌, [], Ok, ap, append-nil, get_or, take, sym, subst}
use Rattle.std.specs.List.{flat_map}
use Rattle.std.proofs.lemmas.List.{take_all, take_more}
use Rattle.sqlite.specs.Held.{state}
use Rattle.sqlite.specs.State.{HasCleanDisk}
use Rattle.one_table.proofs.ChangeLemmas.{transaction_off, transaction_on, transaction_then}
use Rattle.book_tables.specs.writing.Failing.{FailsToWriteAll}
use Rattle.book_tables.specs.writing.Writes.{AreCarriedOut, Write, row_writes}
use Rattle.book_tables.proofs.WritingLemmas.CauseLemmas.{came_by, came_here, ends_off, of_later, written_then}
use Rattle.book_tables.proofs.WritingLemmas.TurnLemmas.{rest_after, with_next}
use Rattle.office_rules.specs.declared.office.row.Row.{Row}
use Rattle.book_states.specs.Changing.{MakesRows}
use Rattle.book_edits.proofs.ChangeLemmas.{makes_more, still_has, writes_more}
use Rattle.book_tables.proofs.ReadingLemmas.SeenLemmas.{none_of}
use Rattle.book_edits.proofs.changing.rows.add_rows.Goals as goal

pub others-init : goal.others-init
others-init g c =
    let old = state g.S.Store c.args.tx.now.conn.now in
    let new = state g.S.Store c.add_row.new.tx.conn.now in
    let first = c.in-Some.first.now in
    let all : c.args.rows.now ≡ first ∷ c.in-Some.others.now = search rules in
    record {
      same = search rules;
      transaction = transaction_on c.in_ok-add_row.ensures.added.transaction;
      added = λ clean way has. (first, all, c.in_ok-add_row.ensures.added.says clean has);
      written = λ clean way has. (
        first,
        all,
        subst (λ (l : List Write). AreCarriedOut l old new) (sym (append-nil (row_writes first)))
            (c.in_ok-add_row.ensures.ends clean way has).0,
      );
    }

pub others-preserved : goal.others-preserved
others-preserved g c =
    let old = state g.S.Store c.args.tx.now.conn.now in
    let mid = state g.S.Store c.others.tx.conn.now in
    let new = state g.S.Store c.add_row-in-others.new.tx.conn.now in
    let others = c.in-Some.others.now in
    let row = c.row-item.result in
    record {
      same = search rules;
      transaction = transaction_then old mid new (Ok tt) c.others.invariant.transaction (transaction_on c.in_ok-add_row-2.ensures.added.transaction);
      added = λ clean way has.
          let early : HasCleanDisk mid = omega (arith, c.add_row-in-others.ensures.added.transaction.survives.clean) in
          let so_far = c.others.invariant.added early way has in
          let first = so_far.0 in
          let last = c.in_ok-add_row-2.ensures.added.says clean (still_has (first ∷ take c.others.row-index others) old mid so_far.2
          (c.others.invariant.transaction.inside early way) has) in
          let it = get_or others c.others.row-index row in
          let more = makes_more (first ∷ take c.others.row-index others) it old.now mid.now new.now so_far.2
          (subst (λ (r : Row). MakesRows (r ∷ []) mid.now new.now) c.row-item.is last) in (
            first,
            so_far.1,
            subst (λ (l : List Row). MakesRows (first ∷ l) old.now new.now)
                (sym (take_more others c.others.row-index row c.others-test.true)) more,
          );
      written = λ clean way has.
          let i = c.others.row-index in
          let early : HasCleanDisk mid = omega (arith, c.add_row-in-others.ensures.added.transaction.survives.clean) in
          let so_far = c.others.invariant.added early way has in
          let inside = c.others.invariant.transaction.inside early way in
          let it = c.others.invariant.written early way has in
          let before = flat_map row_writes (it.0 ∷ take i others) in
          let came = came_by before old mid it.2 inside c.others.invariant.transaction.survives in
          let last = (c.in_ok-add_row-2.ensures.ends clean inside.mode (still_has (so_far.0 ∷ take i others) old mid so_far.2 inside has)).0 in
          let here = subst (λ (r : Row). AreCarriedOut (row_writes r) mid new) c.row-item.is last in
          let all = with_next (flat_map row_writes) (λ (rows : List Row) (r : Row). row_writes r) writes_more (it.0 ∷ []) others i row c.others-test.true in
          (it.0, it.1, subst (λ (l : List Write). AreCarriedOut l old new) all (written_then before (row_writes (get_or others i row)) old mid new came here));
    }

pub returns-in_default-clause-added : goal.returns-in_default-clause-added
returns-in_default-clause-added g c = record {
  same_reference = search rules;
  transaction = record { inside = λ _ _. tt; kept = λ clean way. search rules; survives = search rules };
  says = search rules;
}

pub returns-in_err-add_row-clause-added : goal.returns-in_err-add_row-clause-added
returns-in_err-add_row-clause-added g c = record {
  same_reference = search rules;
  transaction = transaction_off _ c.from_residual.result c.from_residual.ensures.1 c.in_err-add_row.ensures.added.transaction.kept
      c.in_err-add_row.ensures.added.transaction.survives;
  says = search rules;
}

pub returns-in_err-add_row-2-clause-added : goal.returns-in_err-add_row-2-clause-added
returns-in_err-add_row-2-clause-added g c = record {
  same_reference = search rules;
  transaction =
      let old = state g.S.Store c.args.tx.now.conn.now in
      let mid = state g.S.Store c.others.tx.conn.now in
      let new = state g.S.Store c.add_row-in-others.new.tx.conn.now in
      let r = c.from_residual-in_err-add_row-2.result in
      let failed = c.in_err-add_row-2.ensures.added.transaction in
      transaction_then old mid new r c.others.invariant.transaction
      (transaction_off _ r c.from_residual-in_err-add_row-2.ensures.1 failed.kept failed.survives);
  says = λ clean way has. none_of _ _ c.from_residual-in_err-add_row-2.result c.from_residual-in_err-add_row-2.ensures.1;
}

pub returns-in_err-add_row-clause-ends : goal.returns-in_err-add_row-clause-ends
returns-in_err-add_row-clause-ends g c clean way has some =
    let old = state g.S.Store c.args.tx.now.conn.now in
    let new = state g.S.Store c.add_row.new.tx.conn.now in
    let first = c.in-Some.first.now in
    let others = c.in-Some.others.now in
    let all : first ∷ others ≡ c.args.rows.now = search rules in
    let e = c.in_err-add_row.field-0.0 in
    ends_off FailsToWriteAll (flat_map row_writes c.args.rows.now) old new e c.from_residual.result c.from_residual.ensures.1
    (subst (λ (l : List Row). FailsToWriteAll (flat_map row_writes l) old new e) all
    (of_later [] old old new (came_here old way) (row_writes first) (flat_map row_writes others) e (c.in_err-add_row.ensures.ends clean way has).1))

pub returns-in_err-add_row-2-clause-ends : goal.returns-in_err-add_row-2-clause-ends
returns-in_err-add_row-2-clause-ends g c clean way has some =
    let old = state g.S.Store c.args.tx.now.conn.now in
    let mid = state g.S.Store c.others.tx.conn.now in
    let new = state g.S.Store c.add_row-in-others.new.tx.conn.now in
    let others = c.in-Some.others.now in
    let row = c.row-item.result in
    let i = c.others.row-index in
    let early : HasCleanDisk mid = omega (arith, c.add_row-in-others.ensures.added.transaction.survives.clean) in
    let so_far = c.others.invariant.added early way has in
    let inside = c.others.invariant.transaction.inside early way in
    let it = c.others.invariant.written early way has in
    let before = flat_map row_writes (it.0 ∷ take i others) in
    let came = came_by before old mid it.2 inside c.others.invariant.transaction.survives in
    let e = c.in_err-add_row-2.field-0.0 in
    let fails = (c.in_err-add_row-2.ensures.ends clean inside.mode (still_has (so_far.0 ∷ take i others) old mid so_far.2 inside has)).1 in
    let here = subst (λ (r : Row). FailsToWriteAll (row_writes r) mid new e) c.row-item.is fails in
    let rest = rest_after (flat_map row_writes) (λ (rows : List Row) (r : Row). row_writes r) writes_more (it.0 ∷ []) others i row c.others-test.true in
    ends_off FailsToWriteAll (flat_map row_writes c.args.rows.now) old new e c.from_residual-in_err-add_row-2.result c.from_residual-in_err-add_row-2.ensures.1
    (subst (λ (l : List Write). FailsToWriteAll l old new e) (rest.1 ∙ ap (λ (l : List Row). flat_map row_writes l) (sym it.1))
    (of_later before old mid new came (row_writes (get_or others i row)) rest.0 e here))

pub returns-clause-ends : goal.returns-clause-ends
returns-clause-ends g c clean way has some =
    let it = c.others.invariant.written clean way has in
    let all = ap (λ (l : List Row). it.0 ∷ l) (take_all c.others.row-index c.in-Some.others.now c.others-test.false) ∙ sym it.1 in (
      subst (λ (l : List Row). AreCarriedOut (flat_map row_writes l) (state g.S.Store c.args.tx.now.conn.now)
          (state g.S.Store c.others.tx.conn.now)) all it.2,
      tt,
    )

pub returns-clause-added : goal.returns-clause-added
returns-clause-added g c = record {
  same_reference = search rules;
  transaction = c.others.invariant.transaction;
  says = λ clean way has.
      let it = c.others.invariant.added clean way has in
      let all = ap (λ (l : List Row). it.0 ∷ l) (take_all c.others.row-index c.in-Some.others.now c.others-test.false) ∙ sym it.1 in
      subst (λ (l : List Row). MakesRows l (state g.S.Store c.args.tx.now.conn.now).now (state g.S.Store c.others.tx.conn.now).now) all it.2;
}

pub returns-in_err-add_row-clause-carried : goal.returns-in_err-add_row-clause-carried
returns-in_err-add_row-clause-carried g c clean way has = none_of _ _ c.from_residual.result c.from_residual.ensures.1

pub returns-in_err-add_row-2-clause-carried : goal.returns-in_err-add_row-2-clause-carried
returns-in_err-add_row-2-clause-carried g c clean way has = none_of _ _ c.from_residual-in_err-add_row-2.result c.from_residual-in_err-add_row-2.ensures.1

pub returns-clause-carried : goal.returns-clause-carried
returns-clause-carried g c clean way has =
    let it = c.others.invariant.written clean way has in
    let all = ap (λ (l : List Row). it.0 ∷ l) (take_all c.others.row-index c.in-Some.others.now c.others-test.false) ∙ sym it.1 in
    subst (λ (l : List Row). AreCarriedOut (flat_map row_writes l) (state g.S.Store c.args.tx.now.conn.now)
    (state g.S.Store c.others.tx.conn.now)) all it.2
