use Rattle.std.proofs.Common.{rules, arith, ◌≡◌, ℕ, [], ◌∷◌, ◌∙◌, ap, sym, subst, get_or, take, length, List, None, Ok}
use Rattle.sqlite.specs.Held.{state}
use Rattle.sqlite.specs.State.{HasCleanDisk}
use Rattle.std.proofs.lemmas.List.{length-take-le, take_all, take_more}
use Rattle.tariff.specs.declared.step.Step.{Step}
use Rattle.one_table.proofs.ChangeLemmas.{transaction_off, transaction_on, transaction_then}
use Rattle.book_tables.specs.writing.Writing.{AddsSteps}
use Rattle.book_tables.proofs.WritingLemmas.DatedWriteLemmas.{adds_first, adds_next}
use Rattle.book_tables.proofs.WritingLemmas.OnlyLemmas.{tables_there}
use Rattle.book_tables.specs.writing.Edited.{dated_row}
use Rattle.book_tables.specs.writing.Failing.{FailsToStore, FailsToWriteAll}
use Rattle.book_tables.specs.writing.Writes.{AreCarriedOut, Write, new_dated, steps_writes}
use Rattle.book_tables.proofs.WritingLemmas.CauseLemmas.{came_by, came_here, ends_off, of_store, written_then}
use Rattle.book_tables.proofs.WritingLemmas.TurnLemmas.{dated_block, rest_after, steps_more, with_next}
use Rattle.book_tables.proofs.ReadingLemmas.SeenLemmas.{none_of}
use Rattle.book_tables.proofs.writing.dated_steps.add_steps.Goals as goal

pub others-init : goal.others-init
others-init g c =
    let first = c.in-Some.first.now in
    let all : c.args.steps.now ≡ first ∷ c.in-Some.others.now = search rules in
    record {
      same = search rules;
      place = search rules;
      transaction = transaction_on c.in_ok-add_dated_step.ensures.writes.transaction;
      added = λ clean has.
          let adds = c.in_ok-add_dated_step.ensures.writes.says.made clean has in (
            first,
            all,
            adds_first c.args.name.now c.args.day first (state g.S.Store c.args.tx.now.conn.now)
                (state g.S.Store c.add_dated_step.new.tx.conn.now) adds,
          );
      written = λ clean has. (first, all, (c.in_ok-add_dated_step.ensures.writes.says.ends clean has).0);
    }

pub others-preserved : goal.others-preserved
others-preserved g c =
    let old = state g.S.Store c.args.tx.now.conn.now in
    let mid = state g.S.Store c.others.tx.conn.now in
    let new = state g.S.Store c.add_dated_step-in-others.new.tx.conn.now in
    let name = c.args.name.now in
    let others = c.in-Some.others.now in
    record {
      same = search rules;
      place = search rules;
      transaction = transaction_then old mid new (Ok tt) c.others.invariant.transaction (transaction_on c.in_ok-add_dated_step-2.ensures.writes.transaction);
      added = λ clean has.
          let early : HasCleanDisk mid = omega (arith, c.add_dated_step-in-others.ensures.writes.transaction.survives.clean) in
          let so_far = c.others.invariant.added early has in
          let first = so_far.0 in
          let last = c.in_ok-add_dated_step-2.ensures.writes.says.made clean (tables_there _ old mid so_far.2.only has) in
          let step = get_or others c.others.step-index (record { ends = None; price = 0 }) in
          let count : c.others.place ≡ length (first ∷ take c.others.step-index others) =
          omega (arith, length-take-le c.others.step-index others (omega (arith, c.others-test.true)), c.others.invariant.place) in
          let more = adds_next name c.args.day (first ∷ take c.others.step-index others) c.others.place step old mid new count so_far.2 last in (
            first,
            so_far.1,
            subst (λ (l : List Step). AddsSteps name c.args.day (first ∷ l) old new)
                (sym (take_more others c.others.step-index (record { ends = None; price = 0 }) c.others-test.true)) more,
          );
      written = λ clean has.
          let i = c.others.step-index in
          let none : Step = record { ends = None; price = 0 } in
          let early : HasCleanDisk mid = omega (arith, c.add_dated_step-in-others.ensures.writes.transaction.survives.clean) in
          let so_far = c.others.invariant.added early has in
          let it = c.others.invariant.written early has in
          let came = came_by (steps_writes name c.args.day (it.0 ∷ take i others)) old mid it.2 so_far.2.only.inside c.others.invariant.transaction.survives in
          let count : c.others.place ≡ length (it.0 ∷ take i others) =
          omega (arith, length-take-le i others (omega (arith, c.others-test.true)), c.others.invariant.place) in
          let last = (c.in_ok-add_dated_step-2.ensures.writes.says.ends clean (tables_there _ old mid so_far.2.only has)).0 in
          let here = subst (λ (n : ℕ). AreCarriedOut (new_dated (dated_row name c.args.day n (get_or others i none)) ∷ []) mid new) count last in (
            it.0,
            it.1,
            subst (λ (l : List Write). AreCarriedOut l old new)
                (with_next (steps_writes name c.args.day) (dated_block name c.args.day) (steps_more name c.args.day) (it.0 ∷ []) others i
                none c.others-test.true)
                (written_then (steps_writes name c.args.day (it.0 ∷ take i others))
                (dated_block name c.args.day (it.0 ∷ take i others) (get_or others i none)) old mid new came here),
          );
    }

pub returns-clause-added : goal.returns-clause-added
returns-clause-added g c = record {
  same_reference = search rules;
  transaction = transaction_on c.others.invariant.transaction;
  says = λ clean has.
      let so_far = c.others.invariant.added clean has in
      let first = so_far.0 in
      let all = ap (λ (l : List Step). first ∷ l) (take_all c.others.step-index c.in-Some.others.now c.others-test.false) ∙ sym so_far.1 in
      subst (λ (l : List Step). AddsSteps c.args.name.now c.args.day l (state g.S.Store c.args.tx.now.conn.now)
      (state g.S.Store c.others.tx.conn.now)) all so_far.2;
}

pub returns-in_err-add_dated_step-2-clause-added : goal.returns-in_err-add_dated_step-2-clause-added
returns-in_err-add_dated_step-2-clause-added g c = record {
  same_reference = search rules;
  transaction =
      let r = c.from_residual-in_err-add_dated_step-2.result in
      transaction_then (state g.S.Store c.args.tx.now.conn.now) (state g.S.Store c.others.tx.conn.now)
      (state g.S.Store c.add_dated_step-in-others.new.tx.conn.now) r c.others.invariant.transaction
      (transaction_off _ r c.from_residual-in_err-add_dated_step-2.ensures.1 c.in_err-add_dated_step-2.ensures.writes.transaction.kept
      c.in_err-add_dated_step-2.ensures.writes.transaction.survives);
  says = λ clean has. none_of _ _ c.from_residual-in_err-add_dated_step-2.result c.from_residual-in_err-add_dated_step-2.ensures.1;
}

pub returns-in_err-add_dated_step-clause-ends : goal.returns-in_err-add_dated_step-clause-ends
returns-in_err-add_dated_step-clause-ends g c clean way has some =
    let old = state g.S.Store c.args.tx.now.conn.now in
    let new = state g.S.Store c.add_dated_step.new.tx.conn.now in
    let name = c.args.name.now in
    let e = c.in_err-add_dated_step.field-0.0 in
    let rest = rest_after (steps_writes name c.args.day) (dated_block name c.args.day) (steps_more name c.args.day) []
    (c.in-Some.first.now ∷ c.in-Some.others.now) 0 c.in-Some.first.now (omega arith) in
    let same : c.in-Some.first.now ∷ c.in-Some.others.now ≡ c.args.steps.now = search rules in
    ends_off FailsToWriteAll (steps_writes name c.args.day c.args.steps.now) old new e c.from_residual.result c.from_residual.ensures.1
    (subst (λ (l : List Write). FailsToWriteAll l old new e) (rest.1 ∙ ap (steps_writes name c.args.day) same)
    (of_store [] old old new (came_here old way) (new_dated (dated_row name c.args.day 0 c.in-Some.first.now)) rest.0 e
    (c.in_err-add_dated_step.ensures.writes.says.ends clean has).1))

pub returns-in_err-add_dated_step-2-clause-ends : goal.returns-in_err-add_dated_step-2-clause-ends
returns-in_err-add_dated_step-2-clause-ends g c clean way has some =
    let old = state g.S.Store c.args.tx.now.conn.now in
    let mid = state g.S.Store c.others.tx.conn.now in
    let new = state g.S.Store c.add_dated_step-in-others.new.tx.conn.now in
    let name = c.args.name.now in
    let others = c.in-Some.others.now in
    let i = c.others.step-index in
    let none : Step = record { ends = None; price = 0 } in
    let early : HasCleanDisk mid = omega (arith, c.add_dated_step-in-others.ensures.writes.transaction.survives.clean) in
    let so_far = c.others.invariant.added early has in
    let it = c.others.invariant.written early has in
    let came = came_by (steps_writes name c.args.day (it.0 ∷ take i others)) old mid it.2 so_far.2.only.inside c.others.invariant.transaction.survives in
    let count : c.others.place ≡ length (it.0 ∷ take i others) =
    omega (arith, length-take-le i others (omega (arith, c.others-test.true)), c.others.invariant.place) in
    let e = c.in_err-add_dated_step-2.field-0.0 in
    let fails = (c.in_err-add_dated_step-2.ensures.writes.says.ends clean (tables_there _ old mid so_far.2.only has)).1 in
    let here = subst (λ (n : ℕ). FailsToStore (new_dated (dated_row name c.args.day n (get_or others i none))) mid new e) count fails in
    let rest = rest_after (steps_writes name c.args.day) (dated_block name c.args.day) (steps_more name c.args.day) (it.0 ∷ []) others i
    none c.others-test.true in
    let all = rest.1 ∙ ap (steps_writes name c.args.day) (sym it.1) in
    ends_off FailsToWriteAll (steps_writes name c.args.day c.args.steps.now) old new e c.from_residual-in_err-add_dated_step-2.result
    c.from_residual-in_err-add_dated_step-2.ensures.1
    (subst (λ (l : List Write). FailsToWriteAll l old new e) all
    (of_store (steps_writes name c.args.day (it.0 ∷ take i others)) old mid new came
    (new_dated (dated_row name c.args.day (length (it.0 ∷ take i others)) (get_or others i none))) rest.0 e here))

pub returns-clause-ends : goal.returns-clause-ends
returns-clause-ends g c clean way has some =
    let it = c.others.invariant.written clean has in
    let all = ap (λ (l : List Step). it.0 ∷ l) (take_all c.others.step-index c.in-Some.others.now c.others-test.false) ∙ sym it.1 in (
      subst (λ (l : List Step). AreCarriedOut (steps_writes c.args.name.now c.args.day l) (state g.S.Store c.args.tx.now.conn.now)
          (state g.S.Store c.others.tx.conn.now)) all it.2,
      tt,
    )
