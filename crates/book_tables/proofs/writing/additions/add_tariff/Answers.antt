use Rattle.std.proofs.Common.{rules, arith, ◌≡◌, ◌∙◌, sym, subst, take, length, get_or, map, ℕ, ◌∷◌, [], List, None, Ok}
use Rattle.sqlite.specs.Held.{state}
use Rattle.sqlite.specs.State.{HasCleanDisk}
use Rattle.std.proofs.lemmas.List.{length-take-le, take_all, take_more}
use Rattle.tariff.specs.declared.step.Step.{Step}
use Rattle.one_table.proofs.ChangeLemmas.{transaction_off, transaction_on, transaction_then}
use Rattle.book_tables.specs.writing.Writing.{AddsTariff}
use Rattle.book_tables.proofs.WritingLemmas.OnlyLemmas.{tables_there}
use Rattle.book_tables.proofs.WritingLemmas.TariffWriteLemmas.{adds_next, adds_none}
use Rattle.book_tables.specs.writing.Edited.{step_row, step_rows}
use Rattle.book_tables.specs.writing.Failing.{FailsToStore, FailsToWriteAll}
use Rattle.book_tables.specs.writing.Writes.{AreCarriedOut, Write, new_step, new_tariff, tariff_writes}
use Rattle.book_tables.proofs.WritingLemmas.CauseLemmas.{came_by, came_here, ends_off, of_store, written_then}
use Rattle.book_tables.proofs.WritingLemmas.TurnLemmas.{rest_after, step_block, tariff_more, with_next}
use Rattle.book_tables.proofs.ReadingLemmas.SeenLemmas.{none_of}
use Rattle.book_tables.proofs.writing.additions.add_tariff.Goals as goal

pub steps-init : goal.steps-init
steps-init g c = record {
  same = search rules;
  place = search rules;
  transaction = transaction_on c.in_ok-add_name.ensures.writes.transaction;
  added = λ clean has. adds_none c.args.name.now (state g.S.Store c.args.tx.now.conn.now) (state g.S.Store c.add_name.new.tx.conn.now) has
      (c.in_ok-add_name.ensures.writes.says.made clean has);
  written = λ clean has. (c.in_ok-add_name.ensures.writes.says.ends clean has).0;
}

pub steps-preserved : goal.steps-preserved
steps-preserved g c = record {
  same = search rules;
  place = search rules;
  transaction = transaction_then (state g.S.Store c.args.tx.now.conn.now) (state g.S.Store c.steps.tx.conn.now)
      (state g.S.Store c.add_step.new.tx.conn.now) (Ok tt) c.steps.invariant.transaction (transaction_on c.in_ok-add_step.ensures.writes.transaction);
  added = λ clean has.
      let old = state g.S.Store c.args.tx.now.conn.now in
      let mid = state g.S.Store c.steps.tx.conn.now in
      let new = state g.S.Store c.add_step.new.tx.conn.now in
      let early : HasCleanDisk mid = omega (arith, c.add_step.ensures.writes.transaction.survives.clean) in
      let so_far = c.steps.invariant.added early has in
      let last = c.in_ok-add_step.ensures.writes.says.made clean (tables_there _ old mid so_far.only has) in
      let step = get_or c.args.steps.now c.steps.step-index (record { ends = None; price = 0 }) in
      let count : length (take c.steps.step-index c.args.steps.now) ≡ c.steps.step-index =
      length-take-le c.steps.step-index c.args.steps.now (omega (arith, c.steps-test.true)) in
      subst (λ (l : List Step). AddsTariff c.args.name.now l old new)
      (sym (take_more c.args.steps.now c.steps.step-index (record { ends = None; price = 0 }) c.steps-test.true))
      (adds_next c.args.name.now (take c.steps.step-index c.args.steps.now) c.steps.place step old mid new
      (c.steps.invariant.place ∙ sym count) has so_far last);
  written = λ clean has.
      let old = state g.S.Store c.args.tx.now.conn.now in
      let mid = state g.S.Store c.steps.tx.conn.now in
      let new = state g.S.Store c.add_step.new.tx.conn.now in
      let name = c.args.name.now in
      let steps = c.args.steps.now in
      let i = c.steps.step-index in
      let none : Step = record { ends = None; price = 0 } in
      let early : HasCleanDisk mid = omega (arith, c.add_step.ensures.writes.transaction.survives.clean) in
      let so_far = c.steps.invariant.added early has in
      let came = came_by (tariff_writes name (take i steps)) old mid (c.steps.invariant.written early has) so_far.only.inside
      c.steps.invariant.transaction.survives in
      let count : length (take i steps) ≡ i = length-take-le i steps (omega (arith, c.steps-test.true)) in
      let last = (c.in_ok-add_step.ensures.writes.says.ends clean (tables_there _ old mid so_far.only has)).0 in
      let here = subst (λ (n : ℕ). AreCarriedOut (new_step (step_row name n (get_or steps i none)) ∷ []) mid new) (c.steps.invariant.place ∙ sym count) last in
      subst (λ (l : List Write). AreCarriedOut l old new)
      (with_next (tariff_writes name) (step_block name) (tariff_more name) [] steps i none c.steps-test.true)
      (written_then (tariff_writes name (take i steps)) (step_block name (take i steps) (get_or steps i none)) old mid new came here);
}

pub returns-clause-added : goal.returns-clause-added
returns-clause-added g c = record {
  same_reference = search rules;
  transaction = transaction_on c.steps.invariant.transaction;
  says = λ clean has.
      subst (λ (l : List Step). AddsTariff c.args.name.now l (state g.S.Store c.args.tx.now.conn.now) (state g.S.Store c.steps.tx.conn.now))
      (take_all c.steps.step-index c.args.steps.now c.steps-test.false)
      (c.steps.invariant.added clean has);
}

pub returns-in_err-add_name-clause-added : goal.returns-in_err-add_name-clause-added
returns-in_err-add_name-clause-added g c = record {
  same_reference = search rules;
  transaction =
      transaction_off _ c.from_residual.result c.from_residual.ensures.1 c.in_err-add_name.ensures.writes.transaction.kept
      c.in_err-add_name.ensures.writes.transaction.survives;
  says = search rules;
}

pub returns-in_err-add_step-clause-added : goal.returns-in_err-add_step-clause-added
returns-in_err-add_step-clause-added g c = record {
  same_reference = search rules;
  transaction =
      let r = c.from_residual-in_err-add_step.result in
      transaction_then (state g.S.Store c.args.tx.now.conn.now) (state g.S.Store c.steps.tx.conn.now)
      (state g.S.Store c.add_step.new.tx.conn.now) r c.steps.invariant.transaction
      (transaction_off _ r c.from_residual-in_err-add_step.ensures.1 c.in_err-add_step.ensures.writes.transaction.kept
      c.in_err-add_step.ensures.writes.transaction.survives);
  says = λ clean has. none_of _ _ c.from_residual-in_err-add_step.result c.from_residual-in_err-add_step.ensures.1;
}

pub returns-in_err-add_name-clause-ends : goal.returns-in_err-add_name-clause-ends
returns-in_err-add_name-clause-ends g c clean way has =
    let old = state g.S.Store c.args.tx.now.conn.now in
    let new = state g.S.Store c.add_name.new.tx.conn.now in
    let name = c.args.name.now in
    let e = c.in_err-add_name.field-0.0 in
    ends_off FailsToWriteAll (tariff_writes name c.args.steps.now) old new e c.from_residual.result c.from_residual.ensures.1
    (of_store [] old old new (came_here old way) (new_tariff name) (map new_step (step_rows name c.args.steps.now)) e
    (c.in_err-add_name.ensures.writes.says.ends clean has).1)

pub returns-in_err-add_step-clause-ends : goal.returns-in_err-add_step-clause-ends
returns-in_err-add_step-clause-ends g c clean way has =
    let old = state g.S.Store c.args.tx.now.conn.now in
    let mid = state g.S.Store c.steps.tx.conn.now in
    let new = state g.S.Store c.add_step.new.tx.conn.now in
    let name = c.args.name.now in
    let steps = c.args.steps.now in
    let i = c.steps.step-index in
    let none : Step = record { ends = None; price = 0 } in
    let early : HasCleanDisk mid = omega (arith, c.add_step.ensures.writes.transaction.survives.clean) in
    let so_far = c.steps.invariant.added early has in
    let came = came_by (tariff_writes name (take i steps)) old mid (c.steps.invariant.written early has) so_far.only.inside
    c.steps.invariant.transaction.survives in
    let count : length (take i steps) ≡ i = length-take-le i steps (omega (arith, c.steps-test.true)) in
    let e = c.in_err-add_step.field-0.0 in
    let fails = (c.in_err-add_step.ensures.writes.says.ends clean (tables_there _ old mid so_far.only has)).1 in
    let here = subst (λ (n : ℕ). FailsToStore (new_step (step_row name n (get_or steps i none))) mid new e) (c.steps.invariant.place ∙ sym count) fails in
    let rest = rest_after (tariff_writes name) (step_block name) (tariff_more name) [] steps i none c.steps-test.true in
    ends_off FailsToWriteAll (tariff_writes name steps) old new e c.from_residual-in_err-add_step.result c.from_residual-in_err-add_step.ensures.1
    (subst (λ (l : List Write). FailsToWriteAll l old new e) rest.1
    (of_store (tariff_writes name (take i steps)) old mid new came (new_step (step_row name (length (take i steps)) (get_or steps i none))) rest.0 e here))

pub returns-clause-ends : goal.returns-clause-ends
returns-clause-ends g c clean way has = (
  subst (λ (l : List Step). AreCarriedOut (tariff_writes c.args.name.now l) (state g.S.Store c.args.tx.now.conn.now)
      (state g.S.Store c.steps.tx.conn.now)) (take_all c.steps.step-index c.args.steps.now c.steps-test.false)
      (c.steps.invariant.written clean has),
  tt,
)
