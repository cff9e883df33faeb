use Rattle.std.proofs.Common.{List, length, ap, arith, subst}
use Rattle.sqlite.specs.Held.{state}
use Rattle.tariff.specs.declared.step.Step.{Step}
use Rattle.office_rules.specs.declared.office.row.Row.TheVariants as kinds
use Rattle.book_tables.specs.writing.Failing.{End, FailsToWriteAll}
use Rattle.book_tables.specs.writing.Writes.{steps_writes, tariff_writes}
use Rattle.book_edits.proofs.ChangeLemmas.{makes_meter_row, makes_steps_row, makes_tariff_row, on_ok, row_ends}
use Rattle.book_edits.proofs.changing.rows.add_row.Goals as goal

pub returns-in-Tariff-clause-added : goal.returns-in-Tariff-clause-added
returns-in-Tariff-clause-added g c = record {
  same_reference = c.add_tariff.ensures.added.same_reference;
  transaction = c.add_tariff.ensures.added.transaction;
  says = λ clean has.
      let old = state g.S.Store c.args.tx.now.conn.now in
      let new = state g.S.Store c.add_tariff.new.tx.conn.now in
      on_ok c.add_tariff.result (λ adds. makes_tariff_row c.members_law.ensures.edited old new has c.args.row.now c.in-Tariff.name
      c.in-Tariff.steps c.as_slice.result.now c.in-Tariff.is c.as_slice.ensures.view adds) (c.add_tariff.ensures.added.says clean has);
}

pub returns-in-Meter-clause-added : goal.returns-in-Meter-clause-added
returns-in-Meter-clause-added g c = record {
  same_reference = c.add_meter.ensures.added.same_reference;
  transaction = c.add_meter.ensures.added.transaction;
  says = λ clean has.
      let old = state g.S.Store c.args.tx.now.conn.now in
      let new = state g.S.Store c.add_meter.new.tx.conn.now in
      on_ok c.add_meter.result (λ adds. makes_meter_row c.members_law.ensures.edited old new has c.args.row.now c.in-Meter.number
      c.in-Meter.meter c.in-Meter.is adds) (c.add_meter.ensures.added.says clean has);
}

pub returns-in-Steps-clause-added : goal.returns-in-Steps-clause-added
returns-in-Steps-clause-added g c = record {
  same_reference = c.add_steps.ensures.added.same_reference;
  transaction = c.add_steps.ensures.added.transaction;
  says = λ clean has.
      let old = state g.S.Store c.args.tx.now.conn.now in
      let new = state g.S.Store c.add_steps.new.tx.conn.now in
      let arm = c.in-Steps in
      on_ok c.add_steps.result (λ adds. makes_steps_row c.members_law.ensures.edited old new has c.args.row.now arm.name arm.day arm.steps
      c.as_slice-in-Steps.result.now arm.is c.as_slice-in-Steps.ensures.view adds) (c.add_steps.ensures.added.says clean has);
}

pub returns-in-Tariff-clause-ends : goal.returns-in-Tariff-clause-ends
returns-in-Tariff-clause-ends g c clean way has =
    let old = state g.S.Store c.args.tx.now.conn.now in
    let new = state g.S.Store c.add_tariff.new.tx.conn.now in
    let it = c.in-Tariff in
    row_ends c.add_tariff.result c.args.row.now (kinds.Tariff it.name it.steps) old new it.is
    (subst (λ (l : List Step). End FailsToWriteAll (tariff_writes it.name l) old new c.add_tariff.result) c.as_slice.ensures.view
    (c.add_tariff.ensures.ends clean way has))

pub returns-in-Meter-clause-ends : goal.returns-in-Meter-clause-ends
returns-in-Meter-clause-ends g c clean way has =
    let old = state g.S.Store c.args.tx.now.conn.now in
    let new = state g.S.Store c.add_meter.new.tx.conn.now in
    let it = c.in-Meter in
    row_ends c.add_meter.result c.args.row.now (kinds.Meter it.number it.meter) old new it.is (c.add_meter.ensures.ends clean way has)

pub returns-in-Steps-clause-ends : goal.returns-in-Steps-clause-ends
returns-in-Steps-clause-ends g c clean way has =
    let old = state g.S.Store c.args.tx.now.conn.now in
    let new = state g.S.Store c.add_steps.new.tx.conn.now in
    let it = c.in-Steps in
    let steps = c.as_slice-in-Steps.ensures in
    row_ends c.add_steps.result c.args.row.now (kinds.Steps it.name it.day it.steps) old new it.is
    (subst (λ (l : List Step). End FailsToWriteAll (steps_writes it.name it.day l) old new c.add_steps.result) steps.view
    (c.add_steps.ensures.ends clean way has (omega (arith, steps.steps.count.0, ap length steps.view))))
