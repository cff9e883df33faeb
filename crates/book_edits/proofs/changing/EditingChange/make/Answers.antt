use Rattle.std.proofs.Common.{List, [], length, ap, arith, IfErr, OnOk, subst}
use Rattle.std.specs.List.{flat_map}
use Rattle.sqlite.specs.Held.{state}
use Rattle.tariff.specs.declared.step.Step.{Step}
use Rattle.office_rules.specs.declared.decision.change.Edit.TheVariants as edits
use Rattle.office_rules.specs.declared.office.row.Row.{Row}
use Rattle.one_table.proofs.ChangeLemmas.{if_err}
use Rattle.book_tables.proofs.WritingLemmas.CauseLemmas.{came_here, of_store}
use Rattle.book_tables.specs.writing.Failing.{FailsToWriteAll}
use Rattle.book_tables.specs.writing.Writes.{AreCarriedOut, key_set, new_shift, row_writes, shift_ended, steps_withdrawn, steps_writes, tariff_set, tariff_writes}
use Rattle.book_tables.specs.writing.Writing.{AddsSteps, AddsTariff}
use Rattle.book_states.specs.Changing.{MakesRows}
use Rattle.book_edits.proofs.ChangeLemmas.{edit_refused, told_where, refused_by, rows_refused, made_by, makes_closing, makes_import, makes_key, makes_meter, makes_moving, makes_sale, makes_setting, makes_shift, makes_steps, makes_tariff, makes_withdrawal}
use Rattle.book_edits.proofs.changing.EditingChange.make.Goals as goal

pub returns-in-AddTariff-clause-made : goal.returns-in-AddTariff-clause-made
returns-in-AddTariff-clause-made g c = record {
  same_reference = c.add_tariff.ensures.added.same_reference;
  transaction = c.add_tariff.ensures.added.transaction;
  says = λ clean way.
      let old = state g.S.Store c.args.tx.now.conn.now in
      let new = state g.S.Store c.add_tariff.new.tx.conn.now in
      let name = c.in-AddTariff.name in
      made_by c.add_tariff.result c.args.self.now.edit.now (edits.AddTariff name c.in-AddTariff.steps) c.args.self.now.prior old new
      c.in-AddTariff.is (c.add_tariff.ensures.added.says clean)
      (λ has. subst (λ (l : List Step). OnOk c.add_tariff.result (AreCarriedOut (tariff_writes name l) old new)) c.as_slice.ensures.view
      (c.add_tariff.ensures.ends clean way has).0)
      (λ has adds carried. (
        makes_tariff c.members_law.ensures.edited old new has name c.in-AddTariff.steps carried
            (subst (λ (l : List Step). AddsTariff name l old new) c.as_slice.ensures.view adds),
        tt,
      ));
}

pub returns-in-AddMeter-clause-made : goal.returns-in-AddMeter-clause-made
returns-in-AddMeter-clause-made g c = record {
  same_reference = c.add_meter.ensures.added.same_reference;
  transaction = c.add_meter.ensures.added.transaction;
  says = λ clean way.
      let old = state g.S.Store c.args.tx.now.conn.now in
      let new = state g.S.Store c.add_meter.new.tx.conn.now in
      let number = c.in-AddMeter.number in
      let meter = c.in-AddMeter.meter in
      made_by c.add_meter.result c.args.self.now.edit.now (edits.AddMeter number meter) c.args.self.now.prior old new c.in-AddMeter.is
      (c.add_meter.ensures.added.says clean) (λ has. (c.add_meter.ensures.ends clean way has).0)
      (λ has adds carried. (makes_meter c.members_law.ensures.edited old new has number meter carried adds, tt));
}

pub returns-in-AddRows-clause-made : goal.returns-in-AddRows-clause-made
returns-in-AddRows-clause-made g c = record {
  same_reference = c.add_rows.ensures.added.same_reference;
  transaction = c.add_rows.ensures.added.transaction;
  says = λ clean way.
      let old = state g.S.Store c.args.tx.now.conn.now in
      let new = state g.S.Store c.add_rows.new.tx.conn.now in
      let rows = c.in-AddRows.rows in
      made_by c.add_rows.result c.args.self.now.edit.now (edits.AddRows rows) c.args.self.now.prior old new c.in-AddRows.is
      (c.add_rows.ensures.added.says clean way)
      (λ has. subst (λ (l : List Row). OnOk c.add_rows.result (AreCarriedOut (flat_map row_writes l) old new)) c.as_slice-in-AddRows.ensures.view
      (c.add_rows.ensures.carried clean way has))
      (λ has made carried. (makes_import rows old.now new.now carried (subst (λ (l : List Row). MakesRows l old.now new.now) c.as_slice-in-AddRows.ensures.view made), tt));
}

pub returns-in-SetTariff-clause-made : goal.returns-in-SetTariff-clause-made
returns-in-SetTariff-clause-made g c = record {
  same_reference = c.set_tariff.ensures.writes.same_reference;
  transaction = c.set_tariff.ensures.writes.transaction;
  says = λ clean way.
      let old = state g.S.Store c.args.tx.now.conn.now in
      let new = state g.S.Store c.set_tariff.new.tx.conn.now in
      let number = c.in-SetTariff.number in
      let name = c.in-SetTariff.name in
      made_by c.set_tariff.result c.args.self.now.edit.now (edits.SetTariff number name) c.args.self.now.prior old new c.in-SetTariff.is
      (c.set_tariff.ensures.writes.says.made clean) (λ has. (c.set_tariff.ensures.writes.says.ends clean has).0)
      (λ has sets carried. (makes_setting c.members_law.ensures.edited old new number name carried sets, tt));
}

pub returns-in-SetKey-clause-made : goal.returns-in-SetKey-clause-made
returns-in-SetKey-clause-made g c = record {
  same_reference = c.set_key.ensures.writes.same_reference;
  transaction = c.set_key.ensures.writes.transaction;
  says = λ clean way.
      let old = state g.S.Store c.args.tx.now.conn.now in
      let new = state g.S.Store c.set_key.new.tx.conn.now in
      let number = c.in-SetKey.number in
      let key = c.in-SetKey.key in
      made_by c.set_key.result c.args.self.now.edit.now (edits.SetKey number key) c.args.self.now.prior old new c.in-SetKey.is
      (c.set_key.ensures.writes.says.made clean) (λ has. (c.set_key.ensures.writes.says.ends clean has).0)
      (λ has sets carried. (makes_key c.members_law.ensures.edited old new number key carried sets, tt));
}

pub returns-in-WithdrawSteps-clause-made : goal.returns-in-WithdrawSteps-clause-made
returns-in-WithdrawSteps-clause-made g c = record {
  same_reference = c.withdraw_steps.ensures.writes.same_reference;
  transaction = c.withdraw_steps.ensures.writes.transaction;
  says = λ clean way.
      let old = state g.S.Store c.args.tx.now.conn.now in
      let new = state g.S.Store c.withdraw_steps.new.tx.conn.now in
      let name = c.in-WithdrawSteps.name in
      let day = c.in-WithdrawSteps.day in
      made_by c.withdraw_steps.result c.args.self.now.edit.now (edits.WithdrawSteps name day) c.args.self.now.prior old new c.in-WithdrawSteps.is
      (c.withdraw_steps.ensures.writes.says.made clean) (λ has. (c.withdraw_steps.ensures.writes.says.ends clean has).0)
      (λ has withdraws carried. (makes_withdrawal c.members_law.ensures.edited old new name day carried withdraws, tt));
}

pub returns-in-OpenShift-clause-made : goal.returns-in-OpenShift-clause-made
returns-in-OpenShift-clause-made g c = record {
  same_reference = c.add_shift.ensures.writes.same_reference;
  transaction = c.add_shift.ensures.writes.transaction;
  says = λ clean way.
      let old = state g.S.Store c.args.tx.now.conn.now in
      let new = state g.S.Store c.add_shift.new.tx.conn.now in
      let shift = c.in-OpenShift.shift in
      made_by c.add_shift.result c.args.self.now.edit.now (edits.OpenShift shift) c.args.self.now.prior old new c.in-OpenShift.is
      (c.add_shift.ensures.writes.says.made clean) (λ has. (c.add_shift.ensures.writes.says.ends clean has).0)
      (λ has adds carried. (makes_shift c.members_law.ensures.edited old new shift carried adds, tt));
}

pub returns-in-CloseShift-clause-made : goal.returns-in-CloseShift-clause-made
returns-in-CloseShift-clause-made g c = record {
  same_reference = c.close_shift.ensures.writes.same_reference;
  transaction = c.close_shift.ensures.writes.transaction;
  says = λ clean way.
      let old = state g.S.Store c.args.tx.now.conn.now in
      let new = state g.S.Store c.close_shift.new.tx.conn.now in
      let number = c.in-CloseShift.number in
      let moment = c.in-CloseShift.moment in
      made_by c.close_shift.result c.args.self.now.edit.now (edits.CloseShift number moment) c.args.self.now.prior old new c.in-CloseShift.is
      (c.close_shift.ensures.writes.says.made clean) (λ has. (c.close_shift.ensures.writes.says.ends clean has).0)
      (λ has closes carried. (makes_closing c.members_law.ensures.edited old new number moment carried closes, tt));
}

pub returns-in-AddSteps-clause-made : goal.returns-in-AddSteps-clause-made
returns-in-AddSteps-clause-made g c = record {
  same_reference = c.add_steps.ensures.added.same_reference;
  transaction = c.add_steps.ensures.added.transaction;
  says = λ clean way.
      let old = state g.S.Store c.args.tx.now.conn.now in
      let new = state g.S.Store c.add_steps.new.tx.conn.now in
      let name = c.in-AddSteps.name in
      let day = c.in-AddSteps.day in
      let steps = c.as_slice-in-AddSteps.ensures in
      made_by c.add_steps.result c.args.self.now.edit.now (edits.AddSteps name day c.in-AddSteps.steps) c.args.self.now.prior old new
      c.in-AddSteps.is (c.add_steps.ensures.added.says clean)
      (λ has. subst (λ (l : List Step). OnOk c.add_steps.result (AreCarriedOut (steps_writes name day l) old new)) steps.view
      (c.add_steps.ensures.ends clean way has (omega (arith, steps.steps.count.0, ap length steps.view))).0)
      (λ has adds carried. (
        makes_steps c.members_law.ensures.edited old new has name day c.in-AddSteps.steps carried
            (subst (λ (l : List Step). AddsSteps name day l old new) c.as_slice-in-AddSteps.ensures.view adds),
        tt,
      ));
}

pub returns-in-MoveBase-clause-made : goal.returns-in-MoveBase-clause-made
returns-in-MoveBase-clause-made g c = record {
  same_reference = c.move_base.ensures.moved.same_reference;
  transaction = c.move_base.ensures.moved.transaction;
  says = λ clean way.
      let old = state g.S.Store c.args.tx.now.conn.now in
      let new = state g.S.Store c.move_base.new.tx.conn.now in
      let number = c.in-MoveBase.number in
      let base = c.in-MoveBase.base in
      made_by c.move_base.result c.args.self.now.edit.now (edits.MoveBase number base) c.args.self.now.prior old new c.in-MoveBase.is
      (c.move_base.ensures.moved.says clean) (λ has. (c.move_base.ensures.ends clean way has).0)
      (λ has moves carried. (makes_moving c.members_law.ensures.edited old new number base carried moves, tt));
}

pub returns-in-AddSale-clause-made : goal.returns-in-AddSale-clause-made
returns-in-AddSale-clause-made g c = record {
  same_reference = c.add_counted.ensures.added.same_reference;
  transaction = c.add_counted.ensures.added.transaction;
  says = λ clean way.
      let old = state g.S.Store c.args.tx.now.conn.now in
      let new = state g.S.Store c.add_counted.new.tx.conn.now in
      let sale = c.in-AddSale.sale in
      made_by c.add_counted.result c.args.self.now.edit.now (edits.AddSale sale) c.args.self.now.prior old new c.in-AddSale.is
      (c.add_counted.ensures.added.says clean way) (c.add_counted.ensures.carried clean way)
      (λ has adds carried. (
        makes_sale c.members_law.ensures.edited old new sale carried adds.tells.adds,
        (
          adds.shown,
          record { limit = old.step_limit; told = adds.told; of_office = adds.tells.tells },
          adds.month,
        ),
      ));
}

pub returns-in-AddTariff-clause-refused : goal.returns-in-AddTariff-clause-refused
returns-in-AddTariff-clause-refused g c clean way =
    let old = state g.S.Store c.args.tx.now.conn.now in
    let new = state g.S.Store c.add_tariff.new.tx.conn.now in
    let it = c.in-AddTariff in
    edit_refused c.add_tariff.result c.args.self.now.edit.now (edits.AddTariff it.name it.steps) c.args.self.now.prior old new it.is
    (λ has. subst (λ (l : List Step). IfErr c.add_tariff.result (FailsToWriteAll (tariff_writes it.name l) old new))
    c.as_slice.ensures.view (c.add_tariff.ensures.ends clean way has).1)

pub returns-in-AddMeter-clause-refused : goal.returns-in-AddMeter-clause-refused
returns-in-AddMeter-clause-refused g c clean way =
    let old = state g.S.Store c.args.tx.now.conn.now in
    let new = state g.S.Store c.add_meter.new.tx.conn.now in
    let it = c.in-AddMeter in
    edit_refused c.add_meter.result c.args.self.now.edit.now (edits.AddMeter it.number it.meter) c.args.self.now.prior old new it.is
    (λ has. (c.add_meter.ensures.ends clean way has).1)

pub returns-in-MoveBase-clause-refused : goal.returns-in-MoveBase-clause-refused
returns-in-MoveBase-clause-refused g c clean way =
    let old = state g.S.Store c.args.tx.now.conn.now in
    let new = state g.S.Store c.move_base.new.tx.conn.now in
    let it = c.in-MoveBase in
    edit_refused c.move_base.result c.args.self.now.edit.now (edits.MoveBase it.number it.base) c.args.self.now.prior old new it.is
    (λ has. (c.move_base.ensures.ends clean way has).1)

pub returns-in-AddSteps-clause-refused : goal.returns-in-AddSteps-clause-refused
returns-in-AddSteps-clause-refused g c clean way =
    let old = state g.S.Store c.args.tx.now.conn.now in
    let new = state g.S.Store c.add_steps.new.tx.conn.now in
    let it = c.in-AddSteps in
    let steps = c.as_slice-in-AddSteps.ensures in
    edit_refused c.add_steps.result c.args.self.now.edit.now (edits.AddSteps it.name it.day it.steps) c.args.self.now.prior old new it.is
    (λ has. subst (λ (l : List Step). IfErr c.add_steps.result (FailsToWriteAll (steps_writes it.name it.day l) old new)) steps.view
    (c.add_steps.ensures.ends clean way has (omega (arith, steps.steps.count.0, ap length steps.view))).1)

pub returns-in-SetTariff-clause-refused : goal.returns-in-SetTariff-clause-refused
returns-in-SetTariff-clause-refused g c clean way =
    let old = state g.S.Store c.args.tx.now.conn.now in
    let new = state g.S.Store c.set_tariff.new.tx.conn.now in
    let it = c.in-SetTariff in
    edit_refused c.set_tariff.result c.args.self.now.edit.now (edits.SetTariff it.number it.name) c.args.self.now.prior old new it.is
    (λ has. if_err c.set_tariff.result (of_store [] old old new (came_here old way) (tariff_set it.number it.name) [])
    (c.set_tariff.ensures.writes.says.ends clean has).1)

pub returns-in-SetKey-clause-refused : goal.returns-in-SetKey-clause-refused
returns-in-SetKey-clause-refused g c clean way =
    let old = state g.S.Store c.args.tx.now.conn.now in
    let new = state g.S.Store c.set_key.new.tx.conn.now in
    let it = c.in-SetKey in
    edit_refused c.set_key.result c.args.self.now.edit.now (edits.SetKey it.number it.key) c.args.self.now.prior old new it.is
    (λ has. if_err c.set_key.result (of_store [] old old new (came_here old way) (key_set it.number it.key) [])
    (c.set_key.ensures.writes.says.ends clean has).1)

pub returns-in-WithdrawSteps-clause-refused : goal.returns-in-WithdrawSteps-clause-refused
returns-in-WithdrawSteps-clause-refused g c clean way =
    let old = state g.S.Store c.args.tx.now.conn.now in
    let new = state g.S.Store c.withdraw_steps.new.tx.conn.now in
    let it = c.in-WithdrawSteps in
    edit_refused c.withdraw_steps.result c.args.self.now.edit.now (edits.WithdrawSteps it.name it.day) c.args.self.now.prior old new it.is
    (λ has. if_err c.withdraw_steps.result (of_store [] old old new (came_here old way) (steps_withdrawn it.name it.day) [])
    (c.withdraw_steps.ensures.writes.says.ends clean has).1)

pub returns-in-OpenShift-clause-refused : goal.returns-in-OpenShift-clause-refused
returns-in-OpenShift-clause-refused g c clean way =
    let old = state g.S.Store c.args.tx.now.conn.now in
    let new = state g.S.Store c.add_shift.new.tx.conn.now in
    let it = c.in-OpenShift in
    edit_refused c.add_shift.result c.args.self.now.edit.now (edits.OpenShift it.shift) c.args.self.now.prior old new it.is
    (λ has. if_err c.add_shift.result (of_store [] old old new (came_here old way) (new_shift it.shift) []) (c.add_shift.ensures.writes.says.ends clean has).1)

pub returns-in-CloseShift-clause-refused : goal.returns-in-CloseShift-clause-refused
returns-in-CloseShift-clause-refused g c clean way =
    let old = state g.S.Store c.args.tx.now.conn.now in
    let new = state g.S.Store c.close_shift.new.tx.conn.now in
    let it = c.in-CloseShift in
    edit_refused c.close_shift.result c.args.self.now.edit.now (edits.CloseShift it.number it.moment) c.args.self.now.prior old new it.is
    (λ has. if_err c.close_shift.result (of_store [] old old new (came_here old way) (shift_ended it.number it.moment) [])
    (c.close_shift.ensures.writes.says.ends clean has).1)

pub returns-in-AddRows-clause-refused : goal.returns-in-AddRows-clause-refused
returns-in-AddRows-clause-refused g c clean way =
    let old = state g.S.Store c.args.tx.now.conn.now in
    let new = state g.S.Store c.add_rows.new.tx.conn.now in
    let rows = c.in-AddRows.rows in
    told_where c.args.self.now.edit.now c.args.self.now.prior (state g.S.Store c.args.tx.now.conn.now)
    (state g.S.Store c.add_rows.new.tx.conn.now) c.add_rows.result
    (λ has. refused_by c.add_rows.result c.args.self.now.edit.now (edits.AddRows rows) c.args.self.now.prior old new c.in-AddRows.is
    (rows_refused c.add_rows.result rows c.as_slice-in-AddRows.result.now c.args.self.now.prior old new c.as_slice-in-AddRows.ensures.view
    (λ some. (c.add_rows.ensures.ends clean way has some).1)))

pub returns-in-AddSale-clause-refused : goal.returns-in-AddSale-clause-refused
returns-in-AddSale-clause-refused g c clean way =
    let old = state g.S.Store c.args.tx.now.conn.now in
    let new = state g.S.Store c.add_counted.new.tx.conn.now in
    told_where c.args.self.now.edit.now c.args.self.now.prior (state g.S.Store c.args.tx.now.conn.now)
    (state g.S.Store c.add_counted.new.tx.conn.now) c.add_counted.result
    (λ has. refused_by c.add_counted.result c.args.self.now.edit.now (edits.AddSale c.in-AddSale.sale) c.args.self.now.prior old new
    c.in-AddSale.is (c.add_counted.ensures.refused clean way has))
