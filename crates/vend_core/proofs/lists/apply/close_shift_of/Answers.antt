use Rattle.std.proofs.Common.{◌==◌, if◌then◌else◌, sym, ◌∙◌, ap, arith, set}
use Rattle.std.proofs.lemmas.List.Edits.{map_over_more}
use Rattle.office_rules.specs.Decision.Fold.{closed_at}
use Rattle.office_rules.specs.declared.office.shift.Shift.{Shift}
use Rattle.vend_core.proofs.lists.apply.close_shift_of.Goals as goal

pub loop-shift-preserved : goal.loop-shift-preserved
loop-shift-preserved c =
    let f = λ (s : Shift). if s.number == c.args.number then closed_at c.args.moment s else s in
    ap (set c.loop-shift.shifts c.loop-shift.shift-index) (c.closed_if.ensures ∙ ap f (sym c.shift-item.is))
    ∙ map_over_more f c.args.shifts.now c.loop-shift.shifts c.loop-shift.shift-index c.shift-item.result (omega arith) c.loop-shift.invariant c.shift-item.is
