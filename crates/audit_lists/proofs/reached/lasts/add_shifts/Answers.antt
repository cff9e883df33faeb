use Rattle.std.proofs.Common.{◌≡◌, ◌<◌, ◌+◌, ◌∙◌, Some, ap, arith, length, max, min, subst, sym}
use Rattle.std.proofs.lemmas.Option.{slice_get-get_or}
use Rattle.office_rules.specs.declared.office.shift.Shift.{Shift}
use Rattle.audit_lists.specs.reached.Lasts.{AreLasts}
use Rattle.audit_lists.proofs.ReachedLemmas.LastLemmas.{lasts_more}
use Rattle.audit_lists.proofs.reached.lasts.add_shifts.Goals as goal

pub shifts-preserved : goal.shifts-preserved
shifts-preserved c =
    let shifts = c.args.shifts.now in
    let at = c.shifts.at in
    let row = c.index-shifts-at in
    let within : at < length shifts = omega (arith, c.shifts-test.true, c.min-end.ensures) in
    let there = slice_get-get_or shifts at row.result within ∙ ap Some (sym row.is) in
    let here : min (length shifts) at ≡ at = omega (arith, within) in
    let next : at + 1 ≡ min (length shifts) (at + 1) = omega (arith, within) in
    record {
      bound = omega (arith, c.shifts-test.true);
      lasts = λ before.
          subst (AreLasts c.insert.new.self shifts) next (lasts_more shifts at row.result there c.as_bytes.result
          (c.as_bytes.ensures.view ∙ ap (λ (s : Shift). s.operator) (sym row.is)) c.shifts.lasts c.insert.new.self
          c.in_ok-insert.ensures.updates (subst (AreLasts c.shifts.lasts shifts) here (c.shifts.invariant.lasts before)));
    }

pub returns : goal.returns
returns c before =
    let shifts = c.args.shifts.now in
    let end : min (length shifts) c.shifts.at ≡ min (length shifts) (max c.args.latest c.args.number) =
    omega (arith, c.shifts.invariant.bound, c.shifts.auto.at, c.shifts-test.false, c.min-end.ensures) in
    subst (AreLasts c.shifts.lasts shifts) end (c.shifts.invariant.lasts before)
