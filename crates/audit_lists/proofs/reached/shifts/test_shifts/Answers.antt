use Rattle.std.proofs.Common.{◌∙◌, inl, inr, take, sym, subst, arith}
use Rattle.std.specs.Prelude.{All}
use Rattle.std.proofs.lemmas.Option.{same_Some, slice_get_within}
use Rattle.vend_core.specs.Law.Reached.{IsClosedFirst}
use Rattle.office_rules.specs.declared.office.shift.Shift.{Shift}
use Rattle.audit_lists.proofs.EachLemmas.{row_at}
use Rattle.audit_lists.proofs.ReachedLemmas.ShiftLemmas.{all_before, not_all_before}
use Rattle.audit_lists.proofs.reached.shifts.test_shifts.Goals as goal

pub returns-then-end-shifts-clause-found : goal.returns-then-end-shifts-clause-found
returns-then-end-shifts-clause-found c =
    let shifts = c.args.shifts.now in
    let end = c.shifts.end in
    let s = c.index-shifts-end.result in
    let there = row_at shifts end s c.if-end-shifts.true c.index-shifts-end.is in
    elim c.shifts.invariant.after [
      | inl none ↦ absurd (omega (arith, none, c.if-end-shifts.true))
      | inr after ↦ (
        end,
        s,
        record {
          there = there;
          before = λ i x low at. all_before shifts i c.shifts.at end x c.shifts.invariant.closed low
              (omega (arith, low, c.shifts.invariant.within, c.shifts-test.false)) at;
          breaks = subst (λ (x : Shift). ¬ All (λ a. IsClosedFirst a x) (take end shifts)) (same_Some after.shift s (sym after.there ∙ there))
              (not_all_before shifts end after);
        },
        c.found.ensures,
      )
    ]

pub returns-clause-passes : goal.returns-clause-passes
returns-clause-passes c i s there =
    let shifts = c.args.shifts.now in
    let low = slice_get_within shifts i s there in
    all_before shifts i c.shifts.at c.shifts.end s c.shifts.invariant.closed (omega (arith, low, c.if-end-shifts.false))
    (omega (arith, low, c.shifts-test.false)) there
