use Rattle.std.proofs.Common.{List, subst}
use Rattle.std.proofs.lemmas.Result.{IfErr-weaker, on_ok_weaker}
use Rattle.office_rules.specs.declared.office.shift.Shift.{Shift}
use Rattle.audit_lists.specs.Ties.{IsFirst, IsTieKept}
use Rattle.audit_lists.specs.declared.fault.OfficeFault.TheVariants as fault
use Rattle.audit_lists.specs.reached.Finds.{TellsUnreached, closed_first}
use Rattle.audit_lists.specs.reached.Walk.{TellsSale}
use Rattle.audit_lists.proofs.ReachedLemmas.FaultLemmas.{shifts_kept, tells_sales, tells_shift, told_on}
use Rattle.audit_lists.proofs.ReachedLemmas.ShiftLemmas.{pairs_kept}
use Rattle.audit_lists.proofs.reached.test_reached.Goals as goal

pub returns-in_err-test_shifts-clause-found : goal.returns-in_err-test_shifts-clause-found
returns-in_err-test_shifts-clause-found c =
    let f = c.in_err-test_shifts.field-0.0 in
    told_on (TellsUnreached c.args.rows.now) c.from_residual.result (fault.Found f) c.from_residual.ensures.1
    (tells_shift c.args.rows.now f (subst (λ (l : List Shift). IsFirst (closed_first l) f) c.deref.ensures.value c.in_err-test_shifts.ensures.found))

pub returns : goal.returns
returns c =
    let r = c.args.rows.now in
    let kept = subst (λ (l : List Shift). IsTieKept (closed_first l)) c.deref.ensures.value c.in_ok-test_shifts.ensures.passes in
    record {
      passes = on_ok_weaker c.test_sales.result (λ sales o are. record
          { shifts = pairs_kept o.shifts (shifts_kept r o are kept); sales = sales o are }) c.test_sales.ensures.passes;
      found = IfErr-weaker c.test_sales.result (TellsSale r) (TellsUnreached r) (tells_sales r kept) c.test_sales.ensures.found;
    }
