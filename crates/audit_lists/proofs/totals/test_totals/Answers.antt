use Rattle.std.proofs.Common.{◌≡◌, ◌++◌, List, refl, subst}
use Rattle.one_table.proofs.ChangeLemmas.{if_err, on_ok, told_as}
use Rattle.office_rules.specs.declared.office.sale.Sale.{Sale}
use Rattle.audit_rows.specs.declared.office_rows.OfficeRows.{OfficeRows}
use Rattle.audit_rows.specs.declared.rows.LastId.{LastId}
use Rattle.audit_rows.specs.declared.rows.MonthTenths.{MonthTenths}
use Rattle.audit_rows.specs.declared.rows.ShiftTotals.{ShiftTotals}
use Rattle.audit_lists.specs.Ties.{AreKept, FindsFirst, Says}
use Rattle.audit_lists.specs.totals.Rules.{last_id_rules, month_tenths_rules, shift_totals_rules, total_rules_of, total_rules}
use Rattle.audit_lists.proofs.TieLemmas.{kept_both, says_left, says_right}
use Rattle.audit_lists.proofs.totals.test_totals.Goals as goal

-- the rules of the slices are those of the lists that they are of
alike : (r : OfficeRows) (sales : List Sale) (ids : List LastId) (months : List MonthTenths) (shifts : List ShiftTotals) → sales
    ≡ r.sales.items → ids ≡ r.last_ids.items → months ≡ r.month_tenths.items → shifts ≡ r.shift_totals.items
    → total_rules_of sales ids months shifts ≡ total_rules r
alike r sales ids months shifts a b c d = cc

pub returns-in_err-test_table-clause-found : goal.returns-in_err-test_table-clause-found
returns-in_err-test_table-clause-found c =
    let r = c.args.rows.now in
    let fault = c.in_err-test_table.field-0.0 in
    let sales = c.as_slice-sales.result.now in
    told_as (Says (FindsFirst (total_rules r))) c.from_residual-in_err-test_table.result fault c.from_residual-in_err-test_table.ensures.1
    (subst (λ ties. Says (FindsFirst ties) fault) (alike r sales c.deref.result.now r.month_tenths.items r.shift_totals.items
    c.as_slice-sales.ensures.value c.deref.ensures.value refl refl)
    (says_left (last_id_rules sales c.deref.result.now)
    (month_tenths_rules sales r.month_tenths.items ++ shift_totals_rules sales r.shift_totals.items) fault c.in_err-test_table.ensures.found))

pub returns-in_err-test_table-2-clause-found : goal.returns-in_err-test_table-2-clause-found
returns-in_err-test_table-2-clause-found c =
    let r = c.args.rows.now in
    let fault = c.in_err-test_table-2.field-0.0 in
    let sales = c.as_slice-sales.result.now in
    let months = month_tenths_rules sales c.deref-2.result.now in
    let shifts = shift_totals_rules sales r.shift_totals.items in
    told_as (Says (FindsFirst (total_rules r))) c.from_residual-in_err-test_table-2.result fault c.from_residual-in_err-test_table-2.ensures.1
    (subst (λ ties. Says (FindsFirst ties) fault) (alike r sales c.deref.result.now c.deref-2.result.now r.shift_totals.items
    c.as_slice-sales.ensures.value c.deref.ensures.value c.deref-2.ensures.value refl)
    (says_right (last_id_rules sales c.deref.result.now) (months ++ shifts) fault c.in_ok-test_table.ensures.passes
    (says_left months shifts fault c.in_err-test_table-2.ensures.found)))

pub returns-clause-passes : goal.returns-clause-passes
returns-clause-passes c =
    let sales = c.as_slice-sales.result.now in
    let months = month_tenths_rules sales c.deref-2.result.now in
    let shifts = shift_totals_rules sales c.deref-3.result.now in
    on_ok c.test_table-3.result (λ kept.
    subst AreKept (alike c.args.rows.now sales c.deref.result.now c.deref-2.result.now c.deref-3.result.now c.as_slice-sales.ensures.value
    c.deref.ensures.value c.deref-2.ensures.value c.deref-3.ensures.value)
    (kept_both (last_id_rules sales c.deref.result.now) (months ++ shifts) c.in_ok-test_table.ensures.passes
    (kept_both months shifts c.in_ok-test_table-2.ensures.passes kept))) c.test_table-3.ensures.passes

pub returns-clause-found : goal.returns-clause-found
returns-clause-found c =
    let sales = c.as_slice-sales.result.now in
    let months = month_tenths_rules sales c.deref-2.result.now in
    let shifts = shift_totals_rules sales c.deref-3.result.now in
    if_err c.test_table-3.result (λ fault found.
    subst (λ ties. Says (FindsFirst ties) fault) (alike c.args.rows.now sales c.deref.result.now c.deref-2.result.now c.deref-3.result.now
    c.as_slice-sales.ensures.value c.deref.ensures.value c.deref-2.ensures.value c.deref-3.ensures.value)
    (says_right (last_id_rules sales c.deref.result.now) (months ++ shifts) fault c.in_ok-test_table.ensures.passes
    (says_right months shifts fault c.in_ok-test_table-2.ensures.passes found))) c.test_table-3.ensures.found
