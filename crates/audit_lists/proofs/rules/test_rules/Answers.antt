use Rattle.std.proofs.Common.{◌≡◌, ◌++◌, ℕ, List, length, refl, subst}
use Rattle.one_table.proofs.ChangeLemmas.{if_err, on_ok, told_as}
use Rattle.office_rules.specs.declared.office.sale.Sale.{Sale}
use Rattle.office_rules.specs.declared.office.shift.Shift.{Shift}
use Rattle.book_tables.specs.declared.reading.pages.MeterRow.{MeterRow}
use Rattle.audit_rows.specs.declared.office_rows.OfficeRows.{OfficeRows}
use Rattle.audit_rows.specs.declared.rows.BaseRow.{BaseRow}
use Rattle.audit_rows.specs.declared.rows.DatedStepRow.{DatedStepRow}
use Rattle.audit_rows.specs.declared.rows.StepRow.{StepRow}
use Rattle.audit_lists.specs.Rules.{dated_rules, meter_rules, sale_rules, shift_rules, tariff_rules, tie_rules}
use Rattle.audit_lists.specs.Ties.{AreKept, FindsFirst, Says, Tie}
use Rattle.audit_lists.proofs.TieLemmas.{kept_both, says_left, says_right}
use Rattle.audit_lists.proofs.rules.test_rules.Goals as goal

abbrev rules_of : List (List ℕ) → List StepRow → List DatedStepRow → List MeterRow → List BaseRow → List Shift → List Sale → List Tie
rules_of t s d m b h l = tariff_rules t s ++ dated_rules t d ++ meter_rules t m b ++ shift_rules h ++ sale_rules (length h) b l

-- the rules of slices are those of the lists that they are of
alike : (r : OfficeRows) (t : List (List ℕ)) (s : List StepRow) (d : List DatedStepRow) (m : List MeterRow) (b : List BaseRow) (h : List Shift) (l : List Sale)
    → t ≡ r.tariffs.items → s ≡ r.steps.items → d ≡ r.dated_steps.items → m ≡ r.meters.items → b ≡ r.bases.items → h ≡ r.shifts.items → l ≡ r.sales.items
    → rules_of t s d m b h l ≡ tie_rules r
alike r t s d m b h l et es ed em eb eh el = cc

pub returns-in_err-names-clause-found : goal.returns-in_err-names-clause-found
returns-in_err-names-clause-found c =
    let r = c.args.rows.now in
    let names = c.as_slice-tariffs.result.now in
    let base_rows = c.as_slice-bases.result.now in
    let shift_rows = c.as_slice-shifts.result.now in
    let fault = c.in_err-names.field-0.0 in
    let tariffs = tariff_rules names c.deref.result.now in
    let dated = dated_rules names r.dated_steps.items in
    let meters = meter_rules names r.meters.items base_rows in
    let shifts = shift_rules shift_rows in
    let sales = sale_rules (length shift_rows) base_rows r.sales.items in
    told_as (Says (FindsFirst (tie_rules r))) c.from_residual.result fault c.from_residual.ensures.1
    (subst (λ ties. Says (FindsFirst ties) fault) (alike r names c.deref.result.now r.dated_steps.items r.meters.items base_rows shift_rows
    r.sales.items c.as_slice-tariffs.ensures.value c.deref.ensures.value refl refl c.as_slice-bases.ensures.value c.as_slice-shifts.ensures.value refl)
    (says_left tariffs (dated ++ meters ++ shifts ++ sales) fault c.in_err-names.ensures.found))

pub returns-in_err-test_dated-clause-found : goal.returns-in_err-test_dated-clause-found
returns-in_err-test_dated-clause-found c =
    let r = c.args.rows.now in
    let names = c.as_slice-tariffs.result.now in
    let base_rows = c.as_slice-bases.result.now in
    let shift_rows = c.as_slice-shifts.result.now in
    let fault = c.in_err-test_dated.field-0.0 in
    let tariffs = tariff_rules names c.deref.result.now in
    let dated = dated_rules names c.deref-2.result.now in
    let meters = meter_rules names r.meters.items base_rows in
    let shifts = shift_rules shift_rows in
    let sales = sale_rules (length shift_rows) base_rows r.sales.items in
    told_as (Says (FindsFirst (tie_rules r))) c.from_residual-in_err-test_dated.result fault c.from_residual-in_err-test_dated.ensures.1
    (subst (λ ties. Says (FindsFirst ties) fault) (alike r names c.deref.result.now c.deref-2.result.now r.meters.items base_rows
    shift_rows r.sales.items c.as_slice-tariffs.ensures.value c.deref.ensures.value c.deref-2.ensures.value refl
    c.as_slice-bases.ensures.value c.as_slice-shifts.ensures.value refl)
    (says_right tariffs (dated ++ meters ++ shifts ++ sales) fault c.in_ok-names.ensures.passes
    (says_left dated (meters ++ shifts ++ sales) fault c.in_err-test_dated.ensures.found)))

pub returns-in_err-places-clause-found : goal.returns-in_err-places-clause-found
returns-in_err-places-clause-found c =
    let r = c.args.rows.now in
    let names = c.as_slice-tariffs.result.now in
    let base_rows = c.as_slice-bases.result.now in
    let shift_rows = c.as_slice-shifts.result.now in
    let fault = c.in_err-places.field-0.0 in
    let tariffs = tariff_rules names c.deref.result.now in
    let dated = dated_rules names c.deref-2.result.now in
    let meters = meter_rules names c.deref-3.result.now base_rows in
    let shifts = shift_rules shift_rows in
    let sales = sale_rules (length shift_rows) base_rows r.sales.items in
    told_as (Says (FindsFirst (tie_rules r))) c.from_residual-in_err-places.result fault c.from_residual-in_err-places.ensures.1
    (subst (λ ties. Says (FindsFirst ties) fault) (alike r names c.deref.result.now c.deref-2.result.now c.deref-3.result.now base_rows
    shift_rows r.sales.items c.as_slice-tariffs.ensures.value c.deref.ensures.value c.deref-2.ensures.value c.deref-3.ensures.value
    c.as_slice-bases.ensures.value c.as_slice-shifts.ensures.value refl)
    (says_right tariffs (dated ++ meters ++ shifts ++ sales) fault c.in_ok-names.ensures.passes
    (says_right dated (meters ++ shifts ++ sales) fault c.in_ok-test_dated.ensures.passes
    (says_left meters (shifts ++ sales) fault c.in_err-places.ensures.found))))

pub returns-in_err-test_shifts-clause-found : goal.returns-in_err-test_shifts-clause-found
returns-in_err-test_shifts-clause-found c =
    let r = c.args.rows.now in
    let names = c.as_slice-tariffs.result.now in
    let base_rows = c.as_slice-bases.result.now in
    let shift_rows = c.as_slice-shifts.result.now in
    let fault = c.in_err-test_shifts.field-0.0 in
    let tariffs = tariff_rules names c.deref.result.now in
    let dated = dated_rules names c.deref-2.result.now in
    let meters = meter_rules names c.deref-3.result.now base_rows in
    let shifts = shift_rules shift_rows in
    let sales = sale_rules (length shift_rows) base_rows r.sales.items in
    told_as (Says (FindsFirst (tie_rules r))) c.from_residual-in_err-test_shifts.result fault c.from_residual-in_err-test_shifts.ensures.1
    (subst (λ ties. Says (FindsFirst ties) fault) (alike r names c.deref.result.now c.deref-2.result.now c.deref-3.result.now base_rows
    shift_rows r.sales.items c.as_slice-tariffs.ensures.value c.deref.ensures.value c.deref-2.ensures.value c.deref-3.ensures.value
    c.as_slice-bases.ensures.value c.as_slice-shifts.ensures.value refl)
    (says_right tariffs (dated ++ meters ++ shifts ++ sales) fault c.in_ok-names.ensures.passes
    (says_right dated (meters ++ shifts ++ sales) fault c.in_ok-test_dated.ensures.passes
    (says_right meters (shifts ++ sales) fault c.in_ok-places.ensures.passes (says_left shifts sales fault c.in_err-test_shifts.ensures.found)))))

pub returns-clause-found : goal.returns-clause-found
returns-clause-found c =
    let r = c.args.rows.now in
    let names = c.as_slice-tariffs.result.now in
    let base_rows = c.as_slice-bases.result.now in
    let shift_rows = c.as_slice-shifts.result.now in
    let tariffs = tariff_rules names c.deref.result.now in
    let dated = dated_rules names c.deref-2.result.now in
    let meters = meter_rules names c.deref-3.result.now base_rows in
    let shifts = shift_rules shift_rows in
    let sales = sale_rules (length shift_rows) base_rows c.deref-4.result.now in
    if_err c.test_sales.result (λ fault found.
    subst (λ ties. Says (FindsFirst ties) fault) (alike r names c.deref.result.now c.deref-2.result.now c.deref-3.result.now base_rows
    shift_rows c.deref-4.result.now c.as_slice-tariffs.ensures.value c.deref.ensures.value c.deref-2.ensures.value
    c.deref-3.ensures.value c.as_slice-bases.ensures.value c.as_slice-shifts.ensures.value c.deref-4.ensures.value)
    (says_right tariffs (dated ++ meters ++ shifts ++ sales) fault c.in_ok-names.ensures.passes
    (says_right dated (meters ++ shifts ++ sales) fault c.in_ok-test_dated.ensures.passes
    (says_right meters (shifts ++ sales) fault c.in_ok-places.ensures.passes (says_right shifts sales fault c.in_ok-test_shifts.ensures.passes found)))))
    c.test_sales.ensures.found

pub returns-clause-passes : goal.returns-clause-passes
returns-clause-passes c =
    let r = c.args.rows.now in
    let names = c.as_slice-tariffs.result.now in
    let base_rows = c.as_slice-bases.result.now in
    let shift_rows = c.as_slice-shifts.result.now in
    let tariffs = tariff_rules names c.deref.result.now in
    let dated = dated_rules names c.deref-2.result.now in
    let meters = meter_rules names c.deref-3.result.now base_rows in
    let shifts = shift_rules shift_rows in
    let sales = sale_rules (length shift_rows) base_rows c.deref-4.result.now in
    on_ok c.test_sales.result (λ kept.
    subst AreKept (alike r names c.deref.result.now c.deref-2.result.now c.deref-3.result.now base_rows shift_rows c.deref-4.result.now
    c.as_slice-tariffs.ensures.value c.deref.ensures.value c.deref-2.ensures.value c.deref-3.ensures.value
    c.as_slice-bases.ensures.value c.as_slice-shifts.ensures.value c.deref-4.ensures.value)
    (kept_both tariffs (dated ++ meters ++ shifts ++ sales) c.in_ok-names.ensures.passes
    (kept_both dated (meters ++ shifts ++ sales) c.in_ok-test_dated.ensures.passes
    (kept_both meters (shifts ++ sales) c.in_ok-places.ensures.passes (kept_both shifts sales c.in_ok-test_shifts.ensures.passes kept)))))
    c.test_sales.ensures.passes
