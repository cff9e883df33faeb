use Rattle.std.proofs.Common.{[], ◌∷◌, Ok, refl, sym, ap, ◌∙◌, arith}
use Rattle.office_rules.specs.Law.Cash.{cash_of}
use Rattle.office_rules.specs.Office.{empty_office}
use Rattle.office_rules.specs.declared.decision.request.Request.TheVariants.{ShiftReport}
use Rattle.office_rules.specs.declared.decision.request.Stamped.{Stamped}
use Rattle.vend_core.specs.Lists.{office_of, transform_of}
use Rattle.core_tests.proofs.CashLemmas.{cash_alone, ends_with_cash}
use Rattle.core_tests.proofs.LivedLemmas.{leads, one_item}
use Rattle.core_tests.proofs.laws.office.reported.Goals as goal

pub returns-in-Ok-Report : goal.returns-in-Ok-Report
returns-in-Ok-Report g c =
    let forwards = g.T.BlockTransform.forwards in
    let found = c.in_ok-lists.field-0 in
    let sold = c.in_ok-lists.ensures.sold in
    let o = office_of found.lists in
    let forward = forwards (transform_of found.lists) in
    let told = c.in-Ok-Report in
    let shifts = sym c.shifts.ensures ∙ one_item c.shifts.result.now c.shift-item.result (omega (arith, c.in-len1.len_at_least)) (omega (arith, c.in-len1.len_below)) c.shift-item.is in
    let at : Stamped = record {
      moment = c.args.moment;
      nibble = 0;
      request = ShiftReport c.shift-item.result.number;
      nibble_in_range = omega arith;
    } in
    let cash = cash_alone forward o (office_of c.serve.new.self) at c.serve.result c.shift-item.result told.shift found.sale told.sales
    c.serve.ensures.served (told.is ∙ ap Ok told.field-0-is) refl shifts sold.sales
    (λ ats asks. c.history_law.ensures.cash (sold.lived.life ∷ []) forward o ats (leads empty_office (forwards c.args.transform) o sold.lived) asks) in
    let sales = c.as_slice.result.now in
    let totals = c.report_law.ensures.totals told.shift sales in
    ends_with_cash (c.in_ok-shift_report-in-Ok-Report).field-0.items totals.0 sales found.sale.price
    ((c.in_ok-shift_report-in-Ok-Report).ensures ∙ totals.1) (ap cash_of c.as_slice.ensures ∙ cash)
