use Rattle.std.proofs.Common.{◌≡◌, ◌∙◌, length, ap, sym, arith}
use Rattle.desk_client.proofs.ColumnLemmas.{shorter}
use Rattle.desk_client.proofs.ReportLemmas.{ends_behind, ends_here}
use Rattle.desk_client.proofs.report.ends_report.Goals as goal

pub returns-in_default : goal.returns-in_default
returns-in_default c =
    let s = c.lines.sums in
    let here = ends_here s.last s.count s.tenths s.cash c.lines.rest.now c.in_default.ensures in
    let all = c.lines.invariant.0 in
    (λ yes. all.1 (here.0 (c.is_totals.ensures.0 yes)), λ ends. c.is_totals.ensures.1 (here.1 (all.0 ends)))

pub overflow_add-sums-in-lines : goal.overflow_add-sums-in-lines
overflow_add-sums-in-lines c =
    let has = c.in-Some.ensures in
    let most = c.amount_law.ensures.greatest has.sale.tenths has.told.tenths in
    omega (arith, c.lines.invariant.1, c.lines.invariant.2, c.lines.invariant.3, has.columns.tenths, most)

pub lines-smaller : goal.lines-smaller
lines-smaller c =
    let has = c.in-Some.ensures in
    omega (arith, ap length has.written, shorter has.sale c.in-Some.behind.now)

pub lines-preserved : goal.lines-preserved
lines-preserved c =
    let has = c.in-Some.ensures in
    let s = c.lines.sums in
    let all = c.lines.invariant.0 in
    let step = ends_behind c.amount_law.ensures.greatest s.last s.count s.tenths s.cash c.lines.rest.now c.in-Some.line c.in-Some.behind.now has in
    let most = c.amount_law.ensures.greatest has.sale.tenths has.told.tenths in (
      (λ ends. step.0 (all.0 ends), λ ends. all.1 (step.1 ends)),
      omega (arith, c.lines.invariant.1, has.later, has.columns.number),
      omega (arith, has.told.number.most, has.columns.number),
      omega (arith, c.lines.invariant.3, has.columns.tenths, most),
      omega (arith, c.lines.invariant.4, has.columns.price, has.told.price, has.told.tender),
    )
