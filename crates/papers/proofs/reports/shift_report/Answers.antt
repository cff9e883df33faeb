use Rattle.std.proofs.Common.{arith}
use Rattle.std.proofs.lemmas.List.{take_all}
use Rattle.papers.proofs.ReportLemmas.{report-parts}
use Rattle.papers.proofs.reports.shift_report.Goals as goal

pub returns : goal.returns
returns c =
    let parts = report-parts c.args.shift.now c.args.sales.now in
    grind (arith, take_all)
