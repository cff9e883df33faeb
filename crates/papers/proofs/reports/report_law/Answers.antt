use Rattle.papers.proofs.ReportLemmas.{report-sale, report-totals}
use Rattle.papers.proofs.reports.report_law.Goals as goal

pub returns-clause-totals : goal.returns-clause-totals
returns-clause-totals c = report-totals

pub returns-clause-each_sale : goal.returns-clause-each_sale
returns-clause-each_sale c = report-sale
