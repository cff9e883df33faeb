use Rattle.std.proofs.Common.{◌≡◌, ◌++◌, take}
use Rattle.std.specs.List.{flat_map}
use Rattle.papers.specs.Report.{sale_line, shift_head}
use Rattle.papers.proofs.reports.shift_report.Given as goal

-- the lines of the shift, and a line for each sale so far
abbrev pub invariant-loop-sale : goal.invariant-loop-sale
invariant-loop-sale l = l.text.items ≡ shift_head l.shift ++ flat_map sale_line (take l.sale-index l.sales)
