use Rattle.std.proofs.Common.{◌≡◌, ◌*◌, ◌≤◌, ◌^◌, take}
use Rattle.papers.specs.Report.{sum_of_tenths}
use Rattle.papers.proofs.reports.tenths.Given as goal

-- what the sales so far come to, each below 2 ^ 32
abbrev pub invariant-loop-sale : goal.invariant-loop-sale
invariant-loop-sale l = (l.sum ≡ sum_of_tenths (take l.sale-index l.sales)) × (l.sum ≤ l.sale-index * 2 ^ 32)
