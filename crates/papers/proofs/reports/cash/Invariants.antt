use Rattle.std.proofs.Common.{◌≡◌, ◌*◌, ◌≤◌, ◌^◌, take}
use Rattle.office_rules.specs.Law.Cash.{cash_of}
use Rattle.papers.proofs.reports.cash.Given as goal

-- what the sales so far come to, each below 2 ^ 32
abbrev pub invariant-loop-sale : goal.invariant-loop-sale
invariant-loop-sale l = (l.sum ≡ cash_of (take l.sale-index l.sales)) × (l.sum ≤ l.sale-index * 2 ^ 32)
