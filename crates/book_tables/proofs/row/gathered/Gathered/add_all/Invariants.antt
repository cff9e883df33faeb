use Rattle.std.proofs.Common.{◌≤◌, ◌+◌, ◌^◌, List, ◌++◌, length, take}
use Rattle.office_rules.specs.declared.office.sale.Sale.{Sale}
use Rattle.book_tables.specs.row.Gathered.{IsGathered}
use Rattle.book_tables.proofs.row.gathered.Gathered.add_all.Given as goal

abbrev pub invariant-all : goal.invariant-all
invariant-all l = record {
  within : l.sale-index ≤ length l.sales;
  gathered : (before : List Sale) → length before + length l.sales ≤ 2 ^ 32 → IsGathered before l.fn.self
      → IsGathered (before ++ take l.sale-index l.sales) l.self;
}
