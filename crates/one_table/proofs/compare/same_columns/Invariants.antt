use Rattle.std.proofs.Common.{◌≡◌, true, take}
use Rattle.std.specs.List.{list_all}
use Rattle.one_table.specs.Comparing.{has_no_default}
use Rattle.one_table.proofs.compare.same_columns.Given as goal

abbrev pub invariant-loop-at : goal.invariant-loop-at
invariant-loop-at l = record { same : take l.at l.a ≡ take l.at l.b; plain : list_all has_no_default (take l.at l.b) ≡ true }
