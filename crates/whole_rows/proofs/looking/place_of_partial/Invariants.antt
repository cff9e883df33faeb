use Rattle.std.proofs.Common.{take}
use Rattle.whole_rows.specs.Partial.{AreWhole}
use Rattle.whole_rows.proofs.looking.place_of_partial.Given as goal

abbrev pub invariant-rows : goal.invariant-rows
invariant-rows l = AreWhole l.width (take l.at l.rows)
