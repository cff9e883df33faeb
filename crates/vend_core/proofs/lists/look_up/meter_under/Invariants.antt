use Rattle.std.proofs.Common.{◌≡◌, drop}
use Rattle.vend_core.specs.Lists.PlainRows.{row_of}
use Rattle.vend_core.proofs.lists.look_up.meter_under.Given as goal

abbrev pub invariant-loop-row : goal.invariant-loop-row
invariant-loop-row l = row_of l.rows l.number ≡ row_of (drop l.row-index l.rows) l.number
