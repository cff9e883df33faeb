use Rattle.std.proofs.Common.{◌≡◌, ◌++◌, drop, map, take}
use Rattle.vend_core.specs.Lists.PlainRows.{row_put}
use Rattle.vend_core.proofs.lists.apply.put_meter_in.Given as goal

abbrev pub invariant-loop-row : goal.invariant-loop-row
invariant-loop-row l =
    l.meters ≡ map (row_put l.number l.meter) (take l.row-index l.initial.meters) ++ drop l.row-index l.initial.meters
