use Rattle.std.proofs.Common.{◌≡◌, drop}
use Rattle.vend_core.specs.Lists.PlainRows.{steps_from}
use Rattle.vend_core.proofs.lists.look_up.steps_from.Given as goal

abbrev pub invariant-loop-row : goal.invariant-loop-row
invariant-loop-row l = steps_from l.rows l.name l.day ≡ steps_from (drop l.row-index l.rows) l.name l.day
