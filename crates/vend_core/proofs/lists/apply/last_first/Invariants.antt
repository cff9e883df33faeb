use Rattle.std.proofs.Common.{◌≡◌, ◌++◌, length}
use Rattle.vend_core.specs.Lists.PlainRows.{dated_steps_of, meters_of, tariffs_of}
use Rattle.vend_core.proofs.lists.apply.last_first.Given as goal

abbrev pub invariant-loop-row : goal.invariant-loop-row
invariant-loop-row l = record {
  tariffs : l.tariffs.items ++ tariffs_of l.rest.items ≡ tariffs_of l.fn.rows;
  dated_steps : l.dated_steps.items ++ dated_steps_of l.rest.items ≡ dated_steps_of l.fn.rows;
  meters : l.meters.items ++ meters_of l.rest.items ≡ meters_of l.fn.rows;
}

abbrev pub decreases-loop-row : goal.decreases-loop-row
decreases-loop-row l = length l.rest.items
