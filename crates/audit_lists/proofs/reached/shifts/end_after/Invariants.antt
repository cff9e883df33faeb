use Rattle.std.proofs.Common.{◌+◌}
use Rattle.audit_lists.specs.reached.Lasts.{NoneBetween}
use Rattle.audit_lists.proofs.reached.shifts.end_after.Given as goal

abbrev pub invariant-later : goal.invariant-later
invariant-later l = NoneBetween l.shifts (l.at + 1) l.later l.shift.operator
