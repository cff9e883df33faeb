use Rattle.std.proofs.Common.{◌≤◌, length, max, min}
use Rattle.audit_lists.specs.reached.Lasts.{AreLasts}
use Rattle.audit_lists.proofs.reached.lasts.add_shifts.Given as goal

abbrev pub invariant-shifts : goal.invariant-shifts
invariant-shifts l = record {
  bound : l.at ≤ max l.latest l.end;
  lasts : AreLasts l.fn.lasts l.shifts (min (length l.shifts) l.latest) → AreLasts l.lasts l.shifts (min (length l.shifts) l.at);
}
