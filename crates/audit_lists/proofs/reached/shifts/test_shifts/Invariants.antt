use Rattle.std.proofs.Common.{◌≡◌, ◌⊎◌, ◌≤◌, length}
use Rattle.audit_lists.specs.reached.Shifts.{AreClosedFirst, IsAfterOpen}
use Rattle.audit_lists.proofs.reached.shifts.test_shifts.Given as goal

abbrev pub invariant-shifts : goal.invariant-shifts
invariant-shifts l = record {
  within : l.end ≤ length l.shifts;
  closed : AreClosedFirst l.shifts l.at l.end;
  after : (l.end ≡ length l.shifts) ⊎ IsAfterOpen l.shifts l.end;
}
