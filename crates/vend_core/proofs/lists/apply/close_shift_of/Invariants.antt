use Rattle.std.proofs.Common.{◌≡◌, ◌++◌, ◌==◌, if◌then◌else◌, drop, map, take}
use Rattle.office_rules.specs.Decision.Fold.{closed_at}
use Rattle.vend_core.proofs.lists.apply.close_shift_of.Given as goal

abbrev pub invariant-loop-shift : goal.invariant-loop-shift
invariant-loop-shift l =
    l.shifts ≡ map (λ s. if s.number == l.number then closed_at l.moment s else s) (take l.shift-index l.initial.shifts)
    ++ drop l.shift-index l.initial.shifts
