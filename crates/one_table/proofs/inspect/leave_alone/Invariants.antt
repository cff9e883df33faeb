use Rattle.std.proofs.Common.{◌≡◌, ◌||◌, not, drop}
use Rattle.std.specs.List.{list_all}
use Rattle.one_table.specs.Referring.{is_idle, points_to}
use Rattle.one_table.proofs.inspect.leave_alone.Given as goal

abbrev pub invariant-loop-reference : goal.invariant-loop-reference
invariant-loop-reference l =
    list_all (λ r. is_idle r || not (points_to l.schema l.tree r)) (drop l.reference-index l.references)
    ≡ list_all (λ r. is_idle r || not (points_to l.schema l.tree r)) l.references
