use Rattle.std.proofs.Common.{◌≡◌}
use Rattle.office_rules.specs.Office.Lookup.{latest}
use Rattle.vend_core.specs.Lists.PlainRows.{steps_from}
use Rattle.vend_core.proofs.lists.look_up.latest_steps.Given as goal

abbrev pub invariant-loop-first : goal.invariant-loop-first
invariant-loop-first l = latest (steps_from l.rows l.name) l.fn.day ≡ latest (steps_from l.rows l.name) l.first

abbrev pub decreases-loop-first : goal.decreases-loop-first
decreases-loop-first l = l.first
