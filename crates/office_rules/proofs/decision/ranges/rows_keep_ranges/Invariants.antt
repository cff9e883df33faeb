use Rattle.std.proofs.Common.{ℕ, ◌<◌, get_or}
use Rattle.office_rules.specs.Decision.Requests.{IsRow}
use Rattle.office_rules.specs.declared.office.row.Row.{Row}
use Rattle.office_rules.proofs.decision.ranges.rows_keep_ranges.Given as goal

abbrev pub invariant-loop-row : goal.invariant-loop-row
invariant-loop-row l = (k : ℕ) (d : Row) → k < l.row-index → IsRow (get_or l.rows k d)
