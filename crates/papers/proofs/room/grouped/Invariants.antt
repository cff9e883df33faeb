use Rattle.std.proofs.Common.{◌≡◌, ◌+◌, ◌*◌, length}
use Rattle.papers.specs.Text.{groups}
use Rattle.papers.proofs.room.grouped.Given as goal

-- the groups so far
abbrev pub invariant-loop-group : goal.invariant-loop-group
invariant-loop-group l = (l.text.items ≡ groups l.digits l.group) × (length l.text.items + 1 ≡ 5 * l.group)
