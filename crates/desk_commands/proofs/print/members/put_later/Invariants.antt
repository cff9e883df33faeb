use Rattle.std.proofs.Common.{◌≡◌, ◌++◌, drop}
use Rattle.std.specs.List.{flat_map}
use Rattle.desk_commands.specs.print.ListTexts.{later_line}
use Rattle.desk_commands.proofs.print.members.put_later.Given as goal

-- the lines of the first days were added, and those of the others are left
abbrev pub invariant-loop-steps : goal.invariant-loop-steps
invariant-loop-steps l =
    l.text.items ++ flat_map (later_line l.name) (drop l.steps-index l.later) ≡ l.fn.text.items ++ flat_map (later_line l.name) l.later
