use Rattle.std.proofs.Common.{◌≡◌, ◌++◌, drop}
use Rattle.std.specs.List.{flat_map}
use Rattle.desk_commands.proofs.print.table.put_members.Given as goal

-- the lines of the first members were added, and those of the others are left
abbrev pub invariant-loop-member : goal.invariant-loop-member
invariant-loop-member g l =
    l.text.items ++ flat_map g.M.TableRow.lines (drop l.member-index l.members) ≡ l.fn.text.items ++ flat_map g.M.TableRow.lines l.members
