use Rattle.std.proofs.Common.{◌≡◌, ◌++◌, List, map, take}
use Rattle.clap.specs.Simple.{Shape, app_of}
use Rattle.command_line.specs.Description.{shape_of_description}
use Rattle.command_line.specs.Line.{line_of_commands}
use Rattle.command_line.proofs.line.with.Given as goal

-- it has the commands so far, after those that it had
abbrev pub invariant-loop-description : goal.invariant-loop-description
invariant-loop-description l = (before : List Shape) → app_of l.fn.line ≡ line_of_commands before
    → app_of l.line ≡ line_of_commands (before ++ map shape_of_description (take l.description-index l.descriptions))
