use Rattle.std.proofs.Common.{map, take}
use Rattle.command_line.specs.Description.{rule_of_argument}
use Rattle.command_line.specs.Line.{IsDescribed, command_named}
use Rattle.command_line.proofs.description.Description.command.Given as goal

-- it has the arguments so far
abbrev pub invariant-loop-argument : goal.invariant-loop-argument
invariant-loop-argument l = IsDescribed (command_named l.self.name.now (map rule_of_argument (take l.argument-index l.argument-items))) l.command
