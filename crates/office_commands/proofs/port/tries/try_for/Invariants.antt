use Rattle.std.proofs.Common.{◌≡◌, ◌*◌}
use Rattle.office_commands.proofs.port.tries.try_for.Given as goal

-- it paused for ten milliseconds so often
abbrev pub invariant-loop-pause : goal.invariant-loop-pause
invariant-loop-pause g l = g.T.Tries.paused l.tries ≡ l._pause * 10
