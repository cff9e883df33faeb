use Rattle.std.proofs.Common.{ℕ, ◌≤◌, List}
use Rattle.std.specs.Io.KnownBytes.{Keeps}
use Rattle.std.specs.List.{AllByRecursion}
use Rattle.vend_ports.specs.port.Waits.{AreWaits, command_time}
use Rattle.vend_ports.proofs.port.command_stream.CommandStreamWrite.write.Given as goal

-- nothing was taken so far, and each use waited no longer than the command may
abbrev pub invariant-loop : goal.invariant-loop
invariant-loop g l = record {
  keeps : Keeps (g.S.WritesWithin.contents l.fn.self.inner) (g.S.WritesWithin.contents l.self.inner);
  times : List ℕ;
  each : AllByRecursion (λ wait. wait ≤ command_time) times;
  waited : AreWaits g.S.WritesWithin.waits times l.fn.self.inner l.self.inner;
}
