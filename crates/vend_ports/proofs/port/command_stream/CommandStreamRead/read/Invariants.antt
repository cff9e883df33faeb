use Rattle.std.proofs.Common.{ℕ, ◌≤◌, List}
use Rattle.std.specs.Io.KnownBytes.{Keeps}
use Rattle.std.specs.List.{AllByRecursion}
use Rattle.vend_ports.specs.port.Waits.{AreWaits, command_time}
use Rattle.vend_ports.proofs.port.command_stream.CommandStreamRead.read.Given as goal

-- nothing came so far, and each use waited no longer than the command may
abbrev pub invariant-loop : goal.invariant-loop
invariant-loop g l = record {
  keeps : Keeps (g.S.ReadsWithin.remaining l.fn.self.inner) (g.S.ReadsWithin.remaining l.self.inner);
  times : List ℕ;
  each : AllByRecursion (λ wait. wait ≤ command_time) times;
  waited : AreWaits g.S.ReadsWithin.waits times l.fn.self.inner l.self.inner;
}
