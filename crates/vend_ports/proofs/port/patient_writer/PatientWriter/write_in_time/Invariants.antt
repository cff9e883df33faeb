use Rattle.std.proofs.Common.{◌≡◌, ℕ, ◌≤◌, List, sum}
use Rattle.std.specs.Duration.{as_nanos}
use Rattle.std.specs.Io.KnownBytes.{Keeps}
use Rattle.vend_ports.specs.port.Waits.{AreWaits, longest_wait}
use Rattle.vend_ports.proofs.port.patient_writer.PatientWriter.write_in_time.Given as goal

-- nothing was taken so far, and it waited for no longer than what it waited in vain
abbrev pub invariant-loop : goal.invariant-loop
invariant-loop g l = record {
  keeps : Keeps (g.W.WritesWithin.contents l.fn.self.inner) (g.W.WritesWithin.contents l.self.inner);
  within : as_nanos l.vain ≤ longest_wait;
  times : List ℕ;
  counted : sum times ≡ as_nanos l.vain;
  waited : AreWaits g.W.WritesWithin.waits times l.fn.self.inner l.self.inner;
}
