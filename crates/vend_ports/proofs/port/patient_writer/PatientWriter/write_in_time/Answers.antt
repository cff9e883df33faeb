use Rattle.std.proofs.Common.{◌+◌, ◌≤◌, ◌∷◌, Some, arith}
use Rattle.std.proofs.KnownBytes.{Keeps-trans}
use Rattle.std.specs.Duration.{as_nanos}
use Rattle.vend_ports.specs.port.Waits.{longest_wait, writing_time}
use Rattle.vend_ports.proofs.WaitLemmas.{next_within, sum_on}
use Rattle.vend_ports.proofs.port.patient_writer.PatientWriter.write_in_time.Goals as goal

pub returns-in_default-write_timed-clause-waits : goal.returns-in_default-write_timed-clause-waits
returns-in_default-write_timed-clause-waits g c =
    let inv = c.loop.invariant in
    let wait = as_nanos c.in-Some.wait in
    let all : as_nanos c.loop.vain + wait ≤ longest_wait =
    next_within (g.Q.Queue.tells c.loop.self.queue) writing_time (as_nanos c.loop.vain) (Some c.loop.self.waited) c.in-Some.wait c.in-Some.ensures in
    (wait ∷ inv.times, omega (arith, all, sum_on wait inv.times, inv.counted), (c.loop.self.inner, inv.waited, c.write_timed.ensures.waits))

pub returns-in_default-write_timed-2-clause-waits : goal.returns-in_default-write_timed-2-clause-waits
returns-in_default-write_timed-2-clause-waits g c =
    let inv = c.loop.invariant in
    let wait = as_nanos c.in-Some.wait in
    let all : as_nanos c.loop.vain + wait ≤ longest_wait =
    next_within (g.Q.Queue.tells c.loop.self.queue) writing_time (as_nanos c.loop.vain) (Some c.loop.self.waited) c.in-Some.wait c.in-Some.ensures in
    (wait ∷ inv.times, omega (arith, all, sum_on wait inv.times, inv.counted), (c.loop.self.inner, inv.waited, c.write_timed.ensures.waits))

pub loop-preserved : goal.loop-preserved
loop-preserved g c =
    let inv = c.loop.invariant in
    let wait = as_nanos c.in-Some.wait in
    let all : as_nanos c.loop.vain + wait ≤ longest_wait =
    next_within (g.Q.Queue.tells c.loop.self.queue) writing_time (as_nanos c.loop.vain) (Some c.loop.self.waited) c.in-Some.wait c.in-Some.ensures in
    let more = c.saturating_add-vain.ensures in
    record {
      keeps = Keeps-trans _ _ _ inv.keeps c.in-Err.ensures.bytes;
      within = omega (arith, all, more);
      times = wait ∷ inv.times;
      counted = omega (arith, all, more, sum_on wait inv.times, inv.counted);
      waited = (c.loop.self.inner, inv.waited, c.write_timed.ensures.waits);
    }
