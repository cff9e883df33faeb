use Rattle.std.proofs.Common.{◌+◌, ◌≤◌, ◌∷◌, arith}
use Rattle.std.proofs.KnownBytes.{Keeps-trans}
use Rattle.std.specs.Duration.{as_nanos}
use Rattle.vend_ports.specs.port.Waits.{longest_wait, reading_time}
use Rattle.vend_ports.proofs.WaitLemmas.{next_within, sum_on}
use Rattle.vend_ports.proofs.port.patient.PatientReader.read_in_time.Goals as goal

pub returns-in_default-read_within-clause-waits : goal.returns-in_default-read_within-clause-waits
returns-in_default-read_within-clause-waits g c =
    let inv = c.loop.invariant in
    let wait = as_nanos c.in-Some.wait in
    let all : as_nanos c.loop.vain + wait ≤ longest_wait =
    next_within (g.Q.Queue.tells c.loop.self.queue) reading_time (as_nanos c.loop.vain) c.in-Some.ensures.0 c.in-Some.wait c.in-Some.ensures.1 in
    (wait ∷ inv.times, omega (arith, all, sum_on wait inv.times, inv.counted), (c.loop.self.inner, inv.waited, c.read_within.ensures.waits))

pub returns-in_default-read_within-2-clause-waits : goal.returns-in_default-read_within-2-clause-waits
returns-in_default-read_within-2-clause-waits g c =
    let inv = c.loop.invariant in
    let wait = as_nanos c.in-Some.wait in
    let all : as_nanos c.loop.vain + wait ≤ longest_wait =
    next_within (g.Q.Queue.tells c.loop.self.queue) reading_time (as_nanos c.loop.vain) c.in-Some.ensures.0 c.in-Some.wait c.in-Some.ensures.1 in
    (wait ∷ inv.times, omega (arith, all, sum_on wait inv.times, inv.counted), (c.loop.self.inner, inv.waited, c.read_within.ensures.waits))

pub loop-preserved : goal.loop-preserved
loop-preserved g c =
    let inv = c.loop.invariant in
    let wait = as_nanos c.in-Some.wait in
    let all : as_nanos c.loop.vain + wait ≤ longest_wait =
    next_within (g.Q.Queue.tells c.loop.self.queue) reading_time (as_nanos c.loop.vain) c.in-Some.ensures.0 c.in-Some.wait c.in-Some.ensures.1 in
    let more = c.saturating_add-vain.ensures in
    record {
      keeps = Keeps-trans _ _ _ inv.keeps c.in-Err.ensures.bytes;
      within = omega (arith, all, more);
      times = wait ∷ inv.times;
      counted = omega (arith, all, more, sum_on wait inv.times, inv.counted);
      waited = (c.loop.self.inner, inv.waited, c.read_within.ensures.waits);
    }
