use Rattle.std.proofs.Common.{◌∷◌, subst, sym}
use Rattle.std.specs.Duration.{as_nanos}
use Rattle.std.specs.Io.KnownBytes.{Keeps}
use Rattle.std.proofs.KnownBytes.{Keeps-trans}
use Rattle.vend_ports.specs.port.Waits.{AreWaits}
use Rattle.vend_ports.proofs.port.command_stream.CommandStreamRead.read.Goals as goal

pub returns-in_default-read_within-clause-waits : goal.returns-in_default-read_within-clause-waits
returns-in_default-read_within-clause-waits g c =
    let inv = c.loop.invariant in
    (as_nanos c.in-Some.wait ∷ inv.times, (c.in-Some.ensures, inv.each), (c.loop.self.inner, inv.waited, c.read_within.ensures.waits))

pub returns-in_default-read_within-2-clause-waits : goal.returns-in_default-read_within-2-clause-waits
returns-in_default-read_within-2-clause-waits g c =
    let inv = c.loop.invariant in
    (as_nanos c.in-Some.wait ∷ inv.times, (c.in-Some.ensures, inv.each), (c.loop.self.inner, inv.waited, c.read_within.ensures.waits))

pub loop-preserved : goal.loop-preserved
loop-preserved g c =
    let inv = c.loop.invariant in
    let first = c.args.self.now.inner in
    let same = sym c.tell.ensures in
    let times = as_nanos c.in-Some.wait ∷ inv.times in
    record {
      keeps = subst (λ last. Keeps (g.S.ReadsWithin.remaining first) (g.S.ReadsWithin.remaining last)) same (Keeps-trans _ _ _ inv.keeps c.in-Err.ensures.bytes);
      times = times;
      each = (c.in-Some.ensures, inv.each);
      waited = subst (λ last. AreWaits g.S.ReadsWithin.waits times first last) same (c.loop.self.inner, inv.waited, c.read_within.ensures.waits);
    }
