use Rattle.std.proofs.Common.{◌+◌, sym, ◌∙◌, arith}
use Rattle.sim_meter.proofs.ProbeLemmas.{asked_more, false_is_from, true_is_within}
use Rattle.sim_meter.proofs.probe.place.Goals as goal

pub loop-low-preserved-then-below : goal.loop-low-preserved-then-below
loop-low-preserved-then-below g c =
    let low = c.loop-low.low in
    let high = c.loop-low.high in
    let middle = c.midpoint-middle.result in
    let halfway = c.midpoint-middle.ensures in
    let kept = c.loop-low.invariant in
    let open_still = c.loop-low-test.true in
    let within = true_is_within (g.P.Probe.values c.loop-low.probe)
    (g.met.P.Probe.true_first c.loop-low.probe) middle
    (sym c.below.ensures.value ∙ c.if-below.true) in
    record {
      same = c.below.ensures.same ∙ kept.same;
      above = rw c.below.ensures.same (omega (arith, within));
      under = rw c.below.ensures.same kept.under;
      within = kept.within;
      asked = rw c.below.ensures.counted
          (asked_more (g.P.Probe.count c.args.probe.now) (g.P.Probe.count c.loop-low.probe) low high
          (middle + 1) high kept.asked open_still (omega arith));
    }

pub loop-low-preserved : goal.loop-low-preserved
loop-low-preserved g c =
    let low = c.loop-low.low in
    let high = c.loop-low.high in
    let middle = c.midpoint-middle.result in
    let halfway = c.midpoint-middle.ensures in
    let kept = c.loop-low.invariant in
    let open_still = c.loop-low-test.true in
    let from = false_is_from (g.P.Probe.values c.loop-low.probe)
    (g.met.P.Probe.true_first c.loop-low.probe) middle
    (sym c.below.ensures.value ∙ c.if-below.false) in
    record {
      same = c.below.ensures.same ∙ kept.same;
      above = rw c.below.ensures.same kept.above;
      under = rw c.below.ensures.same from;
      within = omega (arith, kept.within);
      asked = rw c.below.ensures.counted
          (asked_more (g.P.Probe.count c.args.probe.now) (g.P.Probe.count c.loop-low.probe) low high
          low middle kept.asked open_still (omega arith));
    }
