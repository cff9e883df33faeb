use Rattle.std.proofs.Common.{◌≡◌, ◌-◌, ◌≤◌}
use Rattle.sim_meter.specs.Probe.{true_count}
use Rattle.sim_meter.proofs.ProbeLemmas.{IsAsked}
use Rattle.sim_meter.proofs.probe.place.Given as goal

-- the true values end between the two places, and each question halved what lies between
abbrev pub invariant-loop-low : goal.invariant-loop-low
invariant-loop-low g l = record {
  same : g.P.Probe.values l.probe ≡ g.P.Probe.values l.initial.probe;
  above : l.low ≤ true_count (g.P.Probe.values l.probe);
  under : true_count (g.P.Probe.values l.probe) ≤ l.high;
  within : l.high ≤ 50;
  asked : IsAsked (g.P.Probe.count l.initial.probe) (g.P.Probe.count l.probe) l.low l.high;
}

abbrev pub decreases-loop-low : goal.decreases-loop-low
decreases-loop-low g l = l.high - l.low
