use Rattle.sim_meter.proofs.PlaceLemmas.{zeros_sorted}
use Rattle.sim_meter.proofs.store.Store.new.Goals as goal

pub invariant_of-result : goal.invariant_of-result
invariant_of-result c = record { sorted = zeros_sorted }
