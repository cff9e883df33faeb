use Rattle.std.proofs.Math.Logic.{∥∥₁_map}
use Rattle.terminal_advice.proofs.RemembersLemmas.{remembers_kept}
use Rattle.terminal_advice.proofs.remembering.RememberingWrite.flush.Goals as goal

pub invariant_of-self : goal.invariant_of-self
invariant_of-self g c = record { remembers = ∥∥₁_map c.args.self.now.remembers (remembers_kept _ _ _ _ c.flush.ensures.bytes) }
