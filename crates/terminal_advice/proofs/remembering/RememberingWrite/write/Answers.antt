use Rattle.std.proofs.Math.Logic.{∥∥₁_map}
use Rattle.terminal_advice.proofs.RemembersLemmas.{remembers_kept, remembers_more, write_failed, write_taken}
use Rattle.terminal_advice.proofs.remembering.RememberingWrite.write.Goals as goal

pub invariant_of-self : goal.invariant_of-self
invariant_of-self g c =
    record { remembers = ∥∥₁_map c.args.self.now.remembers (remembers_more _ _ _ _ _ _ (write_taken _ _ _ _ _ c.in-Ok.is c.write.ensures.bytes) c.pass.ensures) }

pub invariant_of-self-in-Err-1 : goal.invariant_of-self-in-Err-1
invariant_of-self-in-Err-1 g c =
    record { remembers = ∥∥₁_map c.args.self.now.remembers (remembers_kept _ _ _ _ (write_failed _ _ _ _ _ c.in-Err.is c.write.ensures.bytes)) }
