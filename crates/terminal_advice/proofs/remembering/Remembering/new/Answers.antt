use Rattle.terminal_advice.proofs.RemembersLemmas.{remembers_none}
use Rattle.terminal_advice.proofs.remembering.Remembering.new.Goals as goal

pub invariant_of-result : goal.invariant_of-result
invariant_of-result g c = record { remembers = ∣ remembers_none _ _ _ c.requires c.new.ensures ∣₁ }
