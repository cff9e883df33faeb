use Rattle.std.proofs.Common.{refl}
use Rattle.vend_commands.specs.commands.Selfchecked.Disagrees.{in_memory, unlike}
use Rattle.vend_commands.proofs.SelfcheckLemmas.{not_read}
use Rattle.vend_commands.proofs.selfcheck.selfcheck.Goals as goal

pub returns-in-Err-clause-disagrees : goal.returns-in-Err-clause-disagrees
returns-in-Err-clause-disagrees g c = in_memory c.in-Err.ensures.none

pub returns-in-Ok-false-clause-disagrees : goal.returns-in-Ok-false-clause-disagrees
returns-in-Ok-false-clause-disagrees g c =
    unlike c.in-Ok.replies.items c.in-Ok.ensures.replies c.in-Ok-replies_over_net.stream c.in-Ok-replies_over_net.ensures.answered refl

pub returns-clause-disagrees : goal.returns-clause-disagrees
returns-clause-disagrees g c =
    not_read _ _ _ _ _ _ _ c.in-Ok.replies.items c.in-Ok.ensures.replies c.in-Ok-replies_over_net.stream
    c.in-Ok-replies_over_net.ensures.answered c.net_fault_of.ensures
