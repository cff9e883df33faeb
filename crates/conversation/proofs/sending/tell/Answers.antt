use Rattle.conversation.specs.Conversation.{interim}
use Rattle.conversation.proofs.UsesLemmas.{whole_none}
use Rattle.conversation.proofs.sending.tell.Goals as goal

pub returns-then-is_due : goal.returns-then-is_due
unfolding interim
returns-then-is_due g c = rw c.if-is_due.true c.send.ensures

pub returns-else-is_due : goal.returns-else-is_due
returns-else-is_due g c = rw c.if-is_due.false (whole_none _)
