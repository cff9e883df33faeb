use Rattle.conversation.proofs.UsesLemmas.{whole_none}
use Rattle.conversation.proofs.conversation.refuse.Goals as goal

pub returns : goal.returns
returns g c = whole_none _
