use Rattle.conversation.proofs.ReadingLemmas.{one_reading}
use Rattle.conversation.proofs.message.next.message_law.Goals as goal

pub returns : goal.returns
returns c = one_reading
