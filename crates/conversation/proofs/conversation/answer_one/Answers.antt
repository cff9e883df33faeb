use Rattle.conversation.proofs.UsesLemmas.{whole_none}
use Rattle.conversation.proofs.conversation.answer_one.Goals as goal

pub returns-in-Err-clause-written : goal.returns-in-Err-clause-written
returns-in-Err-clause-written g c = (c.in-Err.ensures.err, whole_none _)
