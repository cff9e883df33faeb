use Rattle.conversation.specs.Conversation.{interim_for}
use Rattle.conversation.proofs.UsesLemmas.{sent_behind, sent_neither}
use Rattle.conversation.proofs.sending.send_behind.Goals as goal

pub returns-in-Ok : goal.returns-in-Ok
returns-in-Ok g c =
    sent_behind _ _ _ (interim_for c.args.is_due) c.args.text.now c.send.result c.in-Ok.ensures c.send.ensures

pub returns-in-Err : goal.returns-in-Err
returns-in-Err g c = sent_neither (Unit {0}) (Unit {0}) _ _ (interim_for c.args.is_due) c.args.text.now c.in-Err.end c.in-Err.ensures
