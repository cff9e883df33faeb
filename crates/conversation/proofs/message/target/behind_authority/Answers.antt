use Rattle.conversation.proofs.TargetLemmas.{is_behind}
use Rattle.conversation.proofs.message.target.behind_authority.Goals as goal

pub returns : goal.returns
returns c =
    let end = c.authority_len-at.ensures in
    is_behind c.args.text.now c.authority_len-at.result end.within end.before end.found
