use Rattle.conversation.specs.message.Messages.{ended}
use Rattle.law_witnesses.proofs.ReadingLemmas.{same_targets}
use Rattle.law_witnesses.proofs.messages.echoed_twice.Goals as goal

pub returns : goal.returns
returns c =
    same_targets c.args.input.now c.in_ok-first.first.items c.in_ok-again.again.items
    (λ ms ns e f a b. c.message_law.ensures ended c.args.input.now ms ns e f a b)
    (c.in_ok-first.ensures {u = tt}) (c.in_ok-again.ensures {u = tt})
