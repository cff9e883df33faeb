use Rattle.conversation.specs.declared.message.next.Next.TheVariants.{Refused}
use Rattle.conversation.specs.declared.message.message_fault.MessageFault.TheVariants.{Head}
use Rattle.conversation.proofs.MessageLemmas.{never_refused}
use Rattle.conversation.proofs.ReadingLemmas.{finds_next}
use Rattle.conversation.proofs.message.next.next_of.Goals as goal

pub returns-in-Head-clause-finds : goal.returns-in-Head-clause-finds
returns-in-Head-clause-finds c = finds_next c.args.input.now c.next_after.result c.next_after.ensures

pub returns-in-Never : goal.returns-in-Never
returns-in-Never c =
    let input = c.args.input.now in
    let next = never_refused input c.in-Never.ensures.front in
    record { next = next; finds = finds_next input (Refused Head) next }
