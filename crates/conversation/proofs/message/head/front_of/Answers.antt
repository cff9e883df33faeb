use Rattle.conversation.proofs.HeadLemmas.{never_of_long, never_of_full}
use Rattle.conversation.proofs.message.head.front_of.Goals as goal

pub returns-in_default : goal.returns-in_default
returns-in_default c =
    let found = rw c.in-Ok-Complete.field-0-is at c.in-Ok-Complete.ensures.complete in
    record { front = never_of_long c.args.input.now _ _ found c.if-head-le-MAX_HEAD.false }

pub returns-in_default-2 : goal.returns-in_default-2
returns-in_default-2 c =
    let none = rw c.in-Ok-Partial.field-0-is at c.in-Ok-Partial.ensures.partial in
    record { front = never_of_full c.args.input.now none c.if-input-lt-MAX_HEAD.false }
