use Rattle.std.proofs.Common.{None, refl}
use Rattle.conversation.specs.message.Next.{message_of}
use Rattle.law_witnesses.proofs.messages.EchoServiceUnit.answer.Goals as goal

pub returns-clause-ok : goal.returns-clause-ok
returns-clause-ok g c =
    let m = message_of c.args.message.now in
    (record { message = m; now = None; reply = c.in_ok-reply.reply.items }, refl, refl, ((c.in_ok-reply.ensures.items, tt), refl))
