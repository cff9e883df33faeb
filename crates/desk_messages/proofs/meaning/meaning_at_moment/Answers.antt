use Rattle.std.proofs.Common.{rules}
use Rattle.asks.specs.Ask.{IsReadOf}
use Rattle.asks.specs.Parts.{parts_of}
use Rattle.conversation.specs.message.Next.{message_of}
use Rattle.desk_messages.proofs.MeaningLemmas.{has_parts}
use Rattle.desk_messages.proofs.meaning.meaning_at_moment.Goals as goal

pub returns-in-Ok : goal.returns-in-Ok
returns-in-Ok c =
    let m = message_of c.args.message.now in
    let kind = c.args.named.now.kind in
    let p = parts_of c.in-Ok.ask in
    let read : IsReadOf kind c.args.named.now.values.items m.body p = search rules in record {
      comes = search rules;
      asks = has_parts m kind c.args.named.now.values.items p c.requires read;
    }
