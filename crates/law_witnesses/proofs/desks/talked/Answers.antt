use Rattle.std.proofs.Common.{◌∙◌, Some, ap, refl}
use Rattle.conversation.specs.message.Messages.{ended}
use Rattle.sqlite.proofs.Callers.{memory_is_clean}
use Rattle.law_witnesses.proofs.TalkLemmas.{talk_of}
use Rattle.law_witnesses.proofs.desks.talked.Goals as goal

pub returns-in-Closed : goal.returns-in-Closed
returns-in-Closed c =
    let opened = (c.in-Ok-in_memory.ensures {u = tt}).opened in
    let talked = talk_of c.desk_law.ensures c.run.ensures.converses.1 c.in-Closed.is _ (opened.opens _ refl) (memory_is_clean c.run.new.books.conn)
    c.run.new.writer.items c.args.input.now refl (ap Some c.new-text.ensures.items) refl in
    let talk = talked.0 in (
      talk,
      talked.1,
      λ xs ending served messages moments asked outcomes.
          talked.1
          ∙ (c.conversation_law.ensures ended c.args.input.now talk.exchanges xs talk.ending ending talk.served served talk.messages messages moments
          talk.asked asked outcomes).written refl,
    )
