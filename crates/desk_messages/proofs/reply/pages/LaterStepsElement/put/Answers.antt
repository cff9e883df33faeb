use Rattle.desk_messages.proofs.PageLemmas.{later-made}
use Rattle.desk_messages.proofs.reply.pages.LaterStepsElement.put.Goals as goal

pub returns : goal.returns
returns c =
    later-made c.args.self.now _ _ _ _ _ _
    c.in_ok-extend_from_slice.ensures.items
    c.in_ok-put_day.ensures.text
    c.in_ok-extend_from_slice-2.ensures.items
    c.in_ok-put_steps.ensures.text
    c.in_ok-extend_from_slice-3.ensures.items
