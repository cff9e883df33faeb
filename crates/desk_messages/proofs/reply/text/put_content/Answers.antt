use Rattle.std.proofs.Common.{◌∙◌}
use Rattle.desk_messages.proofs.ReplyLemmas.{content-parts}
use Rattle.desk_messages.proofs.reply.text.put_content.Goals as goal

pub returns : goal.returns
returns c =
    content-parts c.args.form c.args.len _ _ _ _ _ _
    (c.as_bytes.ensures.value ∙ c.content_front.ensures)
    (c.as_bytes-2.ensures.value ∙ c.format.ensures.text)
    c.in_ok-extend_from_slice.ensures.items
    c.in_ok-extend_from_slice-2.ensures.items
    c.in_ok-extend_from_slice-3.ensures.items
