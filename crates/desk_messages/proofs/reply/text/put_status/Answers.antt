use Rattle.desk_messages.proofs.ReplyLemmas.{ok_line}
use Rattle.desk_messages.proofs.reply.text.put_status.Goals as goal

pub returns-in_ok-extend_from_slice : goal.returns-in_ok-extend_from_slice
returns-in_ok-extend_from_slice c = rw (c.if-status-eq200.true, ok_line) c.in_ok-extend_from_slice.ensures.items
