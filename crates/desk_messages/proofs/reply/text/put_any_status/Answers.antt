use Rattle.std.proofs.Common.{arith, append_assoc}
use Rattle.desk_messages.specs.reply.Text.{status_line}
use Rattle.desk_messages.proofs.reply.text.put_any_status.Goals as goal

pub returns : goal.returns
unfolding status_line
returns c = grind (arith, append_assoc)
