use Rattle.std.proofs.Common.{arith, append_assoc}
use Rattle.desk_messages.specs.reply.Text.{field_line}
use Rattle.desk_messages.proofs.reply.text.put_date_at.Goals as goal

pub returns : goal.returns
unfolding field_line
returns c = grind (arith, append_assoc)
