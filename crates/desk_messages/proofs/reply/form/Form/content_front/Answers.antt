use Rattle.std.proofs.Common.{refl}
use Rattle.desk_messages.specs.reply.Text.{field_line}
use Rattle.desk_messages.proofs.reply.form.Form.content_front.Goals as goal

pub returns-in-Json : goal.returns-in-Json
unfolding field_line
returns-in-Json c = rw c.in-Json.is refl

pub returns-in-Paper : goal.returns-in-Paper
unfolding field_line
returns-in-Paper c = rw c.in-Paper.is refl
