use Rattle.desk_messages.proofs.reply.found.health_body.Goals as goal

pub returns : goal.returns
returns c =
    rw (c.from.ensures, c.moment_cell.ensures, c.as_bytes.ensures.value, c.last_write.ensures) at c.record.ensures
