use Rattle.desk_messages.proofs.reply.found.quote_body.Goals as goal

pub returns : goal.returns
returns c =
    rw (
      c.from.ensures,
      c.saturating_sub.ensures,
      c.as_bytes.ensures.view,
      c.from-2.ensures,
      c.as_bytes-2.ensures.view,
      c.from-3.ensures,
      c.cents-tender.ensures.value,
      c.from-4.ensures,
      c.tenths.ensures.value,
    ) at c.record.ensures
