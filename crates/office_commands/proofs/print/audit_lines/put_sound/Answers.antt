use Rattle.std.proofs.Common.{◌∙◌}
use Rattle.office_commands.proofs.AuditLemmas.{takes_sound}
use Rattle.office_commands.proofs.print.audit_lines.put_sound.Goals as goal

pub returns : goal.returns
returns g c =
    takes_sound _ _ c.args.audited _ _ _ _ _ (c.as_bytes-format.ensures.value ∙ c.format.ensures.text)
    (c.as_bytes-tariffs.ensures.value ∙ c.format-2.ensures.text) (c.as_bytes-meters.ensures.value ∙ c.format-3.ensures.text)
    (c.as_bytes-shifts.ensures.value ∙ c.format-4.ensures.text) (c.as_bytes-sales.ensures.value ∙ c.format-5.ensures.text)
    c.put_line.ensures
