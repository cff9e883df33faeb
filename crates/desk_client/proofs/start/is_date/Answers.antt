use Rattle.std.proofs.Common.{◌∙◌}
use Rattle.desk_client.proofs.DateLemmas.{is_date_when, not_date}
use Rattle.desk_client.proofs.start.is_date.Goals as goal

pub returns-in_default : goal.returns-in_default
returns-in_default c = not_date c.args.text.now c.in_default.ensures.shown

pub returns : goal.returns
returns c =
    is_date_when c.args.text.now c.as_slice.result.now c.in-Ok.date c.eq.result c.in-Ok.ensures.shown (c.as_slice.ensures ∙ c.to_bytes-shown.ensures)
    c.eq.ensures
