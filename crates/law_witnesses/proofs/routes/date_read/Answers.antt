use Rattle.std.proofs.Common.{◌≡◌, ◌∙◌, inl, ap}
use Rattle.httpdate.specs.Valid.{parts_secs}
use Rattle.httpdate.proofs.Theorems.{IsDateText_unique}
use Rattle.law_witnesses.proofs.routes.date_read.Goals as goal

pub returns-in-Ok : goal.returns-in-Ok
returns-in-Ok c =
    let at = c.date_law.ensures c.args.moment c.secs-seconds.ensures.range in
    let same = IsDateText_unique _ c.in-Ok.date at.0 c.in-Ok.ensures.shown (inl (c.http_date.ensures ∙ at.2)) in
    c.unix_secs.ensures.value ∙ ap parts_secs same ∙ at.1
