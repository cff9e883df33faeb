use Rattle.std.proofs.Common.{◌∙◌, ℤ, pos, ap, arith, w64, to_z, of_z}
use Rattle.std.specs.Prelude.{unsigned_abs}
use Rattle.std.proofs.lemmas.Int.{ints, to_z-of_z}
use Rattle.desk_messages.proofs.HttpDateLemmas.{date_is}
use Rattle.desk_messages.proofs.reply.http_date.http_date.Goals as goal

pub returns : goal.returns
returns c =
    let moment = c.args.moment in
    let last = c.secs.ensures.range.1 in
    let civil = c.calendar_law.ensures.each_moment moment c.secs.ensures.range in
    let secs = ap (λ (z : ℤ). to_z w64 (of_z w64 z)) c.secs.ensures.value ∙ to_z-of_z w64 (pos moment) (omega (arith, ints)) in
    c.to_bytes.ensures
    ∙ date_is moment civil (c.calendar_law.ensures.ranges moment _ c.secs.ensures.range civil)
    c.unwrap.result
    ((rw c.unwrap.ensures at c.from_unix_secs.ensures.value) ∙ c.unsigned_abs.ensures.value ∙ ap unsigned_abs secs)
