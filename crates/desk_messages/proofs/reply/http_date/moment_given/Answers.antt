use Rattle.std.proofs.Common.{◌∙◌, ap, Some, w64, to_z, of_z}
use Rattle.std.proofs.lemmas.Int.{to_z-of_z}
use Rattle.desk_messages.specs.reply.HttpDate.{moment_given}
use Rattle.desk_messages.proofs.HttpDateLemmas.{given_is}
use Rattle.desk_messages.proofs.reply.http_date.moment_given.Goals as goal

pub returns : goal.returns
returns c =
    given_is (to_z w64 (of_z w64 c.args.second)) c.of_secs.result c.of_secs.ensures.range c.of_secs.ensures.value
    ∙ ap (λ z. moment_given (Some z)) (to_z-of_z w64 c.args.second c.ranges.second)
