use Rattle.std.proofs.Common.{◌≡◌, ◌≢◌, refl}
use Rattle.asks.specs.declared.endpoint.Grants.{Grants}
use Rattle.asks.specs.declared.endpoint.Grants.TheVariants.{Paper}
use Rattle.desk_messages.specs.Meaning.{form_of}
use Rattle.desk_messages.specs.declared.reply.form.Form.TheVariants.{Json}
use Rattle.desk_messages.proofs.meaning.form_of.Goals as goal

otherwise : (granted : Grants) → granted ≢ Paper → Json ≡ form_of granted
otherwise Paper not = absurd (not refl)
otherwise granted not = refl

pub returns-in_default : goal.returns-in_default
returns-in_default c = otherwise c.args.grants c.in_default.not-Paper
