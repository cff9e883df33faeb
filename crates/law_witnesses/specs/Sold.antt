-- What comes of a message that sold, and what is told of a shift.
use Rattle.std.specs.Prelude.{ℕ, [], ◌∷◌, Ok}
use Rattle.desk_messages.specs.declared.reply.form.Form.TheVariants.{Json}
use Rattle.desk_messages.specs.declared.reply.outcome.Outcome.{Outcome}
use Rattle.desk_messages.specs.declared.reply.outcome.Outcome.TheVariants.{Replied}
use Rattle.office_rules.specs.declared.decision.answer.Answer.TheVariants.{Sold}
use Rattle.office_rules.specs.declared.office.sale.Sale.{Sale}
use Rattle.desk_messages.specs.reply.Records.{totals_names}
use Rattle.records.specs.Cell.{number}
use Rattle.records.specs.Json.{record_data}
use Rattle.serde_json.specs.Data.{Data}

-- the sale, as an object of JSON
abbrev pub told_sold : Sale → Outcome
told_sold s = Replied Json (Ok (Sold s))

-- the totals of a shift as an object of JSON
abbrev pub totals_object : (shift sales tenths cash : ℕ) → Data
totals_object shift sales tenths cash =
    record_data totals_names
    (number cash ∷ number sales ∷ number shift ∷ number tenths ∷ [])
