-- Requests one after another: the office that they lead to, and its replies.
use Rattle.std.specs.Prelude.{List, [], ◌∷◌, Result, Ok, Err}
use Rattle.sts_token.specs.Token.{BlockFunction}
use Rattle.office_rules.specs.Decision.{decision}
pub use Rattle.office_rules.specs.Decision.Edits.{applied, closed_at, office_after, with_base}
pub use Rattle.office_rules.specs.Decision.Edits.{with_key, with_tariff}
use Rattle.office_rules.specs.Office.{Office}
use Rattle.office_rules.specs.declared.decision.answer.Answer.{Answer}
use Rattle.office_rules.specs.declared.decision.change.Change.{Change}
use Rattle.office_rules.specs.declared.decision.refusal.Refusal.{Refusal}
use Rattle.office_rules.specs.declared.decision.request.Stamped.{Stamped}

-- the reply to a decided request
abbrev pub reply_of : Result Change Refusal → Result Answer Refusal
reply_of (Ok change) = Ok change.answer
reply_of (Err refusal) = Err refusal

-- one request: the office that it leads to, and its reply
abbrev pub step : BlockFunction → Office → Stamped → Office
step forward o at = office_after o (decision forward o at)

abbrev pub reply : BlockFunction → Office → Stamped → Result Answer Refusal
reply forward o at = reply_of (decision forward o at)

-- many requests
unfoldable pub after : BlockFunction → Office → List Stamped → Office
after forward o [] = o
after forward o (at ∷ ats) = after forward (step forward o at) ats

unfoldable pub replies_to : BlockFunction → Office → List Stamped → List (Result Answer Refusal)
replies_to forward o [] = []
replies_to forward o (at ∷ ats) = reply forward o at ∷ replies_to forward (step forward o at) ats
