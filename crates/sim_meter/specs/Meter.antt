-- What a meter answers, and the entries that it may come from.
use Rattle.std.specs.Prelude.{◌≡◌, ℕ, ◌-◌, ◌^◌, Bool, true, false, min, List, Result, Ok, Err, sum}
use Rattle.sts_fields.specs.Text.{Text}
use Rattle.sts_token.specs.Fields.{TokenFields}
use Rattle.sts_token.specs.Meter.{Entry, Reader, Taken, TidAnswer, accepted, answer_to, old}
use Rattle.sts_token.specs.Meter.{taken_over, used}
use Rattle.sts_token.specs.Reading.{reading_of}
use Rattle.sts_token.specs.Token.{BlockFunction}
use Rattle.sts_token.specs.declared.fault.TokenFault.{TokenFault}
use Rattle.sim_meter.specs.Store.{HoldsGreatest}
use Rattle.sim_meter.specs.declared.answer.Answer.{Answer}
use Rattle.sim_meter.specs.declared.answer.Answer.TheVariants.{Accepted, Used, Old, Refused}
use Rattle.sim_meter.specs.declared.meter.Meter.{Meter}

-- the answer to a token with these fields
abbrev pub answer_for : TokenFields → TidAnswer → Answer
answer_for f accepted = Accepted f.tenths
answer_for f used = Used
answer_for f old = Old

-- the answer to what a text was read as, where these identifiers were accepted since the start or
-- the last clearing
abbrev pub answer_with : List ℕ → Result TokenFields TokenFault → Answer
answer_with taken (Ok f) = answer_for f (answer_to taken f.tid)
answer_with taken (Err fault) = Refused fault

-- the answer to a text after these entries
abbrev pub answer_after : Reader → List Entry → Text → Answer
answer_after read history text = answer_with (taken_over read history).tids (read text)

abbrev pub is_accepted : Answer → Bool
is_accepted (Accepted amount) = true
is_accepted Used = false
is_accepted Old = false
is_accepted (Refused fault) = false

-- the meter holds what is left of all that was taken: the greatest identifiers, and the credit
pub record MeterHolds {T : Type 0} (taken : Taken) (meter : Meter T) : Type 0 where
  pub greatest : HoldsGreatest meter.store.places taken.tids
  pub credit : meter.credit ≡ min (2 ^ 64 - 1) (sum taken.amounts)

-- the meter reads texts as `read`, and was given these entries since it was new
pub record ComesFrom {T : Type 0} (inverses : T → BlockFunction) (read : Reader)
    (history : List Entry)
    (meter : Meter T) : Type 0 where
  pub reads : (text : Text) → reading_of (inverses meter.transform) meter.key text ≡ read text
  pub holds : MeterHolds (taken_over read history) meter
