-- How a life goes on: one exchange more, or many.
use Rattle.std.specs.Prelude.{◌≡◌, ◌≢◌, List, [], ◌∷◌, ◌++◌, Result, Err, All}
use Rattle.sts_token.specs.Token.{BlockFunction}
use Rattle.vend_core.specs.Law.Life.{Exchange, IsLife, Life, present}
use Rattle.office_rules.specs.Office.{Office}
use Rattle.office_rules.specs.declared.decision.answer.Answer.{Answer}
use Rattle.office_rules.specs.declared.decision.refusal.Refusal.{Refusal}
use Rattle.office_rules.specs.declared.decision.refusal.Refusal.TheVariants.{Store, Stopped}
use Rattle.office_rules.specs.declared.decision.request.Request.{Request}
use Rattle.office_rules.specs.declared.decision.request.Request.TheVariants.{Reprint, ShiftReport}
use Rattle.office_rules.specs.declared.decision.request.Stamped.{Stamped}

-- the life that has just opened an office
abbrev pub opened : BlockFunction → Office → Life
opened forward o = record { opening = o; forward = forward; exchanges = [] }

-- the life after these exchanges more
abbrev pub extended : Life → List Exchange → Life
extended life more = record life { exchanges = life.exchanges ++ more }

-- the exchanges of these requests and their replies
abbrev pub exchanges_of : List Stamped → List (Result Answer Refusal) → List Exchange
exchanges_of (at ∷ ats) (reply ∷ replies) =
    record { request = at; reply = reply } ∷ exchanges_of ats replies
exchanges_of ats replies = []

-- the life after one request more, which got this reply, and after many
abbrev pub extended_by : Life → Stamped → Result Answer Refusal → Life
extended_by life at reply = extended life (record { request = at; reply = reply } ∷ [])

abbrev pub extended_along : Life → List Stamped → List (Result Answer Refusal) → Life
extended_along life ats replies = extended life (exchanges_of ats replies)

-- the store has not failed in the life: no request is in doubt, and none was answered as stopped
abbrev pub GoesOn : Life → Type 0
GoesOn life = All (λ e. (e.reply ≢ Err Store) × (e.reply ≢ Err Stopped)) life.exchanges

-- a request that only reads
abbrev pub IsReadingRequest : Request → Type 0
IsReadingRequest (Reprint number) = Unit {0}
IsReadingRequest (ShiftReport number) = Unit {0}
IsReadingRequest request = ⊥

-- a life that goes on, in which this is the present office
pub record IsRunning (life : Life) (o : Office) : Type 0 where
  pub is_life : IsLife life
  pub goes_on : GoesOn life
  pub present : present life ≡ o
