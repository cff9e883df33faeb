-- What books make of a request that they are asked at a moment.
use Rattle.std.specs.Prelude.{◌≡◌, ◌↔◌, ◌⊎◌, ℕ, ◌%◌, false, true, List, [], ◌∷◌, Result, Err, IfErr}
use Rattle.std.specs.Prelude.{IfOk}
use Rattle.sqlite.specs.State.{HasCleanDisk}
use Rattle.vend_core.specs.Law.Life.{Life}
use Rattle.vend_core.specs.Law.LifeLaws.{extended_by}
use Rattle.office_rules.specs.declared.decision.answer.Answer.{Answer}
use Rattle.office_rules.specs.declared.decision.refusal.Refusal.{Refusal}
use Rattle.office_rules.specs.declared.decision.refusal.Refusal.TheVariants.{Store, Stopped}
use Rattle.office_rules.specs.declared.decision.request.Request.{Request}
use Rattle.office_rules.specs.declared.decision.request.Stamped.{Stamped}
use Rattle.books.specs.Keeps.{BooksHaveTables, Represents, Seen}
use Rattle.book_states.specs.Others.{LeavesOthers}
use Rattle.books.specs.Serving.{FailsToServe, ServesGranted}

-- the stamped request is this request at this moment, with the nibble of the next sale's number
pub record IsAsked (moment : ℕ) (request : Request) (books : Seen) (at : Stamped) : Type 0 where
  pub at_moment : at.moment ≡ moment
  pub by_number : at.nibble ≡ books.next_number % 16
  pub for_request : at.request ≡ request

-- Books replied so to a stamped request. Every life that they kept, they keep with this request and
-- this reply. They leave the tables of other names alone. A granted request that changes nothing
-- commits nothing. They answer as stopped exactly where they were, and are stopped after a failure.
-- Whatever rows the tables have: but for a failure, and want of memory, all rows that the request
-- looked at show records, and it was decided by these.
pub record Replies (at : Stamped) (reply : Result Answer Refusal) (old new : Seen) : Type 0 where
  pub keeps : (life : Life) → Represents life old → Represents (extended_by life at reply) new
  pub tables : BooksHaveTables old → BooksHaveTables new
  pub others : HasCleanDisk new.state → BooksHaveTables old → LeavesOthers old.state new.state
  pub clean : HasCleanDisk new.state → HasCleanDisk old.state
  pub granted : HasCleanDisk new.state → BooksHaveTables old → old.stopped ≡ false
      → IfOk reply (λ answer. ServesGranted at answer old new)
  pub failures : HasCleanDisk new.state → BooksHaveTables old → old.stopped ≡ false
      → IfErr reply (FailsToServe at old new)
  pub stopped : (reply ≡ Err Stopped) ↔ (old.stopped ≡ true)
  pub stops : (new.stopped ≡ true) ↔ ((reply ≡ Err Store) ⊎ (reply ≡ Err Stopped))

-- they replied so to this request at this moment
abbrev pub ReplyAt : ℕ → Request → Result Answer Refusal → Seen → Seen → Type 0
ReplyAt moment request reply old new =
    (at : Stamped) × IsAsked moment request old at × Replies at reply old new

-- They replied so to these requests, one after another.
abbrev pub AreServedInTurn : {B : Type 0} → (B → Seen) → B → List Stamped
    → List (Result Answer Refusal)
    → B → Type 0
AreServedInTurn see old [] [] new = new ≡ old
AreServedInTurn {B} see old (at ∷ ats) (reply ∷ replies) new =
    (mid : B) × Replies at reply (see old) (see mid) × AreServedInTurn see mid ats replies new
AreServedInTurn see old ats replies new = ⊥
