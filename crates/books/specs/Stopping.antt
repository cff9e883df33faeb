-- When books are stopped along many requests.
use Rattle.std.specs.Prelude.{◌≡◌, ◌⊎◌, ◌↔◌, ℕ, Bool, true, List, Some, Result, Err, Contains}
use Rattle.std.specs.Prelude.{slice_get, take}
use Rattle.office_rules.specs.declared.decision.answer.Answer.{Answer}
use Rattle.office_rules.specs.declared.decision.refusal.Refusal.{Refusal}
use Rattle.office_rules.specs.declared.decision.refusal.Refusal.TheVariants.{Store, Stopped}

-- A request is answered as stopped exactly where the books were stopped or the store failed at one
-- before it, and with the store's failure the books are stopped for good.
pub record StopAtFailure (old : Bool) (replies : List (Result Answer Refusal)) (new : Bool) : Type 0
  where
    pub stopped : (i : ℕ) (reply : Result Answer Refusal) → slice_get replies i ≡ Some reply
        → (reply ≡ Err Stopped) ↔ ((old ≡ true) ⊎ Contains (take i replies) (Err Store))
    pub stops : (new ≡ true) ↔ ((old ≡ true) ⊎ Contains replies (Err Store))
