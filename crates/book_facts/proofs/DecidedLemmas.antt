-- What was decided by the facts that were read.
use Rattle.std.proofs.Common.{◌≡◌, ◌≢◌, ℕ, IfErr, IfOk, Result, Ok, Err, ap, inr}
use Rattle.sqlite.specs.State.{State}
use Rattle.sts_token.specs.Token.{BlockFunction}
use Rattle.office_rules.specs.Decision.{decision}
use Rattle.office_rules.specs.Decision.Facts.{AreFacts, IsUnlessMemory}
use Rattle.office_rules.specs.Office.{Office}
use Rattle.office_rules.specs.declared.decision.facts.Facts.{Facts}
use Rattle.office_rules.specs.declared.decision.refusal.Refusal.{Refusal}
use Rattle.office_rules.specs.declared.decision.refusal.Refusal.TheVariants.{Store}
use Rattle.office_rules.specs.declared.decision.request.Stamped.{Stamped}
use Rattle.office_decisions.specs.OverFacts.{decision_on}
use Rattle.book_states.specs.Failing.{AreRead, IsChangeRead, RefusesUnchanged, prior_of_account}
use Rattle.book_facts.specs.Deciding.{change_in}
use Rattle.book_facts.specs.declared.decided.Decided.{Decided}

module _ (forward : BlockFunction) (at : Stamped) (next : ℕ) (old new : State) (facts : Facts) (read : AreRead at next old facts)
    (r : Result Decided Refusal) where
  abbrev IsDecided : Result Decided Refusal → Type 0
  IsDecided r =
      IsUnlessMemory (change_in r) (decision_on forward at facts)
      × ((o : Office) → AreFacts o at facts → IsUnlessMemory (change_in r) (decision forward o at))

  -- a refusal by the facts that were read leaves all as it was
  pub refused_by_facts : IsDecided r → r ≢ Err Store → IfErr r (RefusesUnchanged forward at next old new)
  refused_by_facts = by_result r
    where
      by_result : (r : Result Decided Refusal) → IsDecided r → r ≢ Err Store → IfErr r (RefusesUnchanged forward at next old new)
      by_result (Ok decided) is never = tt
      by_result (Err why) is never = inr ((λ same. never (ap (λ e. Err e) same)), record { facts = facts; read = read; exact = is.0; decided = is.1 })

  -- a change that is granted was decided by the facts that were read
  pub granted_by_facts : IsDecided r → IfOk r (λ decided. decided.prior ≡ prior_of_account facts.account)
      → IfOk r (λ decided. IsChangeRead forward at next old decided.change decided.prior)
  granted_by_facts = by_result r
    where
      by_result : (r : Result Decided Refusal) → IsDecided r → IfOk r (λ decided. decided.prior ≡ prior_of_account facts.account)
          → IfOk r (λ decided. IsChangeRead forward at next old decided.change decided.prior)
      by_result (Ok decided) is prior = (record { facts = facts; read = read; exact = is.0; decided = is.1 }, prior)
      by_result (Err why) is prior = tt
