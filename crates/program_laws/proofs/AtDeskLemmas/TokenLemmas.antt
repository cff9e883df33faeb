-- The digits of the sales that an office tells can be a token's, where those of its first sales can.
use Rattle.std.proofs.Common.{◌≡◌, ◌∙◌, ℕ, true, List, [], ◌∷◌, Some, Result, Ok, Err, refl, sym, ap, subst}
use Rattle.std.specs.Prelude.{All, Contains}
use Rattle.std.proofs.lemmas.Option.{slice_get-get_or}
use Rattle.std.proofs.lemmas.List.Elements.{All-contains, All-filter, All-head, All-map, All-nil, All-tail, All-weaker, Contains-push}
use Rattle.sts_token.specs.Reading.{IsOfClassZero}
use Rattle.sts_token.specs.Token.{BlockFunction, KeepsRange}
use Rattle.office_rules.specs.Decision.Fold.{after, reply, step}
use Rattle.office_rules.specs.Decision.Requests.{IsStamped}
use Rattle.office_rules.specs.Law.Handed.{sales_of}
use Rattle.office_rules.specs.Office.{IsOffice, Office}
use Rattle.office_rules.specs.declared.decision.answer.Answer.{Answer}
use Rattle.office_rules.specs.declared.decision.refusal.Refusal.{Refusal}
use Rattle.office_rules.specs.declared.decision.request.Request.{Request}
use Rattle.office_rules.specs.declared.decision.request.Stamped.{Stamped}
use Rattle.office_rules.specs.declared.office.sale.Sale.{Sale}
use Rattle.vend_core.specs.Law.Life.{Exchange, IsLife, Life, acknowledged, acknowledges, present}
use Rattle.vend_core.specs.Law.LifeLaws.{extended_by}
use Rattle.vend_core.specs.Law.Reached.{IsPlausible}
use Rattle.desk.specs.Answering.{LifeReplies}
use Rattle.program_laws.proofs.AtDeskLemmas.RuleLemmas.{by_rules, front_keeps, present_before}

-- the digits of a sale can be a token's
abbrev pub HasToken : Sale → Type 0
HasToken s = IsOfClassZero s.digits

-- so can those of each sale of an office that requests may have led to
pub token_there : (o : Office) (s : Sale) → IsPlausible o → Contains o.sales s → HasToken s
token_there o s plausible there =
    (plausible.sales there.0 s (slice_get-get_or o.sales there.0 s there.1 ∙ ap Some there.2)).digits

module _ (one_step : (forward : BlockFunction) (o : Office) (at : Stamped) → IsOffice o → IsStamped at → KeepsRange forward → IsOffice (step forward o at))
    (keeps : (forward : BlockFunction) (o : Office) (at : Stamped) → IsOffice o → IsStamped at → KeepsRange forward → IsPlausible o → IsPlausible
    (step forward o at)) where
  -- requests lead from such an office to one
  plausible_after : (forward : BlockFunction) (ats : List Stamped) (o : Office) → IsOffice o → All IsStamped ats → KeepsRange forward → IsPlausible o
      → IsPlausible (after forward o ats)
  unfolding after
  plausible_after forward [] o office stamped range plausible = plausible
  plausible_after forward (at ∷ ats) o office stamped range plausible =
      let here = All-head IsStamped at ats stamped in
      plausible_after forward ats (step forward o at) (one_step forward o at office here range) (All-tail IsStamped at ats stamped) range
      (keeps forward o at office here range plausible)

  -- and so does a life
  pub plausible_present : (life : Life) → IsLife life → IsOffice life.opening → IsPlausible life.opening → IsPlausible (present life)
  plausible_present life is opening plausible =
      plausible_after life.forward (acknowledged life) life.opening opening
      (All-map IsStamped (λ (e : Exchange). e.request) _ (All-filter _ (λ (e : Exchange). IsStamped e.request) life.exchanges is.stamped)) is.range plausible

  -- the sales of a reply of a life have tokens
  pub reply_tokens : ((forward : BlockFunction) (o : Office) (ats : List Stamped) → IsOffice o → All IsStamped ats → KeepsRange forward → IsOffice
      (after forward o ats))
      → ((forward : BlockFunction) (o : Office) (at : Stamped) → All (Contains (step forward o at).sales) (sales_of (reply forward o at)))
      → (old new : Life) (moment : ℕ) (request : Request) (r : Result Answer Refusal) → IsLife new → IsOffice old.opening → IsPlausible old.opening
      → LifeReplies moment request r old new → All HasToken (sales_of r)
  reply_tokens along stand old new moment request r life opening plausible (at, stamped, goes) =
      let is : IsLife (extended_by old at r) = subst IsLife goes life in
      let front : All (λ (e : Exchange). IsStamped e.request) old.exchanges =
      front_keeps (λ (e : Exchange). IsStamped e.request) old.exchanges (record { request = at; reply = r } ∷ []) is.stamped in
      let before : IsPlausible (present old) =
      plausible_after old.forward (acknowledged old) old.opening opening
      (All-map IsStamped (λ (e : Exchange). e.request) _ (All-filter _ (λ (e : Exchange). IsStamped e.request) old.exchanges front)) is.range plausible in
      let at_is : IsStamped at =
      All-contains (λ (e : Exchange). IsStamped e.request) _ (record { request = at; reply = r }) is.stamped
      (Contains-push old.exchanges (record { request = at; reply = r })) in
      told r (by_rules old at r is) (keeps old.forward (present old) at (present_before along old at r is opening) at_is is.range before)
    where
      told : (r : Result Answer Refusal) → (acknowledges r ≡ true → r ≡ reply old.forward (present old) at)
          → IsPlausible (step old.forward (present old) at) → All HasToken (sales_of r)
      told (Ok answer) rules later =
          subst (λ (r : Result Answer Refusal). All HasToken (sales_of r)) (sym (rules refl))
          (All-weaker (Contains (step old.forward (present old) at).sales) HasToken
          (λ s there. token_there (step old.forward (present old) at) s later there) _ (stand old.forward (present old) at))
      told (Err refusal) rules later = All-nil _
