-- A life goes on by one reply to a request, and has one of what is looked up.
use Rattle.std.proofs.Common.{◌≡◌, ◌≢◌, ◌∙◌, ◌⊎◌, ℕ, true, Result, Ok, Err, inl, inr, refl, sym, ap, subst}
use Rattle.std.specs.Prelude.{IfErr}
use Rattle.std.proofs.lemmas.Bool.{false≢true}
use Rattle.sts_token.specs.Token.{BlockFunction}
use Rattle.office_rules.specs.Decision.{decision_of}
use Rattle.office_rules.specs.Decision.Fold.{reply, reply_of}
use Rattle.vend_core.specs.Law.Life.{IsLife, Life, acknowledges, present}
use Rattle.vend_core.specs.Law.LifeLaws.{IsReadingRequest}
use Rattle.office_rules.specs.Office.{Office}
use Rattle.office_rules.specs.declared.decision.answer.Answer.{Answer}
use Rattle.office_rules.specs.declared.decision.refusal.Refusal.{Refusal}
use Rattle.office_rules.specs.declared.decision.refusal.Refusal.TheVariants.{Memory, Stopped, Store}
use Rattle.office_rules.specs.declared.decision.request.Request.{Request}
use Rattle.office_rules.specs.declared.decision.request.Stamped.{Stamped}
use Rattle.book_facts.specs.Lookups.{Finds, IsOfRules}
use Rattle.asks.specs.declared.lookup.Lookup.{Lookup}
use Rattle.asks.specs.declared.lookup.Lookup.TheVariants as lookups
use Rattle.book_states.specs.Health.{IsHealthOf}
use Rattle.book_states.specs.declared.lookup.Found.{Found}
use Rattle.book_states.specs.declared.lookup.Found.TheVariants as found
use Rattle.book_states.specs.declared.lookup.Health.{Health}
use Rattle.books.specs.Looking.{IsFoundAt}
use Rattle.desk.specs.Answering.{LifeReplies}
use Rattle.program_laws.specs.AtDesk.{IsOneLookup}
use Rattle.program_laws.proofs.AtDeskLemmas.RuleLemmas.{by_rules, reads_the_same}

-- ---- replies

-- a reply that acknowledges its request does not tell that the office is stopped
not_stopped : (r : Result Answer Refusal) → acknowledges r ≡ true → r ≢ Err Stopped
not_stopped (Ok answer) own same = absurd cc
not_stopped (Err Memory) own same = absurd (false≢true own)
not_stopped (Err Store) own same = absurd (false≢true own)
not_stopped (Err Stopped) own same = absurd (false≢true own)
not_stopped (Err refusal) own same = absurd cc

-- requests that are the same in each part are decided alike
same_stamp : (forward : BlockFunction) (o : Office) (at other : Stamped) → at.moment ≡ other.moment → at.nibble ≡ other.nibble → at.request ≡ other.request
    → reply forward o at ≡ reply forward o other
same_stamp forward o at other moments nibbles requests =
    ap reply_of (ap (λ (n : ℕ). decision_of forward o n at.nibble at.request) moments ∙ ap (λ (n : ℕ). decision_of forward o other.moment n at.request) nibbles
    ∙ ap (λ (q : Request). decision_of forward o other.moment other.nibble q) requests)

-- at one moment, or where it only reads, a request has one reply
same_moment : (forward : BlockFunction) (o : Office) (at other : Stamped) (request : Request) → (at.moment ≡ other.moment) ⊎ IsReadingRequest request
    → at.request ≡ request → other.request ≡ request
    → at.nibble ≡ other.nibble → reply forward o at ≡ reply forward o other
same_moment forward o at other request (inl moments) asked also nibbles = same_stamp forward o at other moments nibbles (asked ∙ sym also)
same_moment forward o at other request (inr reads) asked also nibbles =
    reads_the_same forward o at other (subst IsReadingRequest (sym asked) reads) (asked ∙ sym also)

-- so a life goes on by one reply
pub same_reply : (life one other : Life) (moment later : ℕ) (request : Request) (a b : Result Answer Refusal) → (moment ≡ later) ⊎ IsReadingRequest request
    → LifeReplies moment request a life one → LifeReplies later request b life other → IsLife one → IsLife other → acknowledges a ≡ true
    → acknowledges b ≡ true → a ≡ b
same_reply life one other moment later request a b when (at, stamped, goes) (bt, also, went) is lives own acked =
    let mine : a ≡ reply life.forward (present life) at = by_rules life at a (subst IsLife goes is) own in
    let yours : b ≡ reply life.forward (present life) bt = by_rules life bt b (subst IsLife went lives) acked in
    let nibbles : at.nibble ≡ bt.nibble = stamped.by_number (not_stopped a own) ∙ sym (also.by_number (not_stopped b acked)) in
    mine ∙ same_moment life.forward (present life) at bt request (same_when when) stamped.for_request also.for_request nibbles ∙ sym yours
  where
    same_when : (moment ≡ later) ⊎ IsReadingRequest request → (at.moment ≡ bt.moment) ⊎ IsReadingRequest request
    same_when (inl same) = inl (stamped.at_moment ∙ same ∙ sym also.at_moment)
    same_when (inr reads) = inr reads

-- ---- look-ups

-- what is found is by the rules
pub by_finds : (life : Life) (moment : ℕ) (lookup : Lookup) (r : Result Found Refusal) → IfErr r IsOfRules → IsFoundAt life moment lookup r
    → Finds (present life) moment lookup r
by_finds life moment lookup r rules (inl finds) = finds
by_finds life moment lookup r rules (inr (inl is)) = absurd ((subst (λ (r : Result Found Refusal). IfErr r IsOfRules) is rules).not_memory refl)
by_finds life moment lookup r rules (inr (inr (inl is))) = absurd ((subst (λ (r : Result Found Refusal). IfErr r IsOfRules) is rules).not_store refl)
by_finds life moment lookup r rules (inr (inr (inr is))) = absurd ((subst (λ (r : Result Found Refusal). IfErr r IsOfRules) is rules).not_stopped refl)

one_found : (o : Office) (moment : ℕ) (lookup : Lookup) (a b : Result Found Refusal) → IsOneLookup lookup → Finds o moment lookup a → Finds o moment lookup b
    → a ≡ b
one_found o moment lookups.Health a b one x y = absurd one
one_found o moment (lookups.Tariffs after) a b one x y = absurd one
one_found o moment (lookups.Meters after) a b one x y = absurd one
one_found o moment (lookups.Shifts after) a b one x y = absurd one
one_found o moment (lookups.Sales after) a b one x y = absurd one
one_found o moment lookup a b one x y = x ∙ sym y

-- an office has one of what is looked up alone
pub same_found : (life : Life) (moment : ℕ) (lookup : Lookup) (a b : Result Found Refusal) → IsOneLookup lookup → IsFoundAt life moment lookup a
    → IsFoundAt life moment lookup b
    → IfErr a IsOfRules → IfErr b IsOfRules → a ≡ b
same_found life moment lookup a b one x y first second =
    one_found (present life) moment lookup a b one (by_finds life moment lookup a first x) (by_finds life moment lookup b second y)

-- its health tells the same of its sales
pub same_health : (life : Life) (moment later : ℕ) (a b : Health) → IsFoundAt life moment lookups.Health (Ok (found.Health a))
    → IsFoundAt life later lookups.Health (Ok (found.Health b))
    → (a.sales ≡ b.sales) × (a.last_moment ≡ b.last_moment)
same_health life moment later a b first second =
    let one : IsHealthOf (present life) a = by_finds life moment lookups.Health (Ok (found.Health a)) tt first in
    let other : IsHealthOf (present life) b = by_finds life later lookups.Health (Ok (found.Health b)) tt second in
    (one.sales ∙ sym other.sales, one.last ∙ sym other.last)
