-- The life that requests and replies make.
use Rattle.std.proofs.Common.{◌≡◌, ◌∙◌, ◌⊎◌, ℕ, zero, suc, Bool, true, false, List, [], ◌∷◌, ◌++◌, length, Option, None, Some, Result, Ok, Err, inl, inr, refl, sym, ap, subst, arith}
use Rattle.std.specs.Prelude.{◌≢◌, All, Contains, IfErr, map}
use Rattle.std.proofs.lemmas.List.Elements.{All-cons, All-nil}
use Rattle.audit_lists.specs.declared.fault.OfficeFault.{OfficeFault}
use Rattle.audit_lists.specs.declared.fault.OfficeFault.TheVariants as fault
use Rattle.audit_rows.specs.declared.finding.Finding.{Finding}
use Rattle.book_facts.specs.Lookups.{Finds, last_found}
use Rattle.asks.specs.declared.lookup.Lookup.{Lookup}
use Rattle.book_states.specs.declared.lookup.Found.{Found}
use Rattle.book_states.specs.declared.lookup.Found.TheVariants as found
use Rattle.office_rules.specs.Office.{Office, empty_office}
use Rattle.office_rules.specs.declared.decision.refusal.Refusal.TheVariants.{Memory, Stopped, Store}
use Rattle.office_rules.specs.declared.office.meter.Meter.{Meter}
use Rattle.office_rules.specs.declared.office.sale.Sale.{Sale}
use Rattle.office_rules.specs.declared.decision.answer.Answer.{Answer}
use Rattle.office_rules.specs.declared.decision.refusal.Refusal.{Refusal}
use Rattle.office_rules.specs.declared.decision.request.Stamped.{Stamped}
use Rattle.sts_token.specs.Token.{BlockFunction}
use Rattle.vend_core.specs.Law.Life.{Answered, AreLives, Exchange, IsLife, Life, SellsUnder, present}
use Rattle.vend_core.specs.Law.LifeLaws.{exchanges_of}
use Rattle.law_witnesses.specs.Offices.{life_of}

-- the replies of a life's exchanges are the replies that it was made of
replies_of_exchanges : (ats : List Stamped) (replies : List (Result Answer Refusal)) → length replies ≡ length ats
    → map (λ (e : Exchange). e.reply) (exchanges_of ats replies) ≡ replies
replies_of_exchanges [] [] each = refl
replies_of_exchanges [] (reply ∷ replies) each = absurd (omega (arith, each))
replies_of_exchanges (at ∷ ats) [] each = absurd (omega (arith, each))
replies_of_exchanges (at ∷ ats) (reply ∷ replies) each =
    ap (λ l. reply ∷ l) (replies_of_exchanges ats replies (omega (arith, each)))

-- an answer among the replies is one that the life gave
pub answered : (forward : BlockFunction) (ats : List Stamped) (replies : List (Result Answer Refusal)) (answer : Answer)
    → length replies ≡ length ats → Contains replies (Ok answer) → Answered (life_of forward ats replies ∷ []) answer
answered forward ats replies answer each there =
    let life = life_of forward ats replies in
    (life, (0, omega arith, refl), subst (λ l. Contains l (Ok answer)) (sym (replies_of_exchanges ats replies each)) there)

-- what is not true is false
pub not_true : (b : Bool) → b ≢ true → b ≡ false
not_true true not = absurd (not refl)
not_true false not = refl

-- what was answered did not stop the books
pub goes_on : {A : Type 0} (given : Result A Refusal) (a : A) → given ≡ Ok a → (given ≡ Err Store) ⊎ (given ≡ Err Stopped) → ⊥
goes_on given a is (inl store) = cc
goes_on given a is (inr stopped) = cc

-- the last sale to a meter that was found is the last one of the office
pub found_last : (there : Option Meter) (last : Option Sale) (s : Sale) → Ok (found.Sale s) ≡ last_found there last → last ≡ Some s
found_last None last s is = cc
found_last (Some m) None s is = cc
found_last (Some m) (Some t) s is = cc

-- what was found is found by the rules
pub finds_by_rules : (o : Office) (moment : ℕ) (lookup : Lookup) (result : Result Found Refusal) (it : Found) → result ≡ Ok it
    → Finds o moment lookup result ⊎ ((result ≡ Err Memory) ⊎ ((result ≡ Err Store) ⊎ (result ≡ Err Stopped)))
    → Finds o moment lookup (Ok it)
finds_by_rules o moment lookup result it is (inl finds) =
    let Goal : Result Found Refusal → Type 0 = λ r. Finds o moment lookup r in subst Goal is finds
finds_by_rules o moment lookup result it is (inr (inl memory)) = absurd (cc)
finds_by_rules o moment lookup result it is (inr (inr (inl store))) = absurd (cc)
finds_by_rules o moment lookup result it is (inr (inr (inr stopped))) = absurd (cc)

-- the first life of an office leads to its present office
pub leads : (life : Life) → IsLife life → life.opening ≡ empty_office → AreLives (life ∷ []) (present life)
leads life is opens = (is, opens, (present life, inl refl, refl))

-- where nothing can be found, there was no memory
pub memory_alone : {A : Type 0} (Tells : OfficeFault → Type 0) (tested : Result A OfficeFault) → IfErr tested Tells
    → ((f : Finding) → Tells (fault.Found f) → ⊥) → IfErr tested (λ why. why ≡ fault.Memory)
memory_alone Tells (Ok a) tells none = tt
memory_alone Tells (Err (fault.Found f)) tells none = absurd (none f tells)
memory_alone Tells (Err fault.Memory) tells none = refl

-- where nothing can be found, the test passes
pub found_nothing : (Tells : Finding → Type 0) (tested : Result (Unit {0}) Finding) → IfErr tested Tells → ((f : Finding) → Tells f → ⊥) → tested ≡ Ok tt
found_nothing Tells (Ok tt) tells none = refl
found_nothing Tells (Err f) tells none = absurd (none f tells)

-- one life sells under the transform that it has
pub sells_under : (life : Life) (forward : BlockFunction) → life.forward ≡ forward → All (SellsUnder forward) (life ∷ [])
sells_under life forward is =
    All-cons (SellsUnder forward) life [] (λ k d below order asks. is) (All-nil (SellsUnder forward))
