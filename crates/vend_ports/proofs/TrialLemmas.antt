-- A trial goes on by one sale.
use Rattle.std.proofs.Common.{◌≡◌, ℕ, ◌+◌, ◌<◌, ◌≤◌, List, [], ◌∷◌, ◌++◌, length, get_or, take, Some, Result, Ok, Err, refl, subst, inl, inr, arith}
use Rattle.std.specs.Prelude.{All, MatchResult}
use Rattle.std.proofs.lemmas.Bool.{cases_lt}
use Rattle.std.proofs.lemmas.List.Elements.{All-push, All-weaker, Contains-push}
use Rattle.std.proofs.lemmas.List.{get_or_at, get_or_append_left, length_push, take-append-le, take_at}
use Rattle.sts_fields.specs.Tid.{FreshOutcome, IsLast, minute_of}
use Rattle.sts_fields.specs.declared.base.Base.{Base}
use Rattle.sts_fields.specs.declared.fault.TidFault.{TidFault}
use Rattle.vend_ports.specs.commands.Trial.{EndsTrialBy, IsRefusedBy, IsSale, TidOutcome}
use Rattle.vend_ports.specs.declared.trials.TrialFault.{TrialFault}
use Rattle.vend_ports.specs.declared.trials.TrialFault.TheVariants.{Amount, Tid, Memory}

-- the sales so far: of the first amounts, in order
pub record AreSales (forward : ℕ → ℕ → ℕ) (key : ℕ) (base : Base) (moment : ℕ) (amounts tids : List ℕ) (tokens : List (List ℕ)) : Type 0 where
  pub one_each : length tokens ≡ length tids
  pub sold : (i : ℕ) → i < length tids
      → IsSale forward key base moment (take i tids) (i + 1) (get_or amounts i 0) (get_or tids i 0) (get_or tokens i [])

-- the sale of the next amount, behind the sales so far, makes one sale more
pub one_sale_more : (forward : ℕ → ℕ → ℕ) (key : ℕ) (base : Base) (moment : ℕ) (amounts tids : List ℕ) (tokens : List (List ℕ)) (tid : ℕ) (token : List ℕ)
    → AreSales forward key base moment amounts tids tokens
    → IsSale forward key base moment tids (length tids + 1) (get_or amounts (length tids) 0) tid token
    → AreSales forward key base moment amounts (tids ++ tid ∷ []) (tokens ++ token ∷ [])
one_sale_more forward key base moment amounts tids tokens tid token before sale =
    record {
      one_each = omega (arith, length_push tids tid, length_push tokens token, before.one_each);
      sold = λ i h. elim (cases_lt i (length tids)) [
        | inl earlier ↦
            let among : i < length tokens = omega (arith, before.one_each) in
            let same_used = take-append-le i tids (tid ∷ []) (omega arith) in
            let same_tid = get_or_append_left tids (tid ∷ []) 0 i earlier in
            let same_token = get_or_append_left tokens (token ∷ []) [] i among in
            rw (same_used, same_tid, same_token) (before.sold i earlier)
        | inr latest ↦
            let here : length tids ≡ i = omega (arith, length_push tids tid) in
            let same_used = take_at tids (tid ∷ []) (length tids) refl in
            let same_tid = get_or_at tids tid [] 0 (length tids) refl in
            let same_token = get_or_at tokens token [] [] (length tids) before.one_each in
            subst (λ (k : ℕ). IsSale forward key base moment (take k (tids ++ tid ∷ [])) (k + 1) (get_or amounts k 0)
            (get_or (tids ++ tid ∷ []) k 0) (get_or (tokens ++ token ∷ []) k []))
            here (rw (same_used, same_tid, same_token) sale)
      ];
    }

-- the identifier of a sale is greater than those before
above_used : (used : List ℕ) (tid : ℕ) (now : Result ℕ TidFault)
    → MatchResult now (λ m. FreshOutcome used m (Ok tid)) (λ fault. let outcome : Result ℕ TidFault = Ok tid in outcome ≡ Err fault) → All (λ u. u < tid) used
above_used used tid (Ok now) fresh = fresh.0.may_sell.above_used
above_used used tid (Err fault) e = cc

-- so it is the last one after it
pub last_more : (base : Base) (moment : ℕ) (tids : List ℕ) (tid : ℕ) → TidOutcome base moment tids (Ok tid) → IsLast (tids ++ tid ∷ []) (Some tid)
last_more base moment tids tid fresh =
    let before = above_used tids tid (minute_of base moment) fresh in
    let at_most = All-weaker (λ u. u < tid) (λ u. u ≤ tid) (λ u h. omega arith) tids before in
    (Contains-push tids tid, All-push (λ u. u ≤ tid) tids tid at_most (omega arith))

-- a refusal of the next amount ends the trial
pub ends_by_refusal : (base : Base) (moment : ℕ) (amounts tids : List ℕ) (fault : TrialFault) → length tids < length amounts
    → IsRefusedBy base moment tids (get_or amounts (length tids) 0) fault → EndsTrialBy base moment amounts tids (Some fault)
ends_by_refusal base moment amounts tids Amount next refused = (next, refused)
ends_by_refusal base moment amounts tids (Tid fault) next refused = (next, refused)
ends_by_refusal base moment amounts tids Memory next refused = absurd refused
