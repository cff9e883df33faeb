-- Where the true values of a probe end, and in how many questions that place is found.
use Rattle.std.proofs.Common.{◌≡◌, ℕ, zero, suc, ◌+◌, ◌-◌, ◌<◌, ◌≤◌, Bool, true, false, cond, List, [], ◌∷◌, inl, inr, refl, sym, ◌∙◌, ap, subst, arith}
use Rattle.std.proofs.lemmas.Bool.{cases_Bool, false≢true}
use Rattle.std.proofs.lemmas.List.Sums.{sum_by-cons}
use Rattle.sim_meter.specs.Probe.{AreTrueFirst, true_count, value_at}

-- none true after a false one, whatever the count of the values
abbrev NoneAfter : List Bool → Type 0
NoneAfter values = (first later : ℕ) → first < later → value_at values first ≡ false
    → value_at values later ≡ false

rest_none_after : (value : Bool) (values : List Bool) → NoneAfter (value ∷ values)
    → NoneAfter values
rest_none_after value values after =
    λ first later before none. after (suc first) (suc later) (omega arith) none

all_after : (values : List Bool) → NoneAfter values → value_at values 0 ≡ false → (place : ℕ)
    → value_at values place ≡ false
all_after values after none zero = none
all_after values after none (suc place) = after 0 (suc place) (omega arith) none

count_cons : (value : Bool) (values : List Bool)
    → true_count (value ∷ values) ≡ cond value 1 0 + true_count values
count_cons value values = sum_by-cons (λ (v : Bool). cond v 1 0) value values

count_true : (value : Bool) (values : List Bool) → value ≡ true
    → true_count (value ∷ values) ≡ 1 + true_count values
count_true value values here =
    count_cons value values ∙ ap (λ (v : Bool). cond v 1 0 + true_count values) here

count_false : (value : Bool) (values : List Bool) → value ≡ false
    → true_count (value ∷ values) ≡ 0 + true_count values
count_false value values here =
    count_cons value values ∙ ap (λ (v : Bool). cond v 1 0 + true_count values) here

none_true : (values : List Bool) → ((place : ℕ) → value_at values place ≡ false)
    → true_count values ≡ 0
none_true [] none = refl
none_true (value ∷ values) none =
    let rest = none_true values (λ place. none (suc place)) in
    let here = count_false value values (none 0) in
    omega (arith, here, rest)

-- a true value is one of those before the end of them
true_within : (values : List Bool) → NoneAfter values → (place : ℕ)
    → value_at values place ≡ true → place < true_count values
true_within [] after place is_true = absurd (false≢true is_true)
true_within (value ∷ values) after zero is_true =
    let here = count_true value values is_true in
    omega (arith, here)
true_within (value ∷ values) after (suc place) is_true =
    elim (cases_Bool value) [
      | inl here ↦
          let counts = count_true value values here in
          let rest = true_within values (rest_none_after value values after) place is_true in
          omega (arith, counts, rest)
      | inr none ↦ absurd (false≢true (sym (after 0 (suc place) (omega arith) none) ∙ is_true))
    ]

-- and a false value stands from that end on
false_from : (values : List Bool) → NoneAfter values → (place : ℕ)
    → value_at values place ≡ false → true_count values ≤ place
false_from [] after place is_false =
    let none : true_count [] ≡ 0 = refl in
    omega (arith, none)
false_from (value ∷ values) after zero is_false =
    let none = none_true (value ∷ values) (all_after (value ∷ values) after is_false) in
    omega (arith, none)
false_from (value ∷ values) after (suc place) is_false =
    elim (cases_Bool value) [
      | inl here ↦
          let counts = count_true value values here in
          let rest = false_from values (rest_none_after value values after) place is_false in
          omega (arith, counts, rest)
      | inr none ↦
          let counts = count_false value values none in
          let rest = false_from values (rest_none_after value values after) place is_false in
          omega (arith, counts, rest)
    ]

-- a true value of a probe stands before the end of the true ones
pub true_is_within : (values : List Bool) → AreTrueFirst values → (place : ℕ)
    → value_at values place ≡ true → place < true_count values
true_is_within values are = true_within values are.none_after

-- a false value of a probe stands at that end or after it
pub false_is_from : (values : List Bool) → AreTrueFirst values → (place : ℕ)
    → value_at values place ≡ false → true_count values ≤ place
false_is_from values are = false_from values are.none_after

-- ---- halves
-- less than so many places are open after some questions
abbrev pub room : ℕ → ℕ
room zero = 64
room (suc zero) = 32
room (suc (suc zero)) = 16
room (suc (suc (suc zero))) = 8
room (suc (suc (suc (suc zero)))) = 4
room (suc (suc (suc (suc (suc zero))))) = 2
room (suc (suc (suc (suc (suc (suc more)))))) = 1

pub record IsHalved (asked open_after : ℕ) : Type 0 where
  pub six : asked < 6
  pub fits : open_after < room (suc asked)

-- a question halves what is open, so the seventh is never asked
halved : (asked open_before open_after : ℕ) → 0 < open_before → open_before < room asked
    → open_after + open_after ≤ open_before → IsHalved asked open_after
halved zero before after some fits less = record { six = omega arith; fits = omega arith }
halved (suc zero) before after some fits less = record { six = omega arith; fits = omega arith }
halved (suc (suc zero)) before after some fits less =
    record { six = omega arith; fits = omega arith }
halved (suc (suc (suc zero))) before after some fits less =
    record { six = omega arith; fits = omega arith }
halved (suc (suc (suc (suc zero)))) before after some fits less =
    record { six = omega arith; fits = omega arith }
halved (suc (suc (suc (suc (suc zero))))) before after some fits less =
    record { six = omega arith; fits = omega arith }
halved (suc (suc (suc (suc (suc (suc more)))))) before after some fits less = absurd (omega arith)

pub record IsAsked (start now low high : ℕ) : Type 0 where
  pub from : start ≤ now
  pub six : now ≤ start + 6
  pub fits : high - low < room (now - start)

-- one more question was asked, and at most half of what was open is left
pub asked_more : (start now low high low' high' : ℕ) → IsAsked start now low high → low < high
    → (high' - low') + (high' - low') ≤ high - low → IsAsked start (now + 1) low' high'
asked_more start now low high low' high' asked some less =
    let from = asked.from in
    let half = halved (now - start) (high - low) (high' - low') (omega arith) asked.fits less in
    let six = half.six in
    let one_more : suc (now - start) ≡ now + 1 - start = omega arith in
    record {
      from = omega arith;
      six = omega arith;
      fits = subst (λ (asked : ℕ). high' - low' < room asked) one_more half.fits;
    }
