-- Fifty sorted places that hold the greatest identifiers tell what was taken.
use Rattle.std.proofs.Common.{◌≡◌, ◌≢◌, ℕ, zero, suc, ◌+◌, ◌-◌, ◌<◌, ◌≤◌, ◌^◌, min, Bool, true, false, cond, eqb, ltb, ◌||◌, List, [], ◌∷◌, length, get_or, drop, count_by, sum, inl, inr, refl, sym, ◌∙◌, ap, arith}
use Rattle.std.specs.Prelude.{All}
use Rattle.std.specs.List.Sorted.{IsPermutation}
use Rattle.std.proofs.lemmas.Bool.{cases_Bool, cases_lt, eq-eqb, false_from_ne_true, false≢true, le-leb, lt-leb, ne_eqb, or_cases, or_parts, or_right, true_from_ne_false}
use Rattle.std.proofs.lemmas.Bool.Decides.{nat_tests}
use Rattle.std.proofs.lemmas.List.Folds.{list_any_at}
use Rattle.std.proofs.lemmas.List.Sorted.{length_permutation, sum_by-IsPermutation}
use Rattle.std.proofs.lemmas.List.Sums.{count_by-le-length, sum_by-cons, sum_by-drop_more}
use Rattle.std.proofs.lemmas.List.{get_or_default, length-drop}
use Rattle.sts_token.specs.Meter.{accepted, answer_to, is_member, old, used}
use Rattle.sim_meter.specs.Store.{AreSorted, HoldsGreatest}

-- ---- counts over any list
abbrev one_if : Bool → ℕ
one_if passes = cond passes 1 0

one_if_le : (passes : Bool) → one_if passes ≤ 1
one_if_le true = omega arith
one_if_le false = omega arith

-- as many pass as there are, where all pass
all_pass : (p : ℕ → Bool) (xs : List ℕ) → All (λ x. p x ≡ true) xs → count_by p xs ≡ length xs
all_pass p [] all = refl
all_pass p (x ∷ xs) all =
    let here = ap one_if (all 0 x (omega arith)) in
    let rest = all_pass p xs (λ k d h. all (suc k) d (omega arith)) in
    omega (arith, sum_by-cons (λ y. cond (p y) 1 0) x xs, here, rest)

-- fewer pass, where a place fails
place_fails : (p : ℕ → Bool) (xs : List ℕ) (i : ℕ) → i < length xs → p (get_or xs i 0) ≡ false
    → count_by p xs < length xs
place_fails p [] i within fails = absurd (omega arith)
place_fails p (x ∷ xs) zero within fails =
    let here = ap one_if fails in
    omega (arith, sum_by-cons (λ y. cond (p y) 1 0) x xs, here, count_by-le-length p xs)
place_fails p (x ∷ xs) (suc i) within fails =
    let rest = place_fails p xs i (omega arith) fails in
    let here = one_if_le (p x) in
    omega (arith, sum_by-cons (λ y. cond (p y) 1 0) x xs, here, rest)

-- those from t on are those above it and those that are it
from_and_above : (t : ℕ) (xs : List ℕ) → 1 ≤ t → count_by (ltb (t - 1)) xs
    ≡ count_by (ltb t) xs + count_by (eqb t) xs
from_and_above t [] some = refl
from_and_above t (x ∷ xs) some =
    let here : cond (ltb (t - 1) x) 1 0 ≡ cond (ltb t x) 1 0 + cond (eqb t x) 1 0 =
    grind (arith, nat_tests) in
    omega (
      arith,
      sum_by-cons (λ y. cond (ltb (t - 1) y) 1 0) x xs,
      sum_by-cons
          (λ y. cond (ltb t y) 1 0) x xs,
      sum_by-cons (λ y. cond (eqb t y) 1 0) x xs,
      here,
      from_and_above t xs some,
    )

-- one that is there is counted, and the other way round
counted : (t : ℕ) (xs : List ℕ) → is_member xs t ≡ true → 1 ≤ count_by (eqb t) xs
counted t [] there = absurd (false≢true there)
counted t (x ∷ xs) there =
    let cons = sum_by-cons (λ y. cond (eqb t y) 1 0) x xs in
    elim (or_cases (eqb t x) (is_member xs t) there) [
      | inl here ↦ let one = ap one_if here in omega (arith, cons, one)
      | inr later ↦ omega (arith, cons, counted t xs later)
    ]

not_counted : (t : ℕ) (xs : List ℕ) → is_member xs t ≡ false → count_by (eqb t) xs ≡ 0
not_counted t [] none = refl
not_counted t (x ∷ xs) none =
    let parts = or_parts (eqb t x) (is_member xs t) none in
    let here = ap one_if parts.0 in
    omega (arith, sum_by-cons (λ y. cond (eqb t y) 1 0) x xs, here, not_counted t xs parts.1)

-- ---- the sorted places
least_first : (store : List ℕ) → AreSorted store → All (λ x. get_or store 0 0 ≤ x) store
least_first store are =
    let fifty = are.fifty in
    λ k d h.
    omega (arith, are.upward 0 k d (omega arith) h, get_or_default store 0 d 0 (omega arith))

all_greater : (store : List ℕ) (t : ℕ) → AreSorted store → t < get_or store 0 0
    → count_by (ltb t) store ≡ 50
all_greater store t are below =
    all_pass (ltb t) store
    (λ k d h. let m = least_first store are k d h in grind (arith, nat_tests)) ∙ are.fifty

some_not_greater : (store : List ℕ) (t : ℕ) → AreSorted store → get_or store 0 0 ≤ t
    → count_by (ltb t) store < 50
some_not_greater store t are above =
    let fifty = are.fifty in
    let fails : ltb t (get_or store 0 0) ≡ false = grind (arith, nat_tests) in
    omega (arith, place_fails (ltb t) store 0 (omega arith) fails)

-- ---- the three answers
pub answer_old : (store taken : List ℕ) (t : ℕ) → HoldsGreatest store taken → AreSorted store
    → t < get_or store 0 0 → answer_to taken t ≡ old
answer_old store taken t holds are below =
    let many : 50 ≤ count_by (ltb t) taken =
    omega (arith, all_greater store t are below, holds.greater t) in
    ap (λ (o : Bool). cond o old (cond (eqb t 0 || is_member taken t) used accepted))
    (le-leb 50 (count_by (ltb t) taken) many)

few : (store taken : List ℕ) (t : ℕ) → HoldsGreatest store taken → AreSorted store
    → get_or store 0 0 ≤ t → count_by (ltb t) taken < 50
few store taken t holds are above =
    omega (arith, some_not_greater store t are above, holds.greater t)

not_old : (taken : List ℕ) (t : ℕ) → count_by (ltb t) taken < 50 → answer_to taken t
    ≡ cond (eqb t 0 || is_member taken t) used accepted
not_old taken t less = ap
    (λ (o : Bool). cond o old (cond (eqb t 0 || is_member taken t) used accepted))
    (lt-leb 50 (count_by (ltb t) taken) less)

-- an identifier that is stored was used
pub answer_used : (store taken : List ℕ) (t : ℕ) → HoldsGreatest store taken → AreSorted store
    → get_or store 0 0 ≤ t → is_member store t ≡ true → answer_to taken t ≡ used
answer_used store taken t holds are above stored =
    let less = few store taken t holds are above in
    let there = counted t store stored in
    not_old taken t less
    ∙ elim (cases_Bool (eqb t 0)) [
      | inl none ↦ ap (λ (z : Bool). cond (z || is_member taken t) used accepted) none
      | inr some ↦
          let one : 1 ≤ t = grind (arith, nat_tests) in
          let now = from_and_above t store one in
          let before = from_and_above t taken one in
          let among : is_member taken t ≡ true = true_from_ne_false (is_member taken t) (λ none.
          omega (
            arith,
            there,
            now,
            before,
            not_counted t taken none,
            holds.greater t,
            holds.greater
                (t - 1),
            less,
          )) in
          ap (λ (m : Bool). cond (eqb t 0 || m) used accepted) among
          ∙ ap (λ (b : Bool). cond b used accepted) (or_right (eqb t 0) true refl)
    ]

-- one that is not stored, and not below the least, is accepted
pub answer_accepted : (store taken : List ℕ) (t : ℕ) → HoldsGreatest store taken → AreSorted store
    → get_or store 0 0 ≤ t → is_member store t ≡ false → answer_to taken t ≡ accepted
answer_accepted store taken t holds are above stored =
    let less = few store taken t holds are above in
    let none = not_counted t store stored in
    let fifty = are.fifty in
    let above_zero : t ≢ 0 = λ e.
    let same : eqb t (get_or store 0 0) ≡ true = eq-eqb t (get_or store 0 0) (omega arith) in
    false≢true (sym stored ∙ list_any_at (eqb t) store 0 0 (omega arith) same) in
    let one : 1 ≤ t = omega arith in
    let now = from_and_above t store one in
    let before = from_and_above t taken one in
    let among : is_member taken t ≡ false = false_from_ne_true (is_member taken t) (λ there.
    omega (
      arith,
      counted t taken there,
      none,
      now,
      before,
      holds.greater t,
      holds.greater (t - 1),
      less,
    )) in
    not_old taken t less
    ∙ ap (λ (z : Bool). cond (z || is_member taken t) used accepted) (ne_eqb t 0 above_zero)
    ∙ ap (λ (m : Bool). cond m used accepted) among

-- an accepted identifier comes and the least goes
pub holds_more : (store after taken : List ℕ) (t : ℕ) → HoldsGreatest store taken → AreSorted store
    → get_or store 0 0 < t → IsPermutation (t ∷ drop 1 store) after
    → HoldsGreatest after (t ∷ taken)
holds_more store after taken t holds are above moved =
    let fifty = are.fifty in
    record {
      fifty = omega (
        arith,
        length_permutation (t ∷ drop 1 store) after moved,
        length-drop 1 store,
      );
      greater = λ s.
          let counts = sum_by-IsPermutation (λ x. cond (ltb s x) 1 0) (t ∷ drop 1 store) after moved in
          let write = sum_by-cons (λ x. cond (ltb s x) 1 0) t (drop 1 store) in
          let least = sum_by-drop_more (λ x. cond (ltb s x) 1 0) store 0 0 (omega arith) in
          let more = sum_by-cons (λ x. cond (ltb s x) 1 0) t taken in
          let kept = holds.greater s in
          elim (cases_lt s (get_or store 0 0)) [
            | inl under ↦
                let all = all_greater store s are under in
                let least_counts : one_if (ltb s (get_or store 0 0)) ≡ 1 =
                grind (arith, nat_tests) in
                let t_counts : one_if (ltb s t) ≡ 1 = grind (arith, nat_tests) in
                omega (arith, counts, write, least, more, kept, all, least_counts, t_counts)
            | inr over ↦
                let some = some_not_greater store s are over in
                let least_counts : one_if (ltb s (get_or store 0 0)) ≡ 0 =
                grind (arith, nat_tests) in
                let t_counts = one_if_le (ltb s t) in
                omega (arith, counts, write, least, more, kept, some, least_counts, t_counts)
          ];
    }

-- ---- the credit
pub credit_more : (credit tenths result : ℕ) (amounts : List ℕ) → credit
    ≡ min (2 ^ 64 - 1) (sum amounts) → result ≡ min (credit + tenths) (2 ^ 64 - 1)
    → result ≡ min (2 ^ 64 - 1) (sum (tenths ∷ amounts))
credit_more credit tenths result amounts before now =
    let total : sum (tenths ∷ amounts) ≡ tenths + sum amounts =
    sum_by-cons (λ (x : ℕ). x) tenths amounts in
    omega arith
