-- The ranges of the four exponents are disjoint, and in each the amounts lie a step apart.
use Rattle.std.proofs.Common.{◌≡◌, ℕ, zero, suc, ◌+◌, ◌-◌, ◌*◌, ◌/◌, ◌%◌, ◌^◌, ◌<◌, ◌≤◌, inl, inr, sym, ◌∙◌, subst, add-zero, add-suc, arith}
use Rattle.std.proofs.lemmas.Bool.{cases_lt}
use Rattle.std.proofs.lemmas.Bool.Decides.{nat_tests}
use Rattle.sts_fields.specs.Amount.{HasParts, IsFloor, IsRepresentable, LiesIn, amount_of, amount_of_code, code_of, exponent_of, greatest_amount, start_of}

-- an exponent's range is told by the count of the starts below
exponent_of-range : (t e : ℕ) → LiesIn t e → exponent_of t ≡ e
exponent_of-range t zero r = let next = r.before_next (omega arith) in grind (arith, nat_tests)
exponent_of-range t (suc zero) r =
    let from = r.from_start in let next = r.before_next (omega arith) in grind (arith, nat_tests)
exponent_of-range t (suc (suc zero)) r =
    let from = r.from_start in let next = r.before_next (omega arith) in grind (arith, nat_tests)
exponent_of-range t (suc (suc (suc zero))) r = let from = r.from_start in grind (arith, nat_tests)
exponent_of-range t (suc (suc (suc (suc e)))) r = let past = r.exponent in absurd (omega arith)

-- an amount has one exponent
pub same_exponent : (t e k : ℕ) → LiesIn t e → LiesIn t k → e ≡ k
same_exponent t e k r s = sym (exponent_of-range t e r) ∙ exponent_of-range t k s

-- an amount lies in the range of its exponent
pub range_from_parts : (t e m : ℕ) → HasParts t e m → LiesIn t e
range_from_parts t zero m p =
    let small = p.mantissa in
    let gives = p.gives in
    record { exponent = omega arith; from_start = omega arith; before_next = λ _. omega arith }
range_from_parts t (suc zero) m p =
    let small = p.mantissa in
    let gives = p.gives in
    record { exponent = omega arith; from_start = omega arith; before_next = λ _. omega arith }
range_from_parts t (suc (suc zero)) m p =
    let small = p.mantissa in
    let gives = p.gives in
    record { exponent = omega arith; from_start = omega arith; before_next = λ _. omega arith }
range_from_parts t (suc (suc (suc zero))) m p =
    let small = p.mantissa in
    let gives = p.gives in
    record { exponent = omega arith; from_start = omega arith; before_next = λ _. omega arith }
range_from_parts t (suc (suc (suc (suc e)))) m p = let past = p.exponent in absurd (omega arith)

-- the mantissa counts the steps above the start of the range, and nothing is left over
pub mantissa_from_parts : (t e m : ℕ) → HasParts t e m
    → ((t - start_of e) / 10 ^ e ≡ m) × ((t - start_of e) % 10 ^ e ≡ 0)
mantissa_from_parts t zero m p = let gives = p.gives in (omega arith, omega arith)
mantissa_from_parts t (suc zero) m p = let gives = p.gives in (omega arith, omega arith)
mantissa_from_parts t (suc (suc zero)) m p = let gives = p.gives in (omega arith, omega arith)
mantissa_from_parts t (suc (suc (suc zero))) m p = let gives = p.gives in (omega arith, omega arith)
mantissa_from_parts t (suc (suc (suc (suc e)))) m p = let past = p.exponent in absurd (omega arith)

-- rounded down to a whole step, what lies in a range is an amount
pub rounded_down_parts : (t e : ℕ) → LiesIn t e → t ≤ greatest_amount
    → HasParts (t - (t - start_of e) % 10 ^ e) e ((t - start_of e) / 10 ^ e)
rounded_down_parts t zero r top =
    let next = r.before_next (omega arith) in
    record { exponent = omega arith; mantissa = omega arith; gives = omega arith }
rounded_down_parts t (suc zero) r top =
    let from = r.from_start in
    let next = r.before_next (omega arith) in
    record { exponent = omega arith; mantissa = omega arith; gives = omega arith }
rounded_down_parts t (suc (suc zero)) r top =
    let from = r.from_start in
    let next = r.before_next (omega arith) in
    record { exponent = omega arith; mantissa = omega arith; gives = omega arith }
rounded_down_parts t (suc (suc (suc zero))) r top =
    let from = r.from_start in
    record { exponent = omega arith; mantissa = omega arith; gives = omega arith }
rounded_down_parts t (suc (suc (suc (suc e)))) r top = let past = r.exponent in absurd (omega arith)

-- no step of an exponent lies between what was rounded down and where it came from
no_step_between : (t e m : ℕ) → LiesIn t e → amount_of e m ≤ t
    → amount_of e m ≤ t - (t - start_of e) % 10 ^ e
no_step_between t zero m r within = omega arith
no_step_between t (suc zero) m r within = let from = r.from_start in omega arith
no_step_between t (suc (suc zero)) m r within = let from = r.from_start in omega arith
no_step_between t (suc (suc (suc zero))) m r within = let from = r.from_start in omega arith
no_step_between t (suc (suc (suc (suc e)))) m r within =
    let past = r.exponent in absurd (omega arith)

-- what is greater than a rounded amount, and not past where it came from, lies in the same range
range_between : (t u v e : ℕ) → LiesIn t e → start_of e ≤ u → u < v → v ≤ t → LiesIn v e
range_between t u v e r low above within =
    record { exponent = r.exponent; from_start = omega arith; before_next = λ k. let next = r.before_next k in omega arith }

-- rounding down to a whole step gives the greatest amount that a token can carry up to it
pub floor_is : (t e : ℕ) → LiesIn t e → t ≤ greatest_amount
    → IsFloor t (t - (t - start_of e) % 10 ^ e)
floor_is t e r top =
    let parts = rounded_down_parts t e r top in
    record {
      representable = (e, (t - start_of e) / 10 ^ e, parts);
      within = omega arith;
      none_between = λ v carried above within.
          let low = (range_from_parts _ _ _ parts).from_start in
          let same = same_exponent v carried.0 e (range_from_parts _ _ _ carried.2) (range_between t _ v e r low above within) in
          let gives = subst (λ (k : ℕ). amount_of k carried.1 ≡ v) same carried.2.gives in
          let below =
          no_step_between t e carried.1 r (subst (λ (k : ℕ). k ≤ t) (sym gives) within) in
          omega arith;
    }

-- what a token can carry lies a whole number of steps above the start of its range
pub no_rest_from_representable : (t e : ℕ) → LiesIn t e → IsRepresentable t
    → (t - start_of e) % 10 ^ e ≡ 0
no_rest_from_representable t e r carried =
    let same = same_exponent t carried.0 e (range_from_parts _ _ _ carried.2) r in
    subst (λ (k : ℕ). (t - start_of k) % 10 ^ k ≡ 0) same (mantissa_from_parts _ _ _ carried.2).1

-- no token carries more than the greatest amount
pub representable_bound : (t e m : ℕ) → HasParts t e m → t ≤ greatest_amount
representable_bound t zero m p = let small = p.mantissa in let gives = p.gives in omega arith
representable_bound t (suc zero) m p = let small = p.mantissa in let gives = p.gives in omega arith
representable_bound t (suc (suc zero)) m p =
    let small = p.mantissa in let gives = p.gives in omega arith
representable_bound t (suc (suc (suc zero))) m p =
    let small = p.mantissa in let gives = p.gives in omega arith
representable_bound t (suc (suc (suc (suc e)))) m p = let past = p.exponent in absurd (omega arith)

-- what can be carried has for its mantissa the steps above the start of its range
pub parts_in_range : (t e : ℕ) → LiesIn t e → IsRepresentable t
    → HasParts t e ((t - start_of e) / 10 ^ e)
parts_in_range t e r carried =
    let parts = carried.2 in
    let same = same_exponent t carried.0 e (range_from_parts _ _ _ parts) r in
    let mantissa = (mantissa_from_parts _ _ _ parts).0 in
    subst (λ (k : ℕ). HasParts t k ((t - start_of k) / 10 ^ k)) same
    (subst (λ (m : ℕ). HasParts t carried.0 m) (sym mantissa) parts)

-- the pair of exponent and mantissa is the only one
pub same_parts : (t e m k n : ℕ) → HasParts t e m → HasParts t k n → (e ≡ k) × (m ≡ n)
same_parts t e m k n p q =
    let same = same_exponent t e k (range_from_parts _ _ _ p) (range_from_parts _ _ _ q) in
    let at_k =
    subst (λ (j : ℕ). (t - start_of j) / 10 ^ j ≡ m) same (mantissa_from_parts _ _ _ p).0 in
    (same, sym at_k ∙ (mantissa_from_parts _ _ _ q).0)

-- the computed code of an amount is its exponent and its mantissa, put together
pub code_from_parts : (t e m : ℕ) → HasParts t e m → code_of t ≡ e * 2 ^ 14 + m
code_from_parts t e m p =
    let same = exponent_of-range t e (range_from_parts _ _ _ p) in
    let at_e =
    subst (λ (j : ℕ). (t - start_of j) / 10 ^ j ≡ m) (sym same) (mantissa_from_parts _ _ _ p).0 in
    omega (arith, same, at_e)

-- ---- the amounts rise with their codes
amount_from : (e m : ℕ) → start_of e ≤ amount_of e m
amount_from e m = omega arith

start_rises : (e n : ℕ) → start_of e ≤ start_of (e + n)
start_rises e zero = rw add-zero (omega arith)
start_rises e (suc n) = rw add-suc (omega (arith, start_rises e n))

-- a greater mantissa of one exponent is more
mantissa_rises : (e m n : ℕ) → e < 4 → m < n → amount_of e m < amount_of e n
mantissa_rises zero m n small less = omega arith
mantissa_rises (suc zero) m n small less = omega arith
mantissa_rises (suc (suc zero)) m n small less = omega arith
mantissa_rises (suc (suc (suc zero))) m n small less = omega arith
mantissa_rises (suc (suc (suc (suc e)))) m n small less = absurd (omega arith)

amount_before : (e m : ℕ) → e < 4 → m < 2 ^ 14 → amount_of e m < start_of (suc e)
amount_before zero m small fits = omega arith
amount_before (suc zero) m small fits = omega arith
amount_before (suc (suc zero)) m small fits = omega arith
amount_before (suc (suc (suc zero))) m small fits = omega arith
amount_before (suc (suc (suc (suc e)))) m small fits = absurd (omega arith)

-- so is a greater exponent
exponent_rises : (e m k n : ℕ) → e < k → k < 4 → m < 2 ^ 14 → amount_of e m < amount_of k n
exponent_rises e m k n less small fits =
    let before = amount_before e m (omega arith) fits in
    let next : suc e + (k - suc e) ≡ k = omega arith in
    let starts =
    subst (λ (j : ℕ). start_of (suc e) ≤ start_of j) next (start_rises (suc e) (k - suc e)) in
    omega (arith, before, starts, amount_from k n)

-- a greater code stands for a greater amount
pub amount_of_code-rises : (c d : ℕ) → c < d → d < 2 ^ 16 → amount_of_code c < amount_of_code d
amount_of_code-rises c d less fits = elim (cases_lt (c / 2 ^ 14) (d / 2 ^ 14)) [
  | inl below ↦ exponent_rises (c / 2 ^ 14) (c % 2 ^ 14) (d / 2 ^ 14) (d % 2 ^ 14) below (omega arith) (omega arith)
  | inr most ↦
      let same : c / 2 ^ 14 ≡ d / 2 ^ 14 = omega arith in
      subst (λ (e : ℕ). amount_of_code c < amount_of e (d % 2 ^ 14)) same
      (mantissa_rises (c / 2 ^ 14) (c % 2 ^ 14) (d % 2 ^ 14) (omega arith) (omega arith))
]
