-- Four bits that a table takes at once are those bits taken one by one.
use Rattle.std.proofs.Common.{lit<, List, [], ◌∷◌, ◌≡◌, ℕ, suc, zero, length, get_or, take, ◌+◌, ◌*◌, ◌/◌, ◌%◌, ◌^◌, ◌<◌, ◌≢◌, Bool, true, ◌&&◌, eqb, bit_xor, refl, sym, ◌∙◌, ap, inl, inr, arith}
use Rattle.std.specs.Int.{bit_at}
use Rattle.std.specs.Int.Bits.{xor_assoc, xor_shifted, xor_zero_r}
use Rattle.std.specs.List.{flat_map, fold}
use Rattle.std.proofs.lemmas.Bool.{and_parts, cases_eq, eqb-true}
use Rattle.std.proofs.lemmas.Bool.Decides.{nat_tests}
use Rattle.std.proofs.lemmas.Nat.{shr-shr, xor_comm, xor_lt, xor_shr}
use Rattle.std.proofs.lemmas.Nat.Bits.{bit_at_lowest, bit_at_xor}
use Rattle.sts_token.specs.Check.{bits_of, check_of, check_step}
use Rattle.sts_token.specs.declared.check.TheConstants.{AFTER_FOUR}

-- which bit is lowest after a mix
lowest_mixed : (c b : ℕ) → bit_xor c b % 2 ≡ (c % 2 + b % 2) % 2
lowest_mixed c b =
    sym (bit_at_lowest (bit_xor c b)) ∙ bit_at_xor c b 0
    ∙ ap (λ (n : ℕ). n % 2) (omega (arith, bit_at_lowest c, bit_at_lowest b))

step_same : (c bit : ℕ) → c % 2 ≡ bit → check_step c bit ≡ c / 2
step_same c bit e = grind (arith, nat_tests)

step_other : (c bit : ℕ) → c % 2 ≢ bit → check_step c bit ≡ bit_xor (c / 2) 0xA001
step_other c bit e = grind (arith, nat_tests)

swap_mixed : (a b k : ℕ) → bit_xor (bit_xor a b) k ≡ bit_xor (bit_xor a k) b
swap_mixed a b k = xor_assoc a b k ∙ ap (bit_xor a) (xor_comm b k) ∙ sym (xor_assoc a k b)

-- a step over the mix is a step over the check with the byte's lowest bit, mixed with the rest of
-- the byte
pub mixed_step : (c b : ℕ) → check_step (bit_xor c b) 0 ≡ bit_xor (check_step c (b % 2)) (b / 2)
mixed_step c b =
    let low = lowest_mixed c b in
    let high : bit_xor c b / 2 ≡ bit_xor (c / 2) (b / 2) = xor_shr c b 1 in
    elim (cases_eq (c % 2) (b % 2)) [
      | inl same ↦ step_same (bit_xor c b) 0 (omega arith) ∙ high ∙ ap (λ (n : ℕ). bit_xor n (b / 2)) (sym (step_same c (b % 2) same))
      | inr other ↦ step_other (bit_xor c b) 0 (omega arith) ∙ ap (λ (n : ℕ). bit_xor n 0xA001) high ∙ swap_mixed (c / 2) (b / 2) 0xA001
          ∙ ap (λ (n : ℕ). bit_xor n (b / 2)) (sym (step_other c (b % 2) other))
    ]

-- the same at the bits from the place i on
step_more : (c b i : ℕ) → check_step (bit_xor c (b / 2 ^ i)) 0
    ≡ bit_xor (check_step c (bit_at b i)) (b / 2 ^ (i + 1))
step_more c b i =
    mixed_step c (b / 2 ^ i) ∙ ap (bit_xor (check_step c (bit_at b i))) (shr-shr b i 1)

-- what four steps over bits of 0 make of a number
abbrev pub after_four : ℕ → ℕ
after_four mixed = fold check_step mixed (0 ∷ 0 ∷ 0 ∷ 0 ∷ [])

-- four steps over the mix are four steps with the lowest bits of b, mixed with the rest of b
four_mixed : (c b : ℕ) → after_four (bit_xor c b)
    ≡ bit_xor (fold check_step c (take 4 (bits_of b))) (b / 2 ^ 4)
four_mixed c b =
    let one = check_step c (bit_at b 0) in
    let two = check_step one (bit_at b 1) in
    let three = check_step two (bit_at b 2) in
    let whole : b ≡ b / 2 ^ 0 = omega arith in
    ap (λ (n : ℕ). after_four (bit_xor c n)) whole
    ∙ ap (λ (m : ℕ). check_step (check_step (check_step m 0) 0) 0) (step_more c b 0)
    ∙ ap (λ (m : ℕ). check_step (check_step m 0) 0) (step_more one b 1)
    ∙ ap (λ (m : ℕ). check_step m 0) (step_more two b 2)
    ∙ step_more three b 3

-- a number is its lowest four bits, mixed with the rest of it
parts_mixed : (m : ℕ) → bit_xor (m % 16) (m / 16 * 16) ≡ m
parts_mixed m =
    xor_comm (m % 16) (m / 16 * 16) ∙ xor_shifted (m / 16) 4 (m % 16) (omega arith) ∙ omega arith

four_same : (f : ℕ → ℕ → ℕ) (c a b d e a' b' d' e' : ℕ) → a ≡ a' → b ≡ b' → d ≡ d' → e ≡ e'
    → f (f (f (f c a) b) d) e ≡ f (f (f (f c a') b') d') e'
four_same f c a b d e a' b' d' e' p q r s = cc

-- so the lowest four bits say what the four steps mix in
four_steps : (m : ℕ) → after_four m ≡ bit_xor (m / 16) (after_four (m % 16))
four_steps m =
    let high = m / 16 * 16 in
    let none : fold check_step (m % 16) (take 4 (bits_of high)) ≡ after_four (m % 16) =
    four_same check_step (m % 16) (bit_at high 0) (bit_at high 1) (bit_at high 2) (bit_at high 3)
    0 0 0 0 (omega arith) (omega arith) (omega arith) (omega arith) in
    let rest : high / 2 ^ 4 ≡ m / 16 = omega arith in
    ap after_four (sym (parts_mixed m)) ∙ four_mixed (m % 16) high
    ∙ ap (λ (n : ℕ). bit_xor n (high / 2 ^ 4)) none
    ∙ ap (bit_xor (after_four (m % 16))) rest ∙ xor_comm (after_four (m % 16)) (m / 16)

-- ---- the table
-- each entry, from the place i on, is what four steps make of its place
abbrev entries_hold : ℕ → List ℕ → Bool
entries_hold i [] = true
entries_hold i (entry ∷ entries) = eqb entry (after_four i) && entries_hold (suc i) entries

-- computed over the table
table_holds : entries_hold 0 AFTER_FOUR ≡ true
table_holds = refl

entry_from : (i k : ℕ) (entries : List ℕ) → entries_hold i entries ≡ true → k < length entries
    → get_or entries k 0 ≡ after_four (i + k)
entry_from i k [] holds within = absurd (omega arith)
entry_from i zero (first ∷ entries) holds within =
    let parts = and_parts (eqb first (after_four i)) (entries_hold (suc i) entries) holds in
    let place : i ≡ i + 0 = omega arith in
    eqb-true first (after_four i) parts.0 ∙ ap after_four place
entry_from i (suc k) (first ∷ entries) holds within =
    let parts = and_parts (eqb first (after_four i)) (entries_hold (suc i) entries) holds in
    let place : suc i + k ≡ i + suc k = omega arith in
    entry_from (suc i) k entries parts.1 (omega arith) ∙ ap after_four place

entry : (nibble : ℕ) → nibble < 16 → get_or AFTER_FOUR nibble 0 ≡ after_four nibble
entry nibble small =
    let place : 0 + nibble ≡ nibble = omega arith in
    entry_from 0 nibble AFTER_FOUR table_holds small ∙ ap after_four place

-- ---- a nibble, and a byte
pub nibble_steps : (check nibble : ℕ) → nibble < 16
    → bit_xor (check / 16) (get_or AFTER_FOUR (bit_xor check nibble % 16) 0)
    ≡ fold check_step check (take 4 (bits_of nibble))
nibble_steps check nibble small =
    let mixed = bit_xor check nibble in
    let none : nibble / 2 ^ 4 ≡ 0 = omega arith in
    let high : mixed / 16 ≡ check / 16 =
    xor_shr check nibble 4 ∙ ap (bit_xor (check / 16)) none ∙ xor_zero_r (check / 16) in
    ap (bit_xor (check / 16)) (entry (mixed % 16) (omega arith))
    ∙ ap (λ (n : ℕ). bit_xor n (after_four (mixed % 16))) (sym high)
    ∙ sym (four_steps mixed) ∙ four_mixed check nibble
    ∙ ap (bit_xor (fold check_step check (take 4 (bits_of nibble)))) none
    ∙ xor_zero_r (fold check_step check (take 4 (bits_of nibble)))

-- the steps over a byte's low four bits and then over its high four are those over all eight
pub byte_steps : (check byte : ℕ)
    → fold check_step (fold check_step check (take 4 (bits_of (byte % 16))))
    (take 4 (bits_of (byte / 16)))
    ≡ fold check_step check (bits_of byte)
byte_steps check byte =
    let low = byte % 16 in
    let high = byte / 16 in
    ap (λ (c : ℕ). fold check_step c (take 4 (bits_of high)))
    (four_same check_step check (bit_at low 0) (bit_at low 1) (bit_at low 2) (bit_at low 3)
    (bit_at byte 0) (bit_at byte 1) (bit_at byte 2) (bit_at byte 3) (omega arith) (omega arith)
    (omega arith) (omega arith))
    ∙ four_same check_step (fold check_step check (take 4 (bits_of byte))) (bit_at high 0)
    (bit_at high 1) (bit_at high 2) (bit_at high 3) (bit_at byte 4) (bit_at byte 5) (bit_at byte 6)
    (bit_at byte 7) (omega arith) (omega arith) (omega arith) (omega arith)

-- ---- a check has sixteen bits
check_step-lt : (check bit : ℕ) → check < 2 ^ 16 → check_step check bit < 2 ^ 16
check_step-lt check bit small =
    elim (cases_eq (check % 2) bit) [
      | inl same ↦ rw (step_same check bit same) (omega arith)
      | inr other ↦ rw (step_other check bit other) (xor_lt 16 (check / 2) 0xA001 (omega arith) (lit< tt))
    ]

fold-lt : (check : ℕ) (bits : List ℕ) → check < 2 ^ 16 → fold check_step check bits < 2 ^ 16
fold-lt check [] small = small
fold-lt check (bit ∷ bits) small =
    fold-lt (check_step check bit) bits (check_step-lt check bit small)

-- the check of any bytes has sixteen bits
pub check_of-lt : (bytes : List ℕ) → check_of bytes < 2 ^ 16
unfolding check_of
check_of-lt bytes = fold-lt 0xFFFF (flat_map bits_of bytes) (lit< tt)
