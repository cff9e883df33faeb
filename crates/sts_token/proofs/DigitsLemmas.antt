-- Numbers written with a fixed count of digits, and what the digits are worth.
use Rattle.std.proofs.Common.{◌≡◌, ℕ, zero, suc, ◌+◌, ◌-◌, ◌*◌, ◌/◌, ◌%◌, ◌^◌, ◌<◌, ◌≤◌, List, [], ◌∷◌, ◌++◌, length, drop, set, Bool, true, refl, sym, ◌∙◌, ap, subst, arith, add-one}
use Rattle.std.specs.Char.{digit_char, digit_value, is_ascii_digit}
use Rattle.std.specs.Str.Parse.{AllDigits, digits_value, digits_value_after}
use Rattle.std.proofs.lemmas.List.{append_assoc, drop-set, drop_all, append-nil, length_push}
use Rattle.std.proofs.lemmas.Int.Digits.{digits_value-lt, digits_value_push}
use Rattle.std.specs.List.{AllByRecursion, AllPass}
use Rattle.std.proofs.lemmas.List.Elements.{All-push}
use Rattle.std.proofs.Math.Nat.{pow-suc, pow-zero}
use Rattle.std.proofs.lemmas.Nat.{div-add-mod', div_below, mod_below, same_from_place}
use Rattle.std.proofs.lemmas.Bool.Decides.{nat_tests}
use Rattle.sts_token.specs.Digits.{digits_text}
use Rattle.sts_token.specs.Key.{is_lower_hexdigit}

-- the digits that are still to come stand before those that are written, from the end back
pub written_digits : ℕ → ℕ → List ℕ → ℕ → List ℕ
written_digits base rest text count = digits_text base count rest ++ drop count text

-- with all digits still to come, the text will be the number's, whatever stands in it
pub written_none : (base number count : ℕ) (text : List ℕ) → length text ≡ count
    → written_digits base number text count ≡ digits_text base count number
unfolding written_digits
written_none base number count text all =
    ap (λ (xs : List ℕ). digits_text base count number ++ xs) (drop_all count text (omega arith))
    ∙ append-nil _

-- the last digit that is to come is written at its place, and one less is to come
pub written_more : (base rest place : ℕ) (text : List ℕ) → place < length text
    → written_digits base rest text (suc place)
    ≡ written_digits base (rest / base) (set text place (digit_char (rest % base))) place
unfolding written_digits digits_text
written_more base rest place text within =
    append_assoc (digits_text base place (rest / base)) (digit_char (rest % base) ∷ [])
    (drop (suc place) text)
    ∙ ap (λ (xs : List ℕ). digits_text base place (rest / base) ++ xs)
    (sym (drop-set text place (digit_char (rest % base)) within
    ∙ ap (λ (k : ℕ). digit_char (rest % base) ∷ drop k text) (add-one place)))

-- with no digit still to come, the text stays as it is
pub written_all : (base rest : ℕ) (text : List ℕ) → written_digits base rest text 0 ≡ text
unfolding written_digits digits_text
written_all base rest text = refl

-- as many digits are written as were asked for
pub length-digits_text : (base count n : ℕ) → length (digits_text base count n) ≡ count
unfolding digits_text
length-digits_text base zero n = refl
length-digits_text base (suc count) n =
    omega (
      arith,
      length_push (digits_text base count (n / base)) (digit_char (n % base)),
      length-digits_text base count (n / base),
    )

-- a turn of the loop that writes n digits: one more is written, and the rest is a digit shorter
pub written_turn : (base rest w n : ℕ) (text : List ℕ) → w < n → length text ≡ n
    → written_digits base rest text (n - w)
    ≡ written_digits base (rest / base) (set text (n - 1 - w) (digit_char (rest % base)))
    (n - (w + 1))
written_turn base rest w n text within all =
    let place = n - (w + 1) in
    let now : n - w ≡ suc place = omega arith in
    let at : place ≡ n - 1 - w = omega arith in
    ap (written_digits base rest text) now
    ∙ written_more base rest place text (omega arith)
    ∙ ap (λ (k : ℕ). written_digits base (rest / base)
    (set text k (digit_char (rest % base))) place) at

-- ---- what the digits are worth
digit_value-char : (d : ℕ) → d < 16 → digit_value (digit_char d) ≡ d
digit_value-char d h = grind (arith, nat_tests)

-- a number is read back from its digits, where so many digits hold it
pub digits_value-digits_text : (base count n : ℕ) → 2 ≤ base → base ≤ 16 → n < base ^ count
    → digits_value base (digits_text base count n) ≡ n
unfolding digits_text
digits_value-digits_text base zero n two most small = omega (arith, pow-zero base)
digits_value-digits_text base (suc count) n two most small =
    let shorter : n / base < base ^ count =
    div_below n base (base ^ count) (omega arith) (rw (← pow-suc base count) small) in
    let rest = digits_value-digits_text base count (n / base) two most shorter in
    let last = digit_value-char (n % base) (omega (arith, mod_below n base (omega arith))) in
    digits_value_push base (digits_text base count (n / base)) (digit_char (n % base))
    ∙ ap (λ (v : ℕ). v * base + digit_value (digit_char (n % base))) rest
    ∙ ap (λ (v : ℕ). n / base * base + v) last
    ∙ div-add-mod' n base

-- the value after n and some more digits
value_after : (base n : ℕ) (ds : List ℕ) → digits_value_after base n ds
    ≡ n * base ^ length ds + digits_value base ds
value_after base n [] = omega (arith, ap (λ (p : ℕ). n * p) (pow-zero base))
value_after base n (d ∷ ds) =
    let here = value_after base (n * base + digit_value d) ds in
    let alone = value_after base (0 * base + digit_value d) ds in
    let power = ap (λ (p : ℕ). n * p) (pow-suc base (length ds)) in
    grind arith

-- a first digit counts for the power of its place
value_cons : (base c : ℕ) (ds : List ℕ) → digits_value base (c ∷ ds)
    ≡ digit_value c * base ^ length ds + digits_value base ds
value_cons base c ds =
    value_after base (0 * base + digit_value c) ds
    ∙ ap (λ (n : ℕ). n * base ^ length ds + digits_value base ds) (omega arith)

-- bytes that pass a test for digits of the base are digits of the base
pub all_digits : (base : ℕ) (is_digit : ℕ → Bool)
    → ((c : ℕ) → is_digit c ≡ true → digit_value c < base)
    → (ds : List ℕ) → AllByRecursion (λ c. is_digit c ≡ true) ds → AllDigits base ds
all_digits base is_digit below [] p = tt
all_digits base is_digit below (c ∷ ds) p = (below c p.0, all_digits base is_digit below ds p.1)

-- texts of one length and one value are the same, where each digit is told by its value
pub same_text : (base : ℕ) (is_digit : ℕ → Bool)
    → ((c : ℕ) → is_digit c ≡ true → digit_value c < base)
    → ((c d : ℕ) → is_digit c ≡ true → is_digit d ≡ true → digit_value c ≡ digit_value d → c ≡ d)
    → (a b : List ℕ) → AllByRecursion (λ c. is_digit c ≡ true) a
    → AllByRecursion (λ c. is_digit c ≡ true) b
    → length a ≡ length b → digits_value base a ≡ digits_value base b → a ≡ b
same_text base is_digit below told [] [] p q l v = refl
same_text base is_digit below told [] (d ∷ b) p q l v = absurd (omega arith)
same_text base is_digit below told (c ∷ a) [] p q l v = absurd (omega arith)
same_text base is_digit below told (c ∷ a) (d ∷ b) p q l v =
    let same_length : length a ≡ length b = omega arith in
    let low = digits_value-lt base a (all_digits base is_digit below a p.1) in
    let other_low = subst (λ (k : ℕ). digits_value base b < base ^ k) (sym same_length) (digits_value-lt base b (all_digits base is_digit below b q.1)) in
    let worth =
    sym (value_cons base c a) ∙ v ∙ value_cons base d b
    ∙ ap (λ (k : ℕ). digit_value d * base ^ k + digits_value base b) (sym same_length) in
    let places = same_from_place (digit_value c) (digits_value base a) (digit_value d) (digits_value base b) (base ^ length a) low other_low worth in
    let first : c ≡ d = told c d p.0 q.0 places.0 in
    let rest : a ≡ b = same_text base is_digit below told a b p.1 q.1 same_length places.1 in
    ap (λ (x : ℕ). x ∷ a) first ∙ ap (λ (xs : List ℕ). d ∷ xs) rest

-- ---- decimal and hexadecimal digits
pub decimal_below : (c : ℕ) → is_ascii_digit c ≡ true → digit_value c < 10
decimal_below c h = grind (arith, nat_tests)

-- decimal digits of one value are the same
pub decimal_told : (c d : ℕ) → is_ascii_digit c ≡ true → is_ascii_digit d ≡ true → digit_value c
    ≡ digit_value d → c ≡ d
decimal_told c d h k e = grind (arith, nat_tests)

decimal_char : (v : ℕ) → v < 10 → is_ascii_digit (digit_char v) ≡ true
decimal_char v h = grind (arith, nat_tests)

-- a hexadecimal digit is worth less than sixteen
pub hexadecimal_below : (c : ℕ) → is_lower_hexdigit c ≡ true → digit_value c < 16
hexadecimal_below c h = grind (arith, nat_tests)

-- lower-case hexadecimal digits of one value are the same
pub hexadecimal_told : (c d : ℕ) → is_lower_hexdigit c ≡ true → is_lower_hexdigit d ≡ true
    → digit_value c ≡ digit_value d → c ≡ d
hexadecimal_told c d h k e = grind (arith, nat_tests)

hexadecimal_char : (v : ℕ) → v < 16 → is_lower_hexdigit (digit_char v) ≡ true
hexadecimal_char v h = grind (arith, nat_tests)

-- each place of a written number passes the test that its digits pass
passes : (base : ℕ) (is_digit : ℕ → Bool) → 0 < base
    → ((v : ℕ) → v < base → is_digit (digit_char v) ≡ true)
    → (count n : ℕ) → AllPass is_digit (digits_text base count n)
unfolding digits_text
passes base is_digit some char zero n = λ k d h. absurd (omega arith)
passes base is_digit some char (suc count) n =
    All-push (λ x. is_digit x ≡ true) (digits_text base count (n / base)) (digit_char (n % base))
    (passes base is_digit some char count (n / base)) (char (n % base) (mod_below n base some))

-- a number written in decimal consists of decimal digits
pub decimal_passes : (count n : ℕ) → AllPass is_ascii_digit (digits_text 10 count n)
decimal_passes = passes 10 is_ascii_digit (omega arith) decimal_char

-- a number written in hexadecimal consists of lower-case hexadecimal digits
pub hexadecimal_passes : (count n : ℕ) → AllPass is_lower_hexdigit (digits_text 16 count n)
hexadecimal_passes = passes 16 is_lower_hexdigit (omega arith) hexadecimal_char
