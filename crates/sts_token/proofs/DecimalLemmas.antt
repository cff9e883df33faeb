-- A number read from its digits, and a block taken from its number by shifts and masks.
use Rattle.std.proofs.Common.{◌≡◌, ℕ, ◌+◌, ◌*◌, ◌-◌, ◌/◌, ◌%◌, ◌<◌, ◌≤◌, ◌^◌, Bool, true, false, not, cond, eqb, leb, List, length, take, get_or, Option, Some, None, Result, Ok, Err, bit_and, bit_or, sym, ◌∙◌, ap, subst, arith, add-one}
use Rattle.std.specs.Char.{digit_value, is_ascii_digit}
use Rattle.std.specs.List.{AllPass}
use Rattle.std.specs.Option.{ok_or}
use Rattle.std.specs.Result.{MatchResult}
use Rattle.std.specs.Str.Parse.{digits_value}
use Rattle.std.proofs.lemmas.Bool.{lt-leb, eq-eqb}
use Rattle.std.proofs.lemmas.Bool.Decides.{nat_tests}
use Rattle.std.proofs.lemmas.Int.Digits.{digits_value_more}
use Rattle.std.proofs.lemmas.List.{take_more}
use Rattle.std.proofs.lemmas.List.Elements.{All-push}
use Rattle.std.proofs.lemmas.Nat.{and_mask, or_shifted}
use Rattle.std.proofs.Math.Nat.{pow-suc}
use Rattle.sts_token.specs.Fields.{TokenFields}
use Rattle.sts_token.specs.Reading.{block_numbered, block_reading, class_of, is_twenty_digits, number_in, reading_of}
use Rattle.sts_token.specs.Token.{AreTwentyDigits}
use Rattle.sts_token.specs.declared.fault.TokenFault.{TokenFault}
use Rattle.sts_token.specs.declared.fault.TokenFault.TheVariants.{NotTwentyDigits, TooLarge, WrongClass}
use Rattle.sts_token.proofs.ReadingLemmas.{test_from_digits}

-- ---- digits, one after another
pub decimal_digit : (c : ℕ) → is_ascii_digit c ≡ true
    → (48 ≤ c) × (c < 58) × (digit_value c ≡ c - 48)
decimal_digit c h = (grind (arith, nat_tests), grind (arith, nat_tests), grind (arith, nat_tests))

-- one digit more, and what was read so far is still all digits
pub more_digits : (text : List ℕ) (i : ℕ) → i < length text → AllPass is_ascii_digit (take i text)
    → is_ascii_digit (get_or text i 0) ≡ true → AllPass is_ascii_digit (take (i + 1) text)
more_digits text i within before here =
    subst (AllPass is_ascii_digit) (sym (take_more text i 0 within))
    (All-push (λ x. is_ascii_digit x ≡ true) (take i text) (get_or text i 0) before here)

-- one digit more, and the number read so far is ten times as great, and the digit
pub more_number : (text : List ℕ) (i number : ℕ) → i < length text → digits_value 10 (take i text)
    ≡ number → is_ascii_digit (get_or text i 0) ≡ true
    → digits_value 10 (take (i + 1) text) ≡ number * 10 + (get_or text i 0 - 48)
more_number text i number within before here =
    digits_value_more 10 text i within
    ∙ ap (λ (n : ℕ). n * 10 + digit_value (get_or text i 0)) before
    ∙ ap (λ (n : ℕ). number * 10 + n) (decimal_digit (get_or text i 0) here).2

-- a number with one digit more stays below the next power of ten
pub more_fits : (i number c : ℕ) → number < 10 ^ i → is_ascii_digit c ≡ true
    → number * 10 + (c - 48) < 10 ^ (i + 1)
more_fits i number c small here =
    let digit = decimal_digit c here in
    omega (arith, pow-suc 10 i, ap (λ (k : ℕ). 10 ^ k) (add-one i))

-- what the digits are, told by the test
abbrev pub decimal_of : List ℕ → Option ℕ
decimal_of text = cond (is_twenty_digits text) (Some (number_in text)) None

-- twenty digits pass the test, with the number that was read of them
pub decimal_all : (text : List ℕ) (number : ℕ) → AreTwentyDigits text → number_in text ≡ number
    → Some number ≡ decimal_of text
decimal_all text number are same =
    ap (λ (n : ℕ). Some n) (sym same)
    ∙ sym (ap (λ (b : Bool). cond b (Some (number_in text)) None) (test_from_digits text are))

-- ---- shifts and masks
pub masked_number : (number : ℕ) → number < 2 ^ 66
    → bit_or (bit_or (bit_and (number / 2 ^ 29) 34359738367 * 2 ^ 29 % 2 ^ 128)
    (number / 2 ^ 64 * 2 ^ 27 % 2 ^ 128)) (bit_and number 134217727)
    ≡ block_numbered number
masked_number number small =
    let high = and_mask (number / 2 ^ 29) 35 in
    let low = and_mask number 27 in
    let high_fits : bit_and (number / 2 ^ 29) 34359738367 * 2 ^ 29 % 2 ^ 128 ≡ number / 2 ^ 29 % 2 ^ 35 * 4 * 2 ^ 27 = omega (arith, high) in
    let moved_fits : number / 2 ^ 64 * 2 ^ 27 % 2 ^ 128 ≡ number / 2 ^ 64 * 2 ^ 27 = omega arith in
    let joined : bit_or (number / 2 ^ 29 % 2 ^ 35 * 2 ^ 29) (number / 2 ^ 64 * 2 ^ 27)
    ≡ number / 2 ^ 29 % 2 ^ 35 * 2 ^ 29 + number / 2 ^ 64 * 2 ^ 27 =
    or_shifted (number / 2 ^ 29 % 2 ^ 35) 29 (number / 2 ^ 64 * 2 ^ 27) (omega arith) in
    let as_one : number / 2 ^ 29 % 2 ^ 35 * 2 ^ 29 + number / 2 ^ 64 * 2 ^ 27 ≡ (number / 2 ^ 29 % 2 ^ 35 * 4 + number / 2 ^ 64) * 2 ^ 27 = omega arith in
    let whole = or_shifted (number / 2 ^ 29 % 2 ^ 35 * 4 + number / 2 ^ 64) 27 (number % 2 ^ 27) (omega arith) in
    ap (λ (n : ℕ). bit_or (bit_or n (number / 2 ^ 64 * 2 ^ 27 % 2 ^ 128))
    (bit_and number 134217727)) high_fits
    ∙ ap (λ (n : ℕ). bit_or (bit_or (number / 2 ^ 29 % 2 ^ 35 * 4 * 2 ^ 27) n)
    (bit_and number 134217727)) moved_fits
    ∙ ap (λ (n : ℕ). bit_or (bit_or n (number / 2 ^ 64 * 2 ^ 27)) (bit_and number 134217727))
    (omega arith)
    ∙ ap (λ (n : ℕ). bit_or n (bit_and number 134217727)) (joined ∙ as_one)
    ∙ ap (bit_or ((number / 2 ^ 29 % 2 ^ 35 * 4 + number / 2 ^ 64) * 2 ^ 27)) low
    ∙ whole ∙ omega arith

-- the tests on a number, passed
pub numbered_block : (number : ℕ) → number < 2 ^ 66 → class_of number ≡ 0
    → Ok (block_numbered number)
    ≡ cond (leb (2 ^ 66) number) (Err TooLarge)
    (cond (not (eqb (class_of number) 0)) (Err WrongClass) (Ok (block_numbered number)))
numbered_block number small class_zero =
    sym (ap (λ (l : Bool). cond l (Err TooLarge)
    (cond (not (eqb (class_of number) 0)) (Err WrongClass) (Ok (block_numbered number))))
    (lt-leb (2 ^ 66) number small)
    ∙ ap (λ (z : Bool). cond (not z) (Err WrongClass) (Ok (block_numbered number)))
    (eq-eqb (class_of number) 0 class_zero))

-- ---- the three readings, one after another
-- the tests on a number
abbrev pub number_tested : ℕ → Result ℕ TokenFault
number_tested number = cond (leb (2 ^ 66) number) (Err TooLarge)
    (cond (not (eqb (class_of number) 0)) (Err WrongClass) (Ok (block_numbered number)))

after_digits : (inverse : ℕ → ℕ → ℕ) (key : ℕ) (text : List ℕ) (large class_zero : Bool)
    (b : Result ℕ TokenFault) (r : Result TokenFields TokenFault)
    → b ≡ cond large (Err TooLarge)
    (cond (not class_zero) (Err WrongClass) (Ok (block_numbered (number_in text))))
    → MatchResult b (λ n. r ≡ block_reading (inverse key n)) (λ e. r ≡ Err e)
    → r ≡ cond large (Err TooLarge)
    (cond (not class_zero) (Err WrongClass)
    (block_reading (inverse key (block_numbered (number_in text)))))
after_digits inverse key text true class_zero b r e m =
    subst (λ (x : Result ℕ TokenFault). MatchResult x (λ n. r ≡ block_reading (inverse key n))
    (λ e. r ≡ Err e)) e m
after_digits inverse key text false false b r e m =
    subst (λ (x : Result ℕ TokenFault). MatchResult x (λ n. r ≡ block_reading (inverse key n))
    (λ e. r ≡ Err e)) e m
after_digits inverse key text false true b r e m =
    subst (λ (x : Result ℕ TokenFault). MatchResult x (λ n. r ≡ block_reading (inverse key n))
    (λ e. r ≡ Err e)) e m

-- what the calls after the digits gave
record Chain (inverse : ℕ → ℕ → ℕ) (key : ℕ) (text : List ℕ) (a b : Result ℕ TokenFault)
    (r : Result TokenFields TokenFault) : Type 0 where
  tested : MatchResult a (λ n. b ≡ number_tested n) (λ e. b ≡ Err e)
  inverted : MatchResult b (λ n. r ≡ block_reading (inverse key n)) (λ e. r ≡ Err e)

chain_at : (inverse : ℕ → ℕ → ℕ) (key : ℕ) (text : List ℕ) (digits : Bool) (b : Result ℕ TokenFault)
    (r : Result TokenFields TokenFault)
    → Chain inverse key text (cond digits (Ok (number_in text)) (Err NotTwentyDigits)) b r
    → r ≡ cond (not digits) (Err NotTwentyDigits)
    (cond (leb (2 ^ 66) (number_in text)) (Err TooLarge)
    (cond (not (eqb (class_of (number_in text)) 0)) (Err WrongClass)
    (block_reading (inverse key (block_numbered (number_in text))))))
chain_at inverse key text false b r chain =
    subst (λ (x : Result ℕ TokenFault). MatchResult x (λ n. r ≡ block_reading (inverse key n))
    (λ e. r ≡ Err e)) chain.tested chain.inverted
chain_at inverse key text true b r chain =
    after_digits inverse key text (leb (2 ^ 66) (number_in text))
    (eqb (class_of (number_in text)) 0) b r chain.tested chain.inverted

given_number : (text : List ℕ) (digits : Bool) (o : Option ℕ) → o
    ≡ cond digits (Some (number_in text)) None
    → ok_or o NotTwentyDigits ≡ cond digits (Ok (number_in text)) (Err NotTwentyDigits)
given_number text true o e = ap (λ (x : Option ℕ). ok_or x NotTwentyDigits) e
given_number text false o e = ap (λ (x : Option ℕ). ok_or x NotTwentyDigits) e

-- digits, number and block, each read where the one before succeeded, are the one reading
pub read_chain : (inverse : ℕ → ℕ → ℕ) (key : ℕ) (text : List ℕ) (o : Option ℕ)
    (a b : Result ℕ TokenFault) (r : Result TokenFields TokenFault)
    → o ≡ decimal_of text → a ≡ ok_or o NotTwentyDigits
    → MatchResult a (λ n. b ≡ number_tested n) (λ e. b ≡ Err e)
    → MatchResult b (λ n. r ≡ block_reading (inverse key n)) (λ e. r ≡ Err e)
    → r ≡ reading_of inverse key text
unfolding reading_of
read_chain inverse key text o a b r d e tested inverted =
    let at = e ∙ given_number text (is_twenty_digits text) o d in
    chain_at inverse key text (is_twenty_digits text) b r
    (record { tested = subst (λ (x : Result ℕ TokenFault). MatchResult x (λ n. b ≡ number_tested n) (λ e. b ≡ Err e)) at tested; inverted = inverted })
