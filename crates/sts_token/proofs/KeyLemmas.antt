-- Keys and their texts correspond one to one.
use Rattle.std.specs.Char.{digit_value}
use Rattle.std.specs.List.{AllPass}
use Rattle.std.proofs.Math.Nat.{pow-le-pow_right, pow-suc}
use Rattle.std.proofs.lemmas.List.{take_more}
use Rattle.std.proofs.Common.{lit<, ◌≤◌, ◌≡◌, ℕ, ◌+◌, ◌*◌, take, get_or, add-one, ap, ◌<◌, ◌^◌, List, length, true, sym, ◌∙◌, subst, arith}
use Rattle.std.specs.Str.Parse.{digits_value}
use Rattle.std.proofs.lemmas.List.Elements.{All-push, recursion_from_All}
use Rattle.std.proofs.lemmas.Int.Digits.{digits_value-lt, digits_value_more}
use Rattle.sts_token.specs.Digits.{digits_text}
use Rattle.sts_token.specs.Key.{IsKeyText, is_lower_hexdigit}
use Rattle.sts_token.proofs.DigitsLemmas.{all_digits, digits_value-digits_text, hexadecimal_below, hexadecimal_passes, hexadecimal_told, length-digits_text, same_text}

-- the sixteen hexadecimal digits written of a key are its text
pub written_key : (key : ℕ) → key < 2 ^ 64 → IsKeyText key (digits_text 16 16 key)
written_key key small =
    record {
      digits =
          record { sixteen = length-digits_text 16 16 key; digits = hexadecimal_passes 16 key };
      number = digits_value-digits_text 16 16 key (omega arith) (omega arith) small;
    }

-- a key has one text
pub one_key_text : (key : ℕ) (a b : List ℕ) → IsKeyText key a → IsKeyText key b → a ≡ b
one_key_text key a b p q =
    same_text 16 is_lower_hexdigit hexadecimal_below hexadecimal_told a b
    (recursion_from_All (λ c. is_lower_hexdigit c ≡ true) a p.digits.digits)
    (recursion_from_All (λ c. is_lower_hexdigit c ≡ true) b q.digits.digits)
    (p.digits.sixteen ∙ sym q.digits.sixteen) (p.number ∙ sym q.number)

-- a key that has a text has 64 bits
pub key_within : (key : ℕ) (text : List ℕ) → IsKeyText key text → key < 2 ^ 64
key_within key text p =
    let digits = all_digits 16 is_lower_hexdigit hexadecimal_below text (recursion_from_All (λ c. is_lower_hexdigit c ≡ true) text p.digits.digits) in
    let bound = digits_value-lt 16 text digits in
    let sixteen = subst (λ (n : ℕ). digits_value 16 text < 16 ^ n) p.digits.sixteen bound in
    subst (λ (n : ℕ). n < 2 ^ 64) p.number sixteen

-- ---- the loop that reads a key: a turn takes one digit more
pub key_room : (i key : ℕ) → i < 16 → key < 16 ^ i → key < 2 ^ 60
key_room i key within small =
    let low : i ≤ 15 = omega arith in
    let power : 16 ^ i ≤ 16 ^ 15 = pow-le-pow_right (lit< tt) low in
    omega arith

-- one digit more, and what was read so far is still all hexadecimal digits
pub turn_digits : (text : List ℕ) (i : ℕ) → i < length text
    → AllPass is_lower_hexdigit (take i text) → is_lower_hexdigit (get_or text i 0) ≡ true
    → AllPass is_lower_hexdigit (take (i + 1) text)
turn_digits text i within before here =
    subst (AllPass is_lower_hexdigit) (sym (take_more text i 0 within))
    (All-push (λ x. is_lower_hexdigit x ≡ true) (take i text) (get_or text i 0) before here)

-- one digit more, and the key read so far is sixteen times as great, and the digit
pub turn_number : (text : List ℕ) (i key value : ℕ) → i < length text
    → digits_value 16 (take i text) ≡ key → digit_value (get_or text i 0) ≡ value
    → digits_value 16 (take (i + 1) text) ≡ key * 16 + value
turn_number text i key value within before here =
    digits_value_more 16 text i within
    ∙ ap (λ (n : ℕ). n * 16 + digit_value (get_or text i 0)) before
    ∙ ap (λ (n : ℕ). key * 16 + n) here

-- a key with one digit more stays below the next power of sixteen
pub turn_fits : (i key value : ℕ) → key < 16 ^ i → value < 16 → key * 16 + value < 16 ^ (i + 1)
turn_fits i key value small digit = omega (arith, pow-suc 16 i, ap (λ (k : ℕ). 16 ^ k) (add-one i))
