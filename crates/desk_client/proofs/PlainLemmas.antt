-- Numbers and names have no stop in them.
use Rattle.std.proofs.Common.{◌≡◌, ℕ, ◌^◌, ◌<◌, ◌≤◌, Bool, true, false, List, [], ◌∷◌, ◌++◌, get_or, arith}
use Rattle.std.specs.Prelude.{decimal}
use Rattle.std.specs.Char.{is_ascii_alphanumeric, is_ascii_digit}
use Rattle.std.specs.List.{AllPass}
use Rattle.std.proofs.lemmas.Bool.Decides.{nat_tests}
use Rattle.std.proofs.lemmas.Fmt.{decimal_is_IsNumeral}
use Rattle.std.proofs.lemmas.List.Elements.{All-from_get_or, recursion_from_All}
use Rattle.std.proofs.lemmas.Str.Parse.{digit_at}
use Rattle.office_rules.specs.Name.{is_name_byte}
use Rattle.desk_client.specs.Text.{LacksStop, is_stop}

-- a digit is no stop
pub digit : (b : ℕ) → 48 ≤ b → b ≤ 57 → is_stop b ≡ false
digit b low high = grind (arith, nat_tests)

digit_passes : (b : ℕ) → is_ascii_digit b ≡ true → is_stop b ≡ false
digit_passes b e = grind (arith, nat_tests)

letter_passes : (b : ℕ) → is_ascii_alphanumeric b ≡ true → is_stop b ≡ false
letter_passes b e = grind (arith, nat_tests)

name_passes : (b : ℕ) → is_name_byte b ≡ true → is_stop b ≡ false
name_passes b e = grind (arith, nat_tests)

-- the decimal digits of a number have no stop among them
pub plain_number : (n : ℕ) → n < 2 ^ 64 → LacksStop (decimal n)
plain_number n small =
    recursion_from_All (λ byte. is_stop byte ≡ false) (decimal n) (All-from_get_or (λ byte. is_stop byte ≡ false) (decimal n) 0 (λ i inside.
    let is = digit_at (decimal n) i (decimal_is_IsNumeral n small).0.1 inside in
    digit (get_or (decimal n) i 0) is.0 is.1))

-- what passes a test that no stop passes
passing : (test : ℕ → Bool) → ((b : ℕ) → test b ≡ true → is_stop b ≡ false) → (text : List ℕ) → AllPass test text → LacksStop text
passing test each text passes =
    recursion_from_All (λ byte. is_stop byte ≡ false) text (λ i d inside. each _ (passes i d inside))

-- a text of digits has no stop in it, as a meter's number has none
pub plain_digits : (text : List ℕ) → AllPass is_ascii_digit text → LacksStop text
plain_digits = passing is_ascii_digit digit_passes

-- a text of letters and digits has no stop in it, as an operator has none
pub plain_letters : (text : List ℕ) → AllPass is_ascii_alphanumeric text → LacksStop text
plain_letters = passing is_ascii_alphanumeric letter_passes

-- a text of the bytes of names has no stop in it
pub plain_name : (text : List ℕ) → AllPass is_name_byte text → LacksStop text
plain_name = passing is_name_byte name_passes

-- two texts without one make a text without one
pub plain_append : (a b : List ℕ) → LacksStop a → LacksStop b → LacksStop (a ++ b)
plain_append [] b la lb = lb
plain_append (c ∷ a) b la lb = (la.0, plain_append a b la.1 lb)
