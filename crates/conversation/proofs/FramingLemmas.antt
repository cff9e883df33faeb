-- The length that digits write.
use Rattle.std.proofs.Common.{◌≡◌, ℕ, ◌+◌, ◌-◌, ◌*◌, ◌<◌, Bool, true, false, ◌&&◌, List, length, get_or, take, Err, sym, ◌∙◌, arith}
use Rattle.std.specs.Char.{is_ascii_digit, digit_value}
use Rattle.std.specs.Str.Parse.{digits_value}
use Rattle.std.proofs.lemmas.Bool.{lt-leb, cond-true, cond-false}
use Rattle.std.proofs.lemmas.Bool.Decides.{nat_tests}
use Rattle.std.proofs.lemmas.Int.Digits.{digits_value_more}
use Rattle.std.proofs.lemmas.List.Sums.{AllPass-from_list_all}
use Rattle.std.proofs.lemmas.Str.Parse.{digits_value-take-le}
use Rattle.conversation.specs.declared.message.message_fault.MessageFault.TheVariants.{Body}
use Rattle.conversation.specs.message.Framing.{is_number, length_of, longest_body}

digit : (c : ℕ) → is_ascii_digit c ≡ true → digit_value c ≡ c - 48
digit c e = grind (arith, nat_tests)

both : (a b : Bool) → (a && b) ≡ true → b ≡ true
both true b e = e
both false b e = absurd (cc)

-- each byte of a number is a digit
digit_at : (value : List ℕ) (i : ℕ) → is_number value ≡ true → i < length value
    → digit_value (get_or value i 0) ≡ get_or value i 0 - 48
digit_at value i e h =
    digit (get_or value i 0) (AllPass-from_list_all is_ascii_digit value (both _ _ e) i 0 h)

-- the number of one digit more
pub number_more : (value : List ℕ) (i n : ℕ) → is_number value ≡ true → i < length value
    → n ≡ digits_value 10 (take i value)
    → n * 10 + (get_or value i 0 - 48) ≡ digits_value 10 (take (i + 1) value)
number_more value i n e h is = omega (arith, digits_value_more 10 value i h, digit_at value i e h)

-- digits that are too much already are so with those that follow
pub too_long : (value : List ℕ) (i n : ℕ) → is_number value ≡ true → n ≡ digits_value 10 (take i value)
    → longest_body < n → Err Body ≡ length_of value
too_long value i n e is h =
    let more : longest_body < digits_value 10 value = omega (arith, digits_value-take-le 10 value i (omega arith)) in
    sym (cond-true _ _ _ e ∙ cond-false _ _ _ (lt-leb (digits_value 10 value) longest_body more))
