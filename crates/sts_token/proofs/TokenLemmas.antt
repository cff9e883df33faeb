-- Fields have one token.
use Rattle.std.proofs.Common.{◌≡◌, ℕ, ◌<◌, ◌^◌, List, true, sym, ◌∙◌, arith}
use Rattle.std.specs.Int.{bytes_high_first}
use Rattle.std.proofs.lemmas.List.Elements.{recursion_from_All}
use Rattle.std.specs.Char.{is_ascii_digit}
use Rattle.sts_fields.specs.Amount.{code_of}
use Rattle.sts_token.specs.Block.{block_of, number_of, payload_of}
use Rattle.sts_token.proofs.CheckLemmas.{check_of-lt}
use Rattle.sts_token.specs.Digits.{digits_text}
use Rattle.sts_token.specs.Fields.{TokenFields}
use Rattle.sts_token.specs.Token.{IsToken}
use Rattle.sts_token.proofs.DigitsLemmas.{decimal_below, decimal_passes, decimal_told, digits_value-digits_text, length-digits_text, same_text}

-- a block has 64 bits
pub block_of-lt : (subclass : ℕ) (f : TokenFields) → subclass < 2 ^ 4 → f.rnd < 2 ^ 4
    → f.tid < 2 ^ 24 → code_of f.tenths < 2 ^ 16 → block_of subclass f < 2 ^ 64
block_of-lt subclass f s rnd tid code =
    omega (arith, check_of-lt (bytes_high_first 7 (payload_of subclass f)))

-- the number of a block has 66 bits
pub number_of-lt : (block : ℕ) → block < 2 ^ 64 → number_of block < 2 ^ 66
number_of-lt block small = omega arith

-- the fields' token is the number of their block in twenty digits, where these hold it
pub written_token : (forward : ℕ → ℕ → ℕ) (key : ℕ) (f : TokenFields)
    → number_of (forward key (block_of 0 f)) < 10 ^ 20
    → IsToken forward key f (digits_text 10 20 (number_of (forward key (block_of 0 f))))
written_token forward key f small =
    let n = number_of (forward key (block_of 0 f)) in
    record {
      digits = record { twenty = length-digits_text 10 20 n; digits = decimal_passes 20 n };
      number = digits_value-digits_text 10 20 n (omega arith) (omega arith) small;
    }

-- fields have one token under a key
pub one_token : (forward : ℕ → ℕ → ℕ) (key : ℕ) (f : TokenFields) (a b : List ℕ)
    → IsToken forward key f a → IsToken forward key f b → a ≡ b
one_token forward key f a b p q =
    same_text 10 is_ascii_digit decimal_below decimal_told a b
    (recursion_from_All (λ c. is_ascii_digit c ≡ true) a p.digits.digits)
    (recursion_from_All (λ c. is_ascii_digit c ≡ true) b q.digits.digits)
    (p.digits.twenty ∙ sym q.digits.twenty) (p.number ∙ sym q.number)
