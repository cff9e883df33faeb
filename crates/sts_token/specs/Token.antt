-- A credit token: twenty digits, and the fields that they carry under a transform and a key.
use Rattle.std.specs.Prelude.{◌≡◌, ℕ, ◌<◌, ◌^◌, length}
use Rattle.std.specs.List.{AllPass}
use Rattle.std.specs.Char.{is_ascii_digit}
use Rattle.std.specs.Str.Parse.{digits_value}
use Rattle.sts_fields.specs.Text.{Text}
use Rattle.sts_token.specs.Block.{block_of, number_of}
use Rattle.sts_token.specs.Digits.{digits_text}
use Rattle.sts_token.specs.Fields.{TokenFields}

-- a way of a block transform: the block that it gives for a key and a block
abbrev pub BlockFunction : Type 0
BlockFunction = ℕ → ℕ → ℕ

-- a text of twenty decimal digits
pub record AreTwentyDigits (text : Text) : Type 0 where
  pub twenty : length text ≡ 20
  pub digits : AllPass is_ascii_digit text

-- the text is the token of the fields: its number is that of their block, transformed with the key
pub record IsToken (forward : BlockFunction) (key : ℕ) (f : TokenFields)
    (text : Text) : Type 0 where
  pub digits : AreTwentyDigits text
  pub number : digits_value 10 text ≡ number_of (forward key (block_of 0 f))

-- the one token of the fields: `IsToken` says what it is
unfoldable pub token_of : BlockFunction → ℕ → TokenFields → Text
token_of forward key f = digits_text 10 20 (number_of (forward key (block_of 0 f)))

-- the way gives a block of 64 bits for each key and block of 64 bits
abbrev pub KeepsRange : BlockFunction → Type 0
KeepsRange forward = (key block : ℕ) → key < 2 ^ 64 → block < 2 ^ 64 → forward key block < 2 ^ 64
