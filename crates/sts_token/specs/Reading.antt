-- What a text reads as under a transform and a key: the fields of its token, or its first fault.
use Rattle.std.specs.Prelude.{◌≡◌, ◌≢◌, ℕ, ◌+◌, ◌*◌, ◌/◌, ◌%◌, ◌^◌, ◌<◌, ◌≤◌, ◌==◌, ◌&&◌, Bool, not}
use Rattle.std.specs.Prelude.{length, Result, Ok, Err, if◌then◌else◌, nat_le}
use Rattle.std.specs.Char.{is_ascii_digit}
use Rattle.std.specs.List.{list_all}
use Rattle.std.specs.Str.Parse.{digits_value}
use Rattle.sts_fields.specs.Amount.{amount_of_code}
use Rattle.sts_fields.specs.Text.{Text}
use Rattle.sts_token.specs.Block.{block_of, check_of_payload, number_of}
use Rattle.sts_token.specs.Fields.{AreFields, TokenFields}
use Rattle.sts_token.specs.Token.{AreTwentyDigits, IsToken, BlockFunction}
use Rattle.sts_token.specs.declared.fault.TokenFault.{TokenFault}
use Rattle.sts_token.specs.declared.fault.TokenFault.TheVariants.{NotTwentyDigits, TooLarge}
use Rattle.sts_token.specs.declared.fault.TokenFault.TheVariants.{WrongClass, BadCheck}
use Rattle.sts_token.specs.declared.fault.TokenFault.TheVariants.{WrongSubclass}

-- the number that the digits of a text make
abbrev pub number_in : Text → ℕ
number_in text = digits_value 10 text

-- the class in a token's number: its bits 28 and 27
abbrev pub class_of : ℕ → ℕ
class_of number = number / 2 ^ 27 % 4

-- the text is twenty digits, and their number has 66 bits and class 0
pub record IsOfClassZero (text : Text) : Type 0 where
  pub digits : AreTwentyDigits text
  pub within : number_in text < 2 ^ 66
  pub class_zero : class_of (number_in text) ≡ 0

-- the text has the number of a transformed block that is, inverted, the block of these fields in
-- this subclass
pub record Carries (inverse : BlockFunction) (key : ℕ) (text : Text) (subclass : ℕ)
    (f : TokenFields) :
    Type 0 where
  pub subclass_bits : subclass < 2 ^ 4
  pub fields : AreFields f
  pub transformed : ℕ
  pub block_bits : transformed < 2 ^ 64
  pub number : number_of transformed ≡ number_in text
  pub inverted : inverse key transformed ≡ block_of subclass f

-- the text reads so: as the fields whose token it is, or else with the first of the faults, in
-- their order
abbrev pub Reads : (forward inverse : BlockFunction) (key : ℕ) (text : Text)
    → Result TokenFields TokenFault → Type 0
Reads forward inverse key text (Ok f) = AreFields f × IsToken forward key f text
Reads forward inverse key text (Err NotTwentyDigits) = ¬ AreTwentyDigits text
Reads forward inverse key text (Err TooLarge) = AreTwentyDigits text × (2 ^ 66 ≤ number_in text)
Reads forward inverse key text (Err WrongClass) =
    AreTwentyDigits text × (number_in text < 2 ^ 66) × (class_of (number_in text) ≢ 0)
Reads forward inverse key text (Err BadCheck) =
    IsOfClassZero text × ((subclass : ℕ) (f : TokenFields) → ¬ Carries inverse key text subclass f)
Reads forward inverse key text (Err WrongSubclass) =
    IsOfClassZero text × (subclass : ℕ) × (f : TokenFields)
    × Carries inverse key text subclass f × (subclass ≢ 0)

-- ---- the one reading of a text, computed: `Reads` says what it is
abbrev pub is_twenty_digits : Text → Bool
is_twenty_digits text = length text == 20 && list_all is_ascii_digit text

-- the transformed block whose number this is
abbrev pub block_numbered : ℕ → ℕ
block_numbered number =
    number / 2 ^ 29 % 2 ^ 35 * 2 ^ 29 + number / 2 ^ 64 * 2 ^ 27 + number % 2 ^ 27

-- the fields in the bits of a block
abbrev pub fields_in : ℕ → TokenFields
fields_in block =
    record {
      rnd = block / 2 ^ 56 % 2 ^ 4;
      tid = block / 2 ^ 32 % 2 ^ 24;
      tenths = amount_of_code (block / 2 ^ 16 % 2 ^ 16);
    }

abbrev pub block_reading : ℕ → Result TokenFields TokenFault
block_reading block =
    if not (block % 2 ^ 16 == check_of_payload (block / 2 ^ 16)) then Err BadCheck
    else (if not (block / 2 ^ 60 == 0) then Err WrongSubclass
    else Ok (fields_in block))

unfoldable pub reading_of : (inverse : BlockFunction) (key : ℕ) (text : Text)
    → Result TokenFields TokenFault
reading_of inverse key text =
    if not (is_twenty_digits text) then Err NotTwentyDigits
    else (if nat_le (2 ^ 66) (number_in text) then Err TooLarge
    else (if not (class_of (number_in text) == 0) then Err WrongClass
    else block_reading (inverse key (block_numbered (number_in text)))))
