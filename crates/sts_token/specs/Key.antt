-- A key's text: sixteen lower-case hexadecimal digits.
use Rattle.std.specs.Prelude.{◌≡◌, ℕ, ◌||◌, Bool, length}
use Rattle.std.specs.Int.{is_in_range}
use Rattle.std.specs.List.{AllPass}
use Rattle.std.specs.Str.Parse.{digits_value}
use Rattle.sts_fields.specs.Text.{Text}

-- '0' to '9' or 'a' to 'f'
abbrev pub is_lower_hexdigit : ℕ → Bool
is_lower_hexdigit c = is_in_range 48 57 c || is_in_range 97 102 c

-- a text of sixteen of them
pub record AreKeyDigits (text : Text) : Type 0 where
  pub sixteen : length text ≡ 16
  pub digits : AllPass is_lower_hexdigit text

-- the text is the key's
pub record IsKeyText (key : ℕ) (text : Text) : Type 0 where
  pub digits : AreKeyDigits text
  pub number : digits_value 16 text ≡ key
