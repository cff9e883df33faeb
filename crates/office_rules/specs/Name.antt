-- The names that requests carry: which texts they are.
pub mod ShortText
use Rattle.std.specs.Prelude.{◌≡◌, ℕ, ◌+◌, ◌-◌, ◌*◌, ◌%◌, ◌≤◌, ◌||◌, ◌==◌, Bool, [], ◌∷◌, length}
use Rattle.std.specs.Prelude.{reverse, nat_lt, if◌then◌else◌}
use Rattle.std.specs.List.{AllPass}
use Rattle.std.specs.Char.{is_ascii_alphanumeric, is_ascii_digit, digit_value}
use Rattle.sts_fields.specs.Text.{Text, hyphen}

-- a letter, a digit or a hyphen
abbrev pub is_name_byte : ℕ → Bool
is_name_byte b = is_ascii_alphanumeric b || b == hyphen

-- an operator: 1 to 16 ASCII letters or digits
pub record IsOperator (text : Text) : Type 0 where
  pub some : 1 ≤ length text
  pub short : length text ≤ 16
  pub bytes : AllPass is_ascii_alphanumeric text

-- a ref, or a tariff's name: 1 to 32 ASCII letters, digits or hyphens
pub record IsName (text : Text) : Type 0 where
  pub some : 1 ≤ length text
  pub short : length text ≤ 32
  pub bytes : AllPass is_name_byte text

-- a digit that is doubled, less nine where that makes more than nine
abbrev pub doubled : ℕ → ℕ
doubled d = if nat_lt 9 (2 * d) then 2 * d - 9 else 2 * d

-- the sum of digits of which, from the first on, every second one is doubled
abbrev pub luhn_sum : Text → ℕ
luhn_sum [] = 0
luhn_sum (d ∷ []) = digit_value d
luhn_sum (d ∷ e ∷ ds) = digit_value d + doubled (digit_value e) + luhn_sum ds

-- a meter's number: eleven digits whose sum, every second one from the right doubled, is a multiple
-- of ten
pub record IsMeterNo (text : Text) : Type 0 where
  pub eleven : length text ≡ 11
  pub digits : AllPass is_ascii_digit text
  pub luhn : luhn_sum (reverse text) % 10 ≡ 0
