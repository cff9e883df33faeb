-- Numbers written with a fixed count of digits.
use Rattle.std.specs.Prelude.{ℕ, zero, suc, ◌/◌, ◌%◌, [], ◌∷◌, ◌++◌}
use Rattle.std.specs.Char.{digit_char}
use Rattle.sts_fields.specs.Text.{Text}

-- the last so many digits of a number in a base, as text: letters above 9 are in lower case
unfoldable pub digits_text : ℕ → ℕ → ℕ → Text
digits_text base zero n = []
digits_text base (suc count) n = digits_text base count (n / base) ++ digit_char (n % base) ∷ []
