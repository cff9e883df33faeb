-- Texts of values between fixed words.
use Rattle.std.specs.Prelude.{◌≡◌, ℕ, ◌||◌, ◌==◌, Bool, false, true, List, [], ◌∷◌, ◌++◌, slice_index}
use Rattle.std.specs.List.{AllByRecursion}

-- a quotation mark, a comma, a closing brace or the end of a line: none stands in a value
abbrev pub is_stop : ℕ → Bool
is_stop byte =
    (byte == 34) || ((byte == 44) || ((byte == 125) || ((byte == 13) || (byte == 10))))

abbrev pub LacksStop : List ℕ → Type 0
LacksStop text = AllByRecursion (λ byte. is_stop byte ≡ false) text

abbrev pub LackStops : List (List ℕ) → Type 0
LackStops values = AllByRecursion LacksStop values

-- one of them stands first
abbrev pub BeginsWithStop : List ℕ → Type 0
BeginsWithStop text = is_stop (slice_index text 0) ≡ true

-- each value and its end, one after another, and then the rest
abbrev pub woven : (values ends : List (List ℕ)) → (rest : List ℕ) → List ℕ
woven [] ends rest = rest
woven (value ∷ values) [] rest = rest
woven (value ∷ values) (end ∷ ends) rest = value ++ (end ++ woven values ends rest)
