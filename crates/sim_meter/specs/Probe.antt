-- What a probe answers: fifty truth values, none true after a false one.
use Rattle.std.specs.Prelude.{◌≡◌, ℕ, ◌<◌, Bool, false, List, length, count_by, slice_index_or}

-- the value at a place, and false past the end
abbrev pub value_at : List Bool → ℕ → Bool
value_at values place = slice_index_or values place false

-- fifty truth values, none true after a false one
pub record AreTrueFirst (values : List Bool) : Type 0 where
  pub fifty : length values ≡ 50
  pub none_after : (first later : ℕ) → first < later → value_at values first ≡ false
      → value_at values later ≡ false

-- how many of the values are true
abbrev pub true_count : List Bool → ℕ
true_count values = count_by (λ value. value) values
