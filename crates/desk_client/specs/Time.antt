-- The time of day on papers.
use Rattle.std.specs.Prelude.{ℕ, ◌/◌, ◌%◌, List, [], ◌∷◌, ◌++◌, codes}
use Rattle.sts_fields.specs.Day.{two_digits}
use Rattle.sts_fields.specs.Text.{colon}

-- so many seconds after midnight, as T00:00:30Z
abbrev pub clock_after : ℕ → List ℕ
clock_after seconds =
    codes "T" ++ two_digits (seconds / 3600) ++ colon ∷ two_digits (seconds / 60 % 60)
    ++ colon ∷ two_digits (seconds % 60) ++ codes "Z"
