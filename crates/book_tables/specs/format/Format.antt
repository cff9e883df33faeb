-- What the table `about` tells of the format of the tables.
use Rattle.std.specs.Prelude.{◌≡◌, ◌↔◌, ◌<◌, ◌^◌, ℕ, zero, suc, [], ◌∷◌, codes, Option, Some}
use Rattle.sqlite.specs.Effect.{Database}
use Rattle.book_tables.specs.Holds.{rows_in}
use Rattle.book_tables.specs.row.Rows.{about_row}

-- the table has the row of this format, and no other
abbrev pub HasFormat : Database → ℕ → Type 0
HasFormat db n = rows_in db (codes "about") ≡ about_row n ∷ []

-- `about` tells the format of the tables, where there are tables
abbrev pub TellsFormat : ℕ → Database → Type 0
TellsFormat zero db = Unit {0}
TellsFormat (suc n) db = HasFormat db (suc n)

-- a format is found where the table has it, and none where the table has none of 32 bits
abbrev pub IsFormatOf : Database → Option ℕ → Type 0
IsFormatOf db found = (n : ℕ) → n < 2 ^ 32 → (found ≡ Some n) ↔ HasFormat db n
