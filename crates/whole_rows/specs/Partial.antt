-- Rows that are stored with all their columns, and the first that is not.
use Rattle.std.specs.Prelude.{◌≡◌, ◌≢◌, ℕ, ◌+◌, List, length, take, slice_get, Option, Some, None}
use Rattle.std.specs.List.{AllByRecursion}
use Rattle.sqlite_value.specs.Order.{Row}

-- each row is stored with so many values, of which its number is the first
abbrev pub AreWhole : ℕ → List Row → Type 0
AreWhole width rows = AllByRecursion (λ row. length row ≡ width) rows

-- each is; or the row at this place, from 1, is not, and each before it is
abbrev pub FindsPartial : ℕ → List Row → Option ℕ → Type 0
FindsPartial width rows None = AreWhole width rows
FindsPartial width rows (Some place) =
    (at : ℕ) × (row : Row) × (place ≡ at + 1) × (slice_get rows at ≡ Some row)
    × (length row ≢ width) × AreWhole width (take at rows)
