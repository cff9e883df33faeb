-- Which rows a write puts into the office's tables, whatever the other rows are: with a false row
-- too.
use Rattle.std.specs.Prelude.{List, [], ◌∷◌, ◌++◌, IsPermutation, drop, if◌then◌else◌, map}
use Rattle.sqlite.specs.Effect.{Database}
use Rattle.sqlite.specs.Order.{Row}
use Rattle.book_tables.specs.Holds.{rows_in}
use Rattle.book_tables.specs.Kept.{Kept}

-- the rows of a table, without the hidden numbers of those that have none of their own
abbrev pub bare_rows : Kept → Database → List Row
bare_rows k db =
    if k.is_numbered then rows_in db k.table.name else map (drop 1) (rows_in db k.table.name)

-- the table has these rows more, beside all that it had, whatever those are
abbrev pub StoresRows : Kept → List Row → Database → Database → Type 0
StoresRows k added old new = IsPermutation (bare_rows k old ++ added) (bare_rows k new)

-- the same of one row
abbrev pub StoresRow : Kept → Row → Database → Database → Type 0
StoresRow k row old new = StoresRows k (row ∷ []) old new
