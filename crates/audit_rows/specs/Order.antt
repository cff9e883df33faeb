-- Rows as SQLite keeps them: in the order of their numbers, and each with all its columns.
use Rattle.std.specs.Prelude.{◌≡◌, ◌+◌, length}
use Rattle.std.specs.List.{AllByRecursion}
use Rattle.sqlite.specs.Effect.{Database}
use Rattle.one_table.specs.Numbered.{IsInOrder}
use Rattle.book_tables.specs.Holds.{IsKept, rows_in}
use Rattle.book_tables.specs.Kept.{Kept, shifts_kept}

-- the rows of each of the office's tables that is there stand in the order of their numbers
abbrev pub AreKeptInOrder : Database → Type 0
AreKeptInOrder db = (k : Kept) → IsKept db.schema k → IsInOrder (rows_in db k.table.name)

-- each row of the table of the shifts has all its columns, behind its number: one that lacks the
-- last, `closed`, reads as a shift that is open, and so no SELECT tells it from one that has NULL
-- there
abbrev pub HaveAllColumns : Database → Type 0
HaveAllColumns db =
    AllByRecursion (λ row. length row ≡ 1 + length shifts_kept.table.columns)
    (rows_in db shifts_kept.table.name)
