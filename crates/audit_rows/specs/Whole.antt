-- A table as it is read whole: a record of each row, or the first row that shows none.
use Rattle.std.specs.Prelude.{◌≡◌, ◌+◌, ◌++◌, ℕ, List, [], ◌∷◌, true, All, IsPermutation, IsSorted}
use Rattle.std.specs.Prelude.{Result, Ok, Err, drop, if◌then◌else◌, map}
use Rattle.std.specs.declared.alloc.Global.{Global}
use Rattle.std.specs.declared.vec.Vec.{Vec}
use Rattle.sqlite.specs.Effect.{Database}
use Rattle.sqlite.specs.Order.{Row, column}
use Rattle.sqlite_value.specs.Order.{value_cmp}
use Rattle.book_tables.specs.Holds.{rows_in}
use Rattle.book_tables.specs.Kept.{Kept}
use Rattle.book_tables.specs.reading.Reading.{IsShown, ShowsRecord}
use Rattle.audit_rows.specs.declared.seen.Seen.{Seen}
use Rattle.audit_rows.specs.declared.seen.Seen.TheVariants as seen

-- ---- what a row shows

-- the places of columns from one on
abbrev pub places_from : {X : Type 0} → ℕ → List X → List ℕ
places_from at [] = []
places_from at (c ∷ cs) = at ∷ places_from (at + 1) cs

-- where the columns of a table stand in its rows: behind a number of SQLite's, or behind the row's
-- own number, which stands for its first column
abbrev pub places : Kept → List ℕ
places k =
    if k.is_numbered then 0 ∷ places_from 2 (drop 1 k.table.columns)
    else places_from 1 k.table.columns

abbrev pub columns_of : Kept → Row → Row
columns_of k row = map (column row) (places k)

-- the columns of all rows of the table
abbrev pub all_columns : Kept → Database → List Row
all_columns k db = map (columns_of k) (rows_in db k.table.name)

-- these are the columns of all rows of the table, in some order: by their numbers where they have
-- any
pub record IsTableListing (k : Kept) (db : Database) (rows : List Row) : Type 0 where
  pub same : IsPermutation rows (all_columns k db)
  pub rises : k.is_numbered ≡ true
      → IsSorted (λ a b. value_cmp (column a 0) (column b 0)) rows

module _ {T : Type 0} (shown : T → Row) (keeps : T → Type 0) where
  -- a row shows this record; or it shows none, and is this
  abbrev pub Sees : Row → Seen T → Type 0
  Sees row (seen.Whole x) = IsShown shown keeps row x
  Sees row (seen.False same) = (same ≡ row) × ¬ ShowsRecord shown keeps row

  -- the rows of the table are those of these records, and the values of each keep their rules
  pub record AreListed (k : Kept) (db : Database) (xs : List T) : Type 0 where
    pub listed : IsTableListing k db (map shown xs)
    pub kept : All keeps xs

-- what is made of the rows that were seen: all are records, or this one is the first that is none
abbrev pub IsMadeOf : {T : Type 0} → List (Seen T) → Result (Vec T Global) Row → Type 0
IsMadeOf all (Ok xs) = all ≡ map seen.Whole xs.items
IsMadeOf {T} all (Err row) =
    (before : List T) × (after : List (Seen T))
    × (all ≡ map seen.Whole before ++ (seen.False row ∷ after))
