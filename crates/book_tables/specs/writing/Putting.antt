-- What a write makes of a table of running totals that puts one row in after another, whatever
-- format `about` tells.
use Rattle.std.specs.Prelude.{◌≡◌, ◌<◌, ◌^◌, ℕ, pos, List, [], ◌∷◌, ◌++◌, All}
use Rattle.sqlite.specs.State.{State}
use Rattle.sqlite_keyed.specs.Keyed.{IsKeyedBy}
use Rattle.sts_fields.specs.declared.base.Base.{Base}
use Rattle.book_tables.specs.Holds.{HoldsOf}
use Rattle.book_tables.specs.row.Rows.{Rows, present_format}
use Rattle.book_tables.specs.writing.Writes.{Write, new_last_id, new_month, new_totals}
use Rattle.book_tables.specs.writing.Writing.{HasRoomFor, WritesOnly, totals_names}
use Rattle.book_tables.specs.declared.row.totals.Totals.{Totals}

-- the rows with these in one of the tables
abbrev pub with_last_ids : List ((List ℕ × Base) × ℕ) → Rows → Rows
with_last_ids ids rows = record rows { last_ids = ids }

abbrev pub with_month_tenths : List ((List ℕ × ℕ) × ℕ) → Rows → Rows
with_month_tenths months rows = record rows { month_tenths = months }

abbrev pub with_shift_totals : List (ℕ × Totals) → Rows → Rows
with_shift_totals shifts rows = record rows { shift_totals = shifts }

-- what is asked of the rows of a table: nothing; that a column can hold each sum; and that the
-- shifts rise too
abbrev pub AreAnyIds : List ((List ℕ × Base) × ℕ) → Type 0
AreAnyIds ids = Unit {0}

abbrev pub FitMonths : List ((List ℕ × ℕ) × ℕ) → Type 0
FitMonths months = All (λ r. r.1 < 2 ^ 63) months

abbrev pub FitShifts : List (ℕ × Totals) → Type 0
FitShifts shifts = IsKeyedBy (λ r. pos r.0) shifts × All (λ r. HasRoomFor r.1) shifts

-- a write puts this row in: a column holds each number that is not too great for it
abbrev pub PutsLastId : ((List ℕ × Base) × ℕ) → Write → Type 0
PutsLastId r w = w ≡ new_last_id r

abbrev pub PutsMonth : ((List ℕ × ℕ) × ℕ) → Write → Type 0
PutsMonth r w = r.1 < 2 ^ 63 → w ≡ new_month r

abbrev pub PutsTotals : (ℕ × Totals) → Write → Type 0
PutsTotals r w = HasRoomFor r.1 → w ≡ new_totals r

-- This row stands after those that its table had, where these, it and those that are to follow are
-- such as is asked. All but the totals is as it was.
pub record PutsNext {R : Type 0} (set : List R → Rows → Rows) (Are : List R → Type 0) (r : R)
    (old new : State) : Type 0 where
  pub only : WritesOnly totals_names old new
  pub rows : (told : ℕ) (rows : Rows) (before after : List R) → Are (before ++ r ∷ after)
      → HoldsOf present_format told old.now (set before rows)
      → HoldsOf present_format told new.now (set (before ++ r ∷ []) rows)
