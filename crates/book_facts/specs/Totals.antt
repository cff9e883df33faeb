-- The totals of a shift.
use Rattle.std.specs.Prelude.{◌≡◌, ℕ, Option, None, Some, option_map, Result, Ok, Err, unwrap_or}
use Rattle.sqlite.specs.Effect.{Database}
use Rattle.office_rules.specs.Office.Lookup.{sales_of_shift, shift_numbered}
use Rattle.office_rules.specs.Office.{Office}
use Rattle.office_rules.specs.declared.decision.refusal.Refusal.{Refusal}
use Rattle.office_rules.specs.declared.decision.refusal.Refusal.TheVariants.{NoSuchShift}
use Rattle.office_rules.specs.declared.office.shift.Shift.{Shift}
use Rattle.book_tables.specs.Stands.{all_totals}
use Rattle.book_tables.specs.declared.row.totals.Totals.{Totals}
use Rattle.book_tables.specs.reading.Questions.{the_shift, the_shift_totals}
use Rattle.book_tables.specs.reading.Seen.{HasSpoilt, ShowsFirst, ShowsMade}
use Rattle.book_tables.specs.writing.Writing.{no_totals}
use Rattle.book_states.specs.Spoilt.{SpoiltThen}

-- the count and the sums of the sales of the shift of a number, where there is such a shift
abbrev pub shift_totals : Office → ℕ → Option Totals
shift_totals o number =
    option_map (λ shift. all_totals (sales_of_shift o number)) (shift_numbered o number)

-- the totals are those of the shift, and it has none where it is answered that there is no such one
abbrev pub AreTotalsIn : Office → ℕ → Result Totals Refusal → Type 0
AreTotalsIn o number (Ok totals) = shift_totals o number ≡ Some totals
AreTotalsIn o number (Err why) = why ≡ NoSuchShift → shift_totals o number ≡ None

-- ---- what was seen of a database that has the office's tables, whatever their rows are

-- the running totals under the number of a shift
abbrev pub AreTotalsShown : ℕ → Database → Totals → Type 0
AreTotalsShown number db totals =
    ShowsMade (the_shift_totals number) (λ found. unwrap_or found no_totals) db totals

-- the same, where there is a shift of the number
abbrev pub AreTotalsSeen : ℕ → Database → Option Totals → Type 0
AreTotalsSeen number db None = ShowsFirst (the_shift number) db None
AreTotalsSeen number db (Some totals) =
    ((shift : Shift) × ShowsFirst (the_shift number) db (Some shift))
    × AreTotalsShown number db totals

-- what is answered: the totals, or that there is no such shift
abbrev pub GivesTotals : ℕ → Database → Result Totals Refusal → Type 0
GivesTotals number db (Ok totals) = AreTotalsSeen number db (Some totals)
GivesTotals number db (Err NoSuchShift) = AreTotalsSeen number db None
GivesTotals number db (Err why) = Unit {0}

-- a row of an answer shows no record: the totals are asked for only where there is the shift
abbrev pub AreTotalsSpoilt : ℕ → Database → Type 0
AreTotalsSpoilt number =
    SpoiltThen (the_shift number) (λ shift. HasSpoilt (the_shift_totals number))
