-- What is printed of the totals of a shift.
use Rattle.std.specs.Prelude.{◌≡◌, ℕ, false, [], Some, None, Result, Ok, Err}
use Rattle.sqlite.specs.State.{HasCleanDisk}
use Rattle.book_tables.specs.declared.row.totals.Totals.{Totals}
use Rattle.books.specs.Keeps.{BooksHaveTables, Represents, Seen}
use Rattle.books.specs.Totals.{AreTotalsSpoilt, GivesTotals, shift_totals}
use Rattle.vend_core.specs.Law.Life.{Life, present}
use Rattle.office_rules.specs.declared.decision.refusal.Refusal.{Refusal}
use Rattle.office_rules.specs.declared.decision.refusal.Refusal.TheVariants.{NoSuchShift}
use Rattle.desk_commands.specs.print.TotalsLine.{totals_line}
use Rattle.vend_ports.specs.print.Printed.{refusal_line}
use Rattle.office_commands.specs.office.OnlyRead.{AreOnlyRead}
use Rattle.office_commands.specs.office.Refused.{RefusesToRead}
use Rattle.vend_ports.specs.print.Told.{Outputs, IsTold}
use Rattle.vend_ports.specs.declared.command_end.CommandEnd.{CommandEnd}
use Rattle.vend_ports.specs.declared.command_end.CommandEnd.TheVariants.{Done, Refused}

-- the shift has none in every life that the books kept, where it is refused as no such shift; and
-- what else is refused is so as the tables were not read, for a row of the shift or of its totals
-- among others, or the books are stopped
pub record HaveNoTotals (number : ℕ) (old new : Seen) (refusal : Refusal) : Type 0 where
  pub none : HasCleanDisk new.state → (life : Life) → Represents life old
      → refusal ≡ NoSuchShift → shift_totals (present life) number ≡ None
  pub refused : RefusesToRead (λ cause. cause ≡ NoSuchShift) (AreTotalsSpoilt number) old new
      refusal

-- these are the totals of the shift in every life that the books kept, or there are none to be told
abbrev pub AreTotals : ℕ → (old new : Seen) → Result Totals Refusal → Type 0
AreTotals number old new (Ok totals) = HasCleanDisk new.state → (life : Life) → Represents life old
    → shift_totals (present life) number ≡ Some totals
AreTotals number old new (Err refusal) = HaveNoTotals number old new refusal

-- they are told, or the refusal is
abbrev pub TellsTotals : ℕ → Result Totals Refusal → Outputs → CommandEnd → Type 0
TellsTotals number (Ok totals) o end = IsTold o (totals_line number totals) [] Done end
TellsTotals number (Err refusal) o end = IsTold o [] (refusal_line refusal) Refused end

-- The totals of the shift in the present office are told, or why not. Whatever the rows are, the
-- totals are those that the tables show of a shift that they have, and there is no such shift only
-- where they have none. The books are only read.
pub record IsTotalled (number : ℕ) (old new : Seen) (o : Outputs) (end : CommandEnd) : Type 0 where
  pub totals : Result Totals Refusal
  pub are_totals : AreTotals number old new totals
  pub seen : HasCleanDisk new.state → BooksHaveTables old → old.stopped ≡ false
      → GivesTotals number old.state.now totals
  pub told : TellsTotals number totals o end
  pub reads : AreOnlyRead old new
