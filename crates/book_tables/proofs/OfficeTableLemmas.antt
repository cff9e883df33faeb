-- Each table is one of an office's, so what is read of it alone is read of an office.
use Rattle.std.proofs.Common.{ℕ, Result, Ok, Err, IfErr}
use Rattle.sqlite.specs.Effect.{Database}
use Rattle.sqlite.specs.State.{IsUnchanged, State}
use Rattle.sqlite_schema.specs.declared.schema.Schema.{Schema}
use Rattle.one_table.proofs.ReadsOnlyLemmas.{read_where}
use Rattle.book_tables.specs.Holds.{HasOffice, Holds, HoldsOf, HoldsRows, IsKept}
use Rattle.book_tables.specs.Kept.{Kept, about_kept, bases_kept, dated_steps_kept, last_ids_kept, meters_kept, month_tenths_kept, sales_kept, shift_totals_kept, shifts_kept, steps_kept, tariffs_kept}
use Rattle.book_tables.specs.reading.Reading.{FailsToRead, FailsToReadOf, HasRows, HasTable, HasTableRows, HasAllTables, OnlyReads, ReadsTable, TableHolds}
use Rattle.book_tables.specs.row.Rows.{Rows, present_format}
use Rattle.book_tables.specs.declared.error.TableError.{TableError}
use Rattle.book_tables.specs.declared.error.TableError.TheVariants.{Database as Failed, RowOfNoOffice}
use Rattle.book_tables.proofs.EachTableLemmas.{OfEach, by_name}

-- the table is one of the present format
pub record IsInOffice (k : Kept) : Type 0 where
  pub there : (s : Schema) → HasOffice s → IsKept s k
  pub holds : (told : ℕ) (db : Database) (rows : Rows) → HoldsOf present_format told db rows → HoldsRows db told rows k

in_office : (k : Kept) → ((P : Kept → Type 0) → OfEach P → P k) → IsInOffice k
in_office k of = record {
  there = λ s has. of (IsKept s) (by_name (IsKept s) has.tables);
  holds = λ told db rows held. of (HoldsRows db told rows) (by_name (HoldsRows db told rows) held.are);
}

-- `about` is a table of the present format
pub about_in : IsInOffice about_kept
about_in = in_office about_kept (λ P each. each.about)

-- `tariffs` is a table of the present format
pub tariffs_in : IsInOffice tariffs_kept
tariffs_in = in_office tariffs_kept (λ P each. each.tariffs)

-- `tariff_steps` is a table of the present format
pub steps_in : IsInOffice steps_kept
steps_in = in_office steps_kept (λ P each. each.steps)

-- `meters` is a table of the present format
pub meters_in : IsInOffice meters_kept
meters_in = in_office meters_kept (λ P each. each.meters)

-- `shifts` is a table of the present format
pub shifts_in : IsInOffice shifts_kept
shifts_in = in_office shifts_kept (λ P each. each.shifts)

-- `sales` is a table of the present format
pub sales_in : IsInOffice sales_kept
sales_in = in_office sales_kept (λ P each. each.sales)

-- `last_ids` is a table of the present format
pub last_ids_in : IsInOffice last_ids_kept
last_ids_in = in_office last_ids_kept (λ P each. each.last_ids)

-- `month_tenths` is a table of the present format
pub month_tenths_in : IsInOffice month_tenths_kept
month_tenths_in = in_office month_tenths_kept (λ P each. each.month_tenths)

-- `shift_totals` is a table of the present format
pub shift_totals_in : IsInOffice shift_totals_kept
shift_totals_in = in_office shift_totals_kept (λ P each. each.shift_totals)

-- `meter_bases` is a table of the present format
pub bases_in : IsInOffice bases_kept
bases_in = in_office bases_kept (λ P each. each.bases)

-- `dated_steps` is a table of the present format
pub dated_steps_in : IsInOffice dated_steps_kept
dated_steps_in = in_office dated_steps_kept (λ P each. each.dated_steps)

module _ {k : Kept} (in_office : IsInOffice k) where
  -- a database that holds all rows of the office holds those of the table
  pub table_holds : (db : Database) (rows : Rows) → Holds db rows → TableHolds k db rows
  table_holds db rows held = (in_office.there db.schema held.has, (present_format, in_office.holds present_format db rows held))

  -- a connection that has all tables has this one
  pub has_table : (s : State) → HasAllTables s → HasTable k s
  has_table s has runs = in_office.there s.now.schema (has runs)

  -- a connection that has all rows of the office has those of the table
  pub has_table_rows : (s : State) (rows : Rows) → HasRows s rows → HasTableRows k s rows
  has_table_rows s rows has runs = table_holds s.now rows (has runs)

  fails_in_office : {A : Type 0} (old new : State) (r : Result A TableError) → IfErr r (FailsToReadOf (TableHolds k) old new) → IfErr r (FailsToRead old new)
  fails_in_office old new (Ok x) fails = tt
  fails_in_office old new (Err (Failed e)) fails = fails
  fails_in_office old new (Err RowOfNoOffice) fails = (λ rows held. fails.0 rows (table_holds old.now rows held), fails.1)

  -- a read of the table is a read of the office's tables
  pub read_in_office : {A : Type 0} {old new : State} {r : Result A TableError} → ReadsTable k old new r → OnlyReads IsUnchanged old new r
  read_in_office {old = old} {new = new} {r = r} this =
      read_where r (has_table old) this (λ clean has. fails_in_office old new r (this.faults clean (has_table old has)))
