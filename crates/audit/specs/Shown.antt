-- What is known of the tables of an office once their rows were read.
use Rattle.std.specs.Prelude.{◌≤◌, ℕ}
use Rattle.sqlite.specs.Effect.{Database}
use Rattle.kept_order.specs.InOrder.{HasTablesInOrder}
use Rattle.office_rules.specs.Office.{Office}
use Rattle.book_tables.specs.Holds.{HasOfficeOf, IsKept, StandsFor}
use Rattle.book_tables.specs.Kept.{shifts_kept}
use Rattle.book_tables.specs.format.Format.{HasFormat}
use Rattle.book_tables.specs.row.Rows.{present_format}
use Rattle.audit_rows.specs.AllRows.{IsReadAs}
use Rattle.audit_rows.specs.Entries.{rows_of}
use Rattle.audit_rows.specs.Order.{HaveAllColumns}
use Rattle.audit_rows.specs.declared.office_rows.OfficeRows.{OfficeRows}
use Rattle.audit_lists.specs.Told.{ShowOffice}
use Rattle.audit_lists.specs.reached.Finds.{AreRowsOfOffice}

-- where the table of the shifts is there, each of its rows has all its columns
abbrev pub HaveWholeShifts : Database → Type 0
HaveWholeShifts db = IsKept db.schema shifts_kept → HaveAllColumns db

-- the tables of a format are there, and `about` tells the format
pub record TellsOwn (n : ℕ) (db : Database) : Type 0 where
  pub some : 1 ≤ n
  pub known : n ≤ present_format
  pub has : HasOfficeOf n db.schema
  pub tells : HasFormat db n

-- they were read whole, as these rows
pub record IsToldAs (n : ℕ) (db : Database) (rows : OfficeRows) : Type 0 where
  pub own : TellsOwn n db
  pub read : IsReadAs n db (rows_of rows)

-- The rows are those of an office. The database stands for this one where its rows are in the order
-- of their numbers and no row of a shift lacks a column, neither of which a statement can see; and
-- it stands for no office of other rows.
pub record AreOfficeRows (n : ℕ) (db : Database) (rows : OfficeRows) : Type 0 where
  pub told : IsToldAs n db rows
  pub shows : ShowOffice n (rows_of rows)
  pub stands : HasTablesInOrder db → HaveWholeShifts db → StandsFor db shows.office
  pub only : (o : Office) → StandsFor db o → AreRowsOfOffice rows o
