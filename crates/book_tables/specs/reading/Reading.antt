-- What a connection has of the office's tables, and why a read or a write of them fails.
use Rattle.std.specs.Prelude.{◌≡◌, ◌⊎◌, ◌≤◌, ◌<◌, ℕ, List, Option, None, Some, Result, IfOk, IsSome}
use Rattle.std.specs.Prelude.{IsTrue}
use Rattle.sqlite.specs.Effect.{Database}
use Rattle.sqlite.specs.Order.{Row}
use Rattle.sqlite.specs.State.{HasCleanDisk, IsUnchanged, State}
use Rattle.sqlite.specs.declared.error.Error.TheVariants.{SqliteFailure}
use Rattle.sqlite.specs.declared.error.ErrorCode.TheVariants.{OutOfMemory}
use Rattle.one_table.specs.Answer.{FailsToRead as FailsToAnswer}
use Rattle.one_table.specs.Reading.{FailsPlainly}
use Rattle.one_table.specs.ReadsOnly.{ReadsOnly}
use Rattle.one_table.specs.declared.read_fault.ReadFault.{ReadFault}
use Rattle.one_table.specs.declared.read_fault.ReadFault.TheVariants as fault
use Rattle.tariff.specs.declared.step.Step.{Step}
use Rattle.office_rules.specs.Office.{IsOffice, Office}
use Rattle.office_rules.specs.Office.Lookup.{NoneBegun}
use Rattle.office_rules.specs.declared.office.meter.Meter.{Meter}
use Rattle.book_tables.specs.Holds.{HasOffice, Holds, HoldsRows, IsKept}
use Rattle.book_tables.specs.Kept.{Kept}
use Rattle.book_tables.specs.row.Rows.{Rows}
use Rattle.book_tables.specs.Stands.{AreMembersOf}
use Rattle.book_tables.specs.declared.error.TableError.{TableError}
use Rattle.book_tables.specs.declared.error.TableError.TheVariants as fails
use Rattle.book_tables.specs.declared.reading.pages.MeterRow.{MeterRow}

-- the rows are the members of an office
abbrev pub AreOfOffice : Rows → Type 0
AreOfOffice rows = (o : Office) × IsOffice o × AreMembersOf rows o

-- why a read fails: a row is no office's only where the rows are not those of an office; and an
-- open connection fails else only for want of memory, by the disk, or at a limit on steps that was
-- set
abbrev pub FailsToReadOf : (Database → Rows → Type 0) → State → State → TableError → Type 0
FailsToReadOf Has old new (fails.Database e) =
    (IsTrue old.is_open → FailsPlainly old new e)
    ⊎ ((e ≡ SqliteFailure OutOfMemory) × IsUnchanged old new)
FailsToReadOf Has old new fails.RowOfNoOffice =
    ((rows : Rows) → Has old.now rows → ¬ AreOfOffice rows) × IsUnchanged old new

-- ---- one table

-- the table is there, and has what is stored of these rows, whatever format `about` tells
abbrev pub TableHolds : Kept → Database → Rows → Type 0
TableHolds k db rows = IsKept db.schema k × ((told : ℕ) × HoldsRows db told rows k)

-- while the connection is open, it has the table, or the table with these rows; one that is shut
-- shows nothing
abbrev pub HasTable : Kept → State → Type 0
HasTable k s = IsTrue s.is_open → IsKept s.now.schema k

abbrev pub HasTableRows : Kept → State → Rows → Type 0
HasTableRows k s rows = IsTrue s.is_open → TableHolds k s.now rows

-- what is read says this of the rows of an office, where the table has them
abbrev pub SaysOfTable : {T : Type 0} → Kept → (Rows → T → Type 0) → State → State
    → Result T TableError → Type 0
SaysOfTable k Says old new result =
    HasCleanDisk new → (rows : Rows) → HasTableRows k old rows → AreOfOffice rows
    → IfOk result (Says rows)

-- the table is only read, wherever it stands, and whatever other tables there are
abbrev pub ReadsTable : {T : Type 0} → Kept → State → State → Result T TableError → Type 0
ReadsTable k old new result =
    ReadsOnly (HasTable k) IsUnchanged (FailsToReadOf (TableHolds k)) old new result

-- ---- steps of later days, by first day

-- steps begin on the first day, which is not after the day, and none begin between
pub record IsLastBegun (dated : ℕ → Option (List Step)) (day first : ℕ) : Type 0 where
  pub not_after : first ≤ day
  pub there : IsSome (dated first)
  pub none_between : (other : ℕ) → first < other → other ≤ day → dated other ≡ None

-- the last day until the day on which steps begin, or that none have begun
abbrev pub IsFirstDay : (ℕ → Option (List Step)) → ℕ → Option ℕ → Type 0
IsFirstDay dated day None = NoneBegun dated day
IsFirstDay dated day (Some first) = IsLastBegun dated day first

-- a meter under its number
abbrev pub meter_row : (List ℕ × Meter) → MeterRow
meter_row m = record { number = m.0; meter = m.1 }

-- ---- all tables

-- the same of the tables of the present format
abbrev pub HasAllTables : State → Type 0
HasAllTables s = IsTrue s.is_open → HasOffice s.now.schema

abbrev pub HasRows : State → Rows → Type 0
HasRows s rows = IsTrue s.is_open → Holds s.now rows

abbrev pub FailsToRead : State → State → TableError → Type 0
FailsToRead old new e = FailsToReadOf Holds old new e

abbrev pub OnlyReads : {T : Type 0} → (State → State → Type 0) → State → State
    → Result T TableError → Type 0
OnlyReads Same old new result = ReadsOnly HasAllTables Same FailsToRead old new result

-- ---- records

-- what is told of a reader's fault
abbrev pub told : ReadFault → TableError
told (fault.Database e) = fails.Database e
told fault.Row = fails.RowOfNoOffice

module _ {T : Type 0} (shown : T → Row) (keeps : T → Type 0) where
  -- the row has the columns of the record, whose values keep their rules
  abbrev pub IsShown : Row → T → Type 0
  IsShown row x = (shown x ≡ row) × keeps x

  -- the row shows such a record
  abbrev pub ShowsRecord : Row → Type 0
  ShowsRecord row = (x : T) × IsShown row x

-- it is told of a fault of the reader
abbrev pub FailsToShowRow : (Row → Type 0) → List ℕ → Row → State → State → TableError → Type 0
FailsToShowRow IsReadable sql params old new e =
    (why : ReadFault) × (e ≡ told why) × FailsToAnswer IsReadable sql params old new why
