-- Why an audit stops, and what that says of the database.
use Rattle.std.specs.Prelude.{◌≡◌, ◌⊎◌, ◌≤◌, ℕ, Option, Some, IfSome}
use Rattle.std.specs.Borrow.{Bor}
use Rattle.std.specs.Option.{option_copied, option_map}
use Rattle.sqlite.specs.Effect.{Database}
use Rattle.sqlite.specs.State.{IsUnchanged, State}
use Rattle.sqlite.specs.declared.error.Error.TheVariants.{SqliteFailure}
use Rattle.sqlite.specs.declared.error.ErrorCode.TheVariants.{OutOfMemory}
use Rattle.sqlite_schema.specs.declared.schema.Schema.{Schema}
use Rattle.sts_token.specs.Token.{BlockFunction}
use Rattle.vend_core.specs.Law.Reached.{HasTokensOf, IsPlausible}
use Rattle.office_rules.specs.Office.{Office}
use Rattle.book_tables.specs.Holds.{HasOfficeOf, StandsFor}
use Rattle.book_tables.specs.row.Rows.{present_format}
use Rattle.book_tables.specs.declared.error.TableError.{TableError}
use Rattle.book_tables.specs.declared.error.TableError.TheVariants as table
use Rattle.audit_rows.specs.Breaks.{Breaks}
use Rattle.audit_rows.specs.Tables.{tables_of}
use Rattle.audit_rows.specs.Fails.{HasNoFormat}
use Rattle.audit_rows.specs.Listing.{FailsToList}
use Rattle.audit_rows.specs.declared.finding.AuditFault.{AuditFault}
use Rattle.audit_rows.specs.declared.finding.AuditFault.TheVariants.{Failed, Found, NoOffice}
use Rattle.audit_rows.specs.declared.finding.Finding.{Finding}
use Rattle.audit_rows.specs.declared.office_rows.OfficeRows.{OfficeRows}
use Rattle.audit_lists.specs.Told.{BreaksOffice}
use Rattle.audit_lists.specs.Ties.{IsFirst, Says}
use Rattle.audit_lists.specs.Tokens.{TellsUnwritten, written_tie}
use Rattle.audit_lists.specs.reached.Finds.{AreRowsOfOffice, FindsByRequests, TellsUnreached}
use Rattle.audit_lists.specs.declared.fault.OfficeFault.{OfficeFault}
use Rattle.audit_lists.specs.declared.fault.OfficeFault.TheVariants as office
use Rattle.audit.specs.Shown.{AreOfficeRows, IsToldAs, TellsOwn}

-- what is told where the tables do not tell a format: a row that no office has tells none
abbrev pub cause_of : TableError → AuditFault
cause_of (table.Database e) = Failed e
cause_of table.RowOfNoOffice = NoOffice

-- a fault of the rows, as one of the audit
abbrev pub fault_of : OfficeFault → AuditFault
fault_of (office.Found f) = Found f
fault_of office.Memory = Failed (SqliteFailure OutOfMemory)

-- the tables are those of no format, or there was no memory
abbrev pub FailsToKnow : Schema → AuditFault → Type 0
FailsToKnow schema (Found f) = ⊥
FailsToKnow schema NoOffice = (n : ℕ) → n ≤ present_format → ¬ HasOfficeOf n schema
FailsToKnow schema (Failed e) = e ≡ SqliteFailure OutOfMemory

-- ---- what is found

abbrev pub StandsForNone : Database → Type 0
StandsForNone db = (o : Office) → ¬ StandsFor db o

-- Of tables that tell their format the finding names the first row that by itself is none of an
-- office's; or they were read whole, and it names the first row that breaks a rule of whole lists,
-- or is not what the sales say. So the database stands for no office.
pub data IsNoOffices (f : Finding) (db : Database) : Type 0 where
  by_row : (n : ℕ) → TellsOwn n db → Breaks (tables_of n) f db → StandsForNone db
      → IsNoOffices f db
  by_lists : (n : ℕ) (rows : OfficeRows) → IsToldAs n db rows → BreaksOffice n rows f
      → StandsForNone db → IsNoOffices f db

-- the way of a transform, where one is given
abbrev pub given_by : {T : Type 0} → (T → BlockFunction) → Option (Bor T) → Option BlockFunction
given_by forwards transform = option_map forwards (option_copied transform)

-- the digits of each sale are its token by the transform that is given, where one is
abbrev pub AreWritten : Option BlockFunction → Office → Type 0
AreWritten given o = IfSome given (λ forward. HasTokensOf forward o)

-- That; or the rows are those of an office, and the finding names the first that no requests lead
-- to; or requests may lead to it, and the finding names the first sale whose digits are not its
-- token by the transform that is given. So the database stands for no office that requests may lead
-- to, or for none whose tokens this transform wrote.
pub data Denies (given : Option BlockFunction) (f : Finding) (db : Database) : Type 0 where
  by_rows : IsNoOffices f db → Denies given f db
  by_requests : (n : ℕ) (rows : OfficeRows) → AreOfficeRows n db rows
      → ((o : Office) → AreRowsOfOffice rows o → FindsByRequests o f)
      → ((o : Office) → StandsFor db o → ¬ IsPlausible o) → Denies given f db
  by_transform : (forward : BlockFunction) → given ≡ Some forward
      → (n : ℕ) (rows : OfficeRows) → AreOfficeRows n db rows
      → ((o : Office) → AreRowsOfOffice rows o → IsPlausible o × IsFirst (written_tie forward o) f)
      → ((o : Office) → StandsFor db o → ¬ HasTokensOf forward o) → Denies given f db

-- what is told of rows that are an office's: that no requests lead to it, or that they do, and the
-- transform that is given did not write its tokens
abbrev pub TellsForged : Option BlockFunction → OfficeRows → OfficeFault → Type 0
TellsForged given r fault =
    TellsUnreached r fault
    ⊎ ((forward : BlockFunction) × (given ≡ Some forward)
    × ((o : Office) → AreRowsOfOffice r o → IsPlausible o) × Says (TellsUnwritten forward r) fault)

-- ---- why an audit stops

-- for a row of which the finding says this; or the tables are of no format, or do not tell theirs:
-- then all is as it was; or a table is not read, or there was no memory
abbrev pub StopsBy : (Finding → Database → Type 0) → State → State → AuditFault → Type 0
StopsBy Says old new (Found f) = Says f old.now × IsUnchanged old new
StopsBy Says old new NoOffice =
    (HasNoFormat old.now × StandsForNone old.now) × IsUnchanged old new
StopsBy Says old new (Failed e) = FailsToList old new e

-- nothing is said of the database
abbrev pub IsFailure : AuditFault → Type 0
IsFailure (Found f) = ⊥
IsFailure NoOffice = ⊥
IsFailure (Failed e) = Unit {0}
