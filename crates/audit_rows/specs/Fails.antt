-- What is known of the tables while they are read, and why an audit stops.
use Rattle.std.specs.Prelude.{◌≤◌, ℕ, List, All, IsTrue}
use Rattle.sqlite.specs.Effect.{Database}
use Rattle.sqlite.specs.State.{IsUnchanged, State}
use Rattle.book_tables.specs.format.Format.{TellsFormat}
use Rattle.book_tables.specs.Holds.{HasOfficeOf, IsKept}
use Rattle.book_tables.specs.row.Rows.{present_format}
use Rattle.audit_rows.specs.Breaks.{Breaks}
use Rattle.audit_rows.specs.Listing.{FailsToList}
use Rattle.audit_rows.specs.Tables.{kept_of}
use Rattle.audit_rows.specs.declared.finding.AuditFault.{AuditFault}
use Rattle.audit_rows.specs.declared.finding.AuditFault.TheVariants.{Failed, Found, NoOffice}
use Rattle.audit_rows.specs.declared.table_name.TableName.{TableName}

-- while the connection is open, its database is so
abbrev pub IsKnown : (Database → Type 0) → State → Type 0
IsKnown Known s = IsTrue s.is_open → Known s.now

-- the tables are there
abbrev pub HaveTables : List TableName → Database → Type 0
HaveTables tables db = All (λ t. IsKept db.schema (kept_of t)) tables

-- no format is that of the tables and is told by `about`
abbrev pub HasNoFormat : Database → Type 0
HasNoFormat db = (n : ℕ) → n ≤ present_format → HasOfficeOf n db.schema → ¬ TellsFormat n db

-- of these tables the finding names the first row that by itself is none of an office's, or the
-- tables are of no format, and all is as it was; or a table is not read
abbrev pub FailsToReadTables : List TableName → State → State → AuditFault → Type 0
FailsToReadTables tables old new (Found f) = Breaks tables f old.now × IsUnchanged old new
FailsToReadTables tables old new NoOffice = HasNoFormat old.now × IsUnchanged old new
FailsToReadTables tables old new (Failed e) = FailsToList old new e
