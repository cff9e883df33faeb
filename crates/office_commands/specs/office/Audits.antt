-- What comes of the audit of two files.
use Rattle.std.specs.Prelude.{◌≡◌, ◌≢◌, ◌≤◌, ℕ, ◌+◌, length, slice_get, take, Option, Some, None}
use Rattle.std.specs.Prelude.{Bool, Result, Ok, Err, IfErr, IfOk}
use Rattle.sqlite.specs.Effect.{Database}
use Rattle.sqlite.specs.Files.{FailsToClose, file_state}
use Rattle.sqlite.specs.Held.{Held}
use Rattle.sqlite.specs.Order.{Row}
use Rattle.sqlite.specs.State.{HasCleanDisk, KeepsCommit, Survives}
use Rattle.sqlite.specs.declared.error.Error.{Error}
use Rattle.sqlite_disk.specs.declared.Disk.{Ghosts}
use Rattle.sqlite_store.specs.declared.store.FileStore.{FileStore}
use Rattle.sqlite_wal.specs.Recovery.{Image}
use Rattle.one_table.specs.Standing.{tree_in}
use Rattle.sts_token.specs.Token.{BlockFunction}
use Rattle.vend_core.specs.Law.Reached.{IsPlausible}
use Rattle.office_rules.specs.Office.{Office}
use Rattle.book_tables.specs.Holds.{StandsFor, rows_in}
use Rattle.book_tables.specs.Kept.{shifts_kept}
use Rattle.audit_rows.specs.declared.finding.AuditFault.{AuditFault}
use Rattle.audit_rows.specs.declared.finding.AuditFault.TheVariants.{Failed, Found}
use Rattle.audit_rows.specs.declared.finding.Finding.{Finding}
use Rattle.audit_rows.specs.declared.finding.RowKey.TheVariants.{Number}
use Rattle.audit_rows.specs.declared.finding.Rule.TheVariants.{Value}
use Rattle.audit_rows.specs.declared.table_name.TableName.TheVariants.{Shifts}
use Rattle.audit.specs.Audited.{IsSound}
use Rattle.audit.specs.Fails.{AreWritten, Denies, IsFailure, StandsForNone, StopsBy}
use Rattle.audit.specs.declared.audited.Audited.{Audited}
use Rattle.books.specs.Path.{IsConnected}
use Rattle.whole_rows.specs.Ended.{Looks}
use Rattle.whole_rows.specs.Partial.{AreWhole}
use Rattle.office_commands.specs.office.Closed.{AreClosed}

-- ---- the shifts as they are stored

-- a row of a shift has so many values: its number, and a column each
abbrev pub shift_width : ℕ
shift_width = 1 + length shifts_kept.table.columns

-- the finding of the shift at this place, from 1, which is its number: where an audit found nothing
-- no number is left out
abbrev pub partial_shift : ℕ → Finding
partial_shift place = record { table = Shifts; rule = Value; row = Number place }

-- what is told of rows that are an office's, once the shifts were looked at as they are stored
abbrev pub told_of : Audited → Result (Option ℕ) Error → Result Audited AuditFault
told_of audited (Ok None) = Ok audited
told_of audited (Ok (Some place)) = Err (Found (partial_shift place))
told_of audited (Err e) = Err (Failed e)

-- The shift is the first that is stored without all its columns, which a statement reads as an open
-- one. So the database stands for no office.
pub record LacksColumn (f : Finding) (db : Database) : Type 0 where
  pub at : ℕ
  pub told : f ≡ partial_shift (at + 1)
  pub row : Row
  pub there : slice_get (rows_in db shifts_kept.table.name) at ≡ Some row
  pub lacks : length row ≢ shift_width
  pub before : AreWhole shift_width (take at (rows_in db shifts_kept.table.name))
  pub none : StandsForNone db

module _ {D : Type 0} {g : Ghosts D} where
  -- A connection was given up after an audit. Where this found the rows to be an office's, in
  -- tables of some format, the shifts were looked at once more, as they are stored.
  pub data LooksAtShifts (old new : Held (FileStore D g)) (found told : Result Audited AuditFault)
      : Type 0 where
    passed_over : IfOk found (λ audited. audited.format ≡ 0) → new ≡ old → told ≡ found
        → LooksAtShifts old new found told
    looked : (audited : Audited) (partial : Result (Option ℕ) Error) → found ≡ Ok audited
        → 1 ≤ audited.format
        → Looks (tree_in old.schema shifts_kept.table.name) shift_width old new partial
        → told ≡ told_of audited partial → LooksAtShifts old new found told

  -- and its files were closed
  pub record EndsAudit (LetsGo : (whole : Bool) → D → D → Type 0) (conn : Held (FileStore D g))
      (found told : Result Audited AuditFault) : Type 0 where
    pub last : Held (FileStore D g)
    pub looks : LooksAtShifts conn last found told
    pub closed : AreClosed g LetsGo (file_state last)

  -- ---- both ways

  -- why the rows do not pass: for what an audit finds, or for a shift that is not stored whole; or
  -- the shifts were not looked at, for this cause
  pub data FailsToPass (given : Option BlockFunction) (old new : Held (FileStore D g))
      (fault : AuditFault) : Type 0 where
    by_audit : StopsBy (Denies given) (file_state old) (file_state new) fault
        → FailsToPass given old new fault
    by_column : (f : Finding) → LacksColumn f (file_state old).now → fault ≡ Found f
        → FailsToPass given old new fault
    by_failure : (e : Error) → FailsToClose old new.store e → fault ≡ Failed e
        → FailsToPass given old new fault

  -- What is told of a database is true of it: it stands for an office that requests may lead to,
  -- whose tokens the transform that is given wrote, where one is, with these counts; or what is
  -- found denies it, or it was not read. So one that stands for such an office is never found
  -- broken. Nothing was committed, and a crash leaves nothing that it did not leave before.
  pub record IsAuditOfFile (given : Option BlockFunction) (old new : Held (FileStore D g))
      (answer : Result Audited AuditFault) : Type 0 where
    pub passes : HasCleanDisk (file_state new) → IfOk answer (λ audited.
        (sound : IsSound given (file_state old).now audited)
        × StandsFor (file_state old).now sound.office)
    pub fails : HasCleanDisk (file_state new) → IfErr answer (FailsToPass given old new)
    pub honest : HasCleanDisk (file_state new) → (o : Office) → StandsFor (file_state old).now o
        → IsPlausible o → AreWritten given o → IfErr answer IsFailure
    pub keeps : HasCleanDisk (file_state new) → KeepsCommit (file_state old) (file_state new)
    pub survives : Survives (file_state old) (file_state new) (λ _. ⊥)

-- A connection was just made to the files, an audit of it, by the transform that was given, where
-- one was, answered this, and they were closed with nothing done beside.
pub record AuditsIn {D : Type 0} (g : Ghosts D) (image : Image)
    (LetsGo : (whole : Bool) → D → D → Type 0) (given : Option BlockFunction)
    (answer : Result Audited AuditFault) : Type 0 where
  pub first : Held (FileStore D g)
  pub last : Held (FileStore D g)
  pub connected : HasCleanDisk (file_state first) → IsConnected image (file_state first)
  pub audited : IsAuditOfFile given first last answer
  pub closed : AreClosed g LetsGo (file_state last)
