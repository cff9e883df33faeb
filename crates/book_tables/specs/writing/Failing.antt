-- How one or more writes inside a transaction end, by what the connection was and is: each is
-- carried out, or one of them fails for a cause.
use Rattle.std.specs.Prelude.{◌≡◌, ◌⊎◌, ℕ, false, List, [], ◌∷◌, ◌++◌, None, Some, Result, Err}
use Rattle.std.specs.Prelude.{IfErr, IsTrue, OnOk}
use Rattle.sqlite.specs.Effect.{Database}
use Rattle.sqlite.specs.Order.{Row as Values}
use Rattle.sqlite.specs.State.{HasCause, State}
use Rattle.sqlite.specs.declared.error.Error.{Error}
use Rattle.sqlite.specs.declared.error.Error.TheVariants.{SqliteFailure}
use Rattle.sqlite.specs.declared.error.ErrorCode.TheVariants.{OutOfMemory, TooBig}
use Rattle.sqlite_schema.specs.declared.command.Command.{Command}
use Rattle.sqlite_schema.specs.declared.schema.Table.{Table}
use Rattle.sqlite_trees.specs.declared.error.StoreError.TheVariants.{Io}
use Rattle.one_table.specs.InTransaction.{FailsToWrite}
use Rattle.one_table.specs.Merges.{FailsToTouch}
use Rattle.one_table.specs.Reading.{Means, MeansAs}
use Rattle.one_table.specs.Upserting.{Merging, returning_as, upsert_as}
use Rattle.one_table.specs.declared.read_fault.ReadFault.{ReadFault}
use Rattle.one_table.specs.declared.read_fault.ReadFault.TheVariants as fault
use Rattle.office_rules.specs.declared.office.sale.Sale.{Sale}
use Rattle.book_tables.specs.writing.Telling.{IsToldFalse}
use Rattle.book_tables.specs.writing.Writes.{AreCarriedOut, EndsWith, Make, Write}
use Rattle.book_tables.specs.declared.error.TableError.{TableError}
use Rattle.book_tables.specs.declared.error.TableError.TheVariants as fails

-- ---- one write

-- it fails as a write of one table does: as the command that its text means, with its parameters
abbrev pub FailsToStore : Write → State → State → TableError → Type 0
FailsToStore w old new (fails.Database e) =
    (command : Command) × (IsTrue old.is_open → Means old.now.schema w.sql command)
    × FailsToWrite command w.params old new e
FailsToStore w old new fails.RowOfNoOffice = ⊥

-- the same of an upsert, of which such a row comes back
pub record FailsToTell (IsTold : Values → Type 0) (w : Write) (old new : State) (why : ReadFault)
    : Type 0 where
  pub table : Table
  pub merging : Merging
  pub at : ℕ
  pub means : IsTrue old.is_open
      → MeansAs old.now.schema w.sql (upsert_as at table merging) (Some (returning_as merging))
  pub fails : FailsToTouch table merging w.params old new at w.sql IsTold why

-- the row that comes first may be no such one
abbrev pub FailsToMerge : (Values → Type 0) → Write → State → State → TableError → Type 0
FailsToMerge IsTold w old new (fails.Database e) = FailsToTell IsTold w old new (fault.Database e)
FailsToMerge IsTold w old new fails.RowOfNoOffice = FailsToTell IsTold w old new fault.Row

-- ---- several

-- One of the writes is refused, on the database that those before it made of what the connection
-- had: by the rules of its tables, as where a key is taken, a row that it refers to is missing or a
-- limit on steps is reached; or its row is too long to be stored.
pub record IsRefused (writes : List Write) (old : State) (e : Error) : Type 0 where
  pub before : List Write
  pub tried : Write
  pub after : List Write
  pub among : before ++ tried ∷ after ≡ writes
  pub db : Database
  pub made : Make old.step_limit before old.now db
  pub refused : EndsWith old.step_limit tried db (Err (Some e))
      ⊎ ((e ≡ SqliteFailure TooBig) × EndsWith old.step_limit tried db (Err None))

-- There was no memory; or the disk failed more often than before; or the connection was shut; or
-- one of the writes was refused. None of them tells that a row is no office's.
abbrev pub FailsToWriteAll : List Write → State → State → TableError → Type 0
FailsToWriteAll writes old new (fails.Database e) =
    (e ≡ SqliteFailure OutOfMemory)
    ⊎ (HasCause old new ⊥ Io
    ⊎ ((old.is_open ≡ false) ⊎ IsRefused writes old e))
FailsToWriteAll writes old new fails.RowOfNoOffice = ⊥

-- The same of the writes that keep a sale's totals, and of some before them. A row is no office's
-- only where one of these totals is told false.
abbrev pub FailsToTotal : List Write → Sale → ℕ → List Write → State → State → TableError → Type 0
FailsToTotal before s last writes old new e =
    FailsToWriteAll writes old new e
    ⊎ ((e ≡ fails.RowOfNoOffice) × IsToldFalse before s last old.step_limit old.now)

-- ---- how they end

-- where they end well, each was carried out
abbrev pub End : {T : Type 0} → (List Write → State → State → TableError → Type 0) → List Write
    → State → State → Result T TableError → Type 0
End Fail writes old new result =
    OnOk result (AreCarriedOut writes old new) × IfErr result (Fail writes old new)

-- the same of one write
abbrev pub Ends : {T : Type 0} → (Write → State → State → TableError → Type 0) → Write
    → State → State → Result T TableError → Type 0
Ends Fails w old new result =
    OnOk result (AreCarriedOut (w ∷ []) old new) × IfErr result (Fails w old new)

-- Why some writes fail that are known by this alone: there was no memory, or they fail as writes
-- do.
abbrev pub FailsSomehow : (List Write → Type 0) → State → State → TableError → Type 0
FailsSomehow Are old new e =
    (e ≡ fails.Database (SqliteFailure OutOfMemory))
    ⊎ ((writes : List Write) × Are writes × FailsToWriteAll writes old new e)

-- the same of how they end
abbrev pub EndSomehow : {T : Type 0} → (List Write → Type 0) → State → State
    → Result T TableError → Type 0
EndSomehow Are old new result =
    OnOk result ((writes : List Write) × Are writes × AreCarriedOut writes old new)
    × IfErr result (FailsSomehow Are old new)
