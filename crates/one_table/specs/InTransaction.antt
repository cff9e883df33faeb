-- What a statement inside a transaction leaves.
use denote.Triple.Both.{Both}
use Rattle.std.specs.Prelude.{◌≡◌, ◌≢◌, ◌⊎◌, ℕ, true, false, List, [], ◌∷◌, None, Err, Ok, OnOk}
use Rattle.std.specs.Prelude.{Option, Result, Some, IsTrue}
use Rattle.std.specs.Borrow.{MutBor}
use Rattle.std.specs.List.{AllByRecursion}
use Rattle.sqlite_value.specs.Order.{Row}
use Rattle.sqlite_trees.specs.Tree.{put_row}
use Rattle.sqlite_trees.specs.declared.store.Store.{Ghosts}
use Rattle.sqlite_schema.specs.declared.schema.Table.{Table}
use Rattle.sqlite_sql.specs.Query.{Query, IsAnswer}
use Rattle.sqlite_rules.specs.declared.error.Rowids.TheVariants.{Given}
use Rattle.sqlite_rules.specs.Calls.{ids_of}
use Rattle.sqlite_rules.specs.Edit.{edit_of, edited, is_taken, without_all, IsNoIndex}
use Rattle.sqlite.specs.Does.{Does, Tally}
use Rattle.sqlite.specs.Effect.{IsDatabase, SparesFrozen}
use Rattle.sqlite.specs.Held.{state}
use Rattle.sqlite.specs.State.{ExecutesInside, Fails, FailsToQuery, HasCleanDisk, IsTooLate}
use Rattle.sqlite.specs.State.{IsUnchanged, KeepsCommit, Shows, State, Survives, mode_of}
use Rattle.sqlite.specs.declared.error.Error.{Error}
use Rattle.sqlite.specs.declared.error.Error.TheVariants.{SqliteFailure}
use Rattle.sqlite.specs.declared.error.ErrorCode.TheVariants.{TransactionState}
use Rattle.sqlite.specs.declared.transaction.Transaction.{Transaction}
use Rattle.sqlite_schema.specs.declared.command.Command.{Command}
use Rattle.sqlite_schema.specs.declared.command.Returning.{Returning}
use Rattle.one_table.specs.Reading.{MeansAs}

-- a transaction is under way: no failure has ended it
abbrev pub IsUnderWay : State → Type 0
IsUnderWay s = s.in_transaction ≡ true

-- the connection is open and in its transaction, and nothing was committed
abbrev pub StaysInside : State → State → Type 0
StaysInside old new = Shows old new new.now old.committed true

-- What any statement inside a transaction leaves, a read or a write, or several of them: where it
-- succeeds, the transaction goes on. Nothing is committed, and a crash leaves nothing of it.
pub record KeepsTransaction {T E : Type 0} (old new : State) (result : Result T E) : Type 0 where
  pub inside : HasCleanDisk new → IsUnderWay old → OnOk result (StaysInside old new)
  pub kept : HasCleanDisk new → IsUnderWay old → KeepsCommit old new
  pub survives : Survives old new (λ _. ⊥)

-- What a function leaves that works inside a transaction, as any statement there does: it is the
-- transaction of the same connection. And what the function says of the connection's state before
-- it and after it.
pub record WorksInside {S T E : Type 0} (g : Ghosts S)
    (tx : Both (MutBor (Transaction S)) (MutBor (Transaction S))) (result : Result T E)
    (Says : State → State → Type 0) : Type 0 where
  pub same_reference : tx.exit.now.conn.ghost_name ≡ tx.entry.now.conn.ghost_name
  pub transaction : KeepsTransaction (state g tx.entry.now.conn.now) (state g tx.exit.now.conn.now)
      result
  pub says : Says (state g tx.entry.now.conn.now) (state g tx.exit.now.conn.now)

-- a failure had ended the transaction, and nothing is run
pub record HadEnded (old new : State) (e : Error) : Type 0 where
  pub ended : old.in_transaction ≡ false
  pub told : e ≡ SqliteFailure TransactionState
  pub is_open : new.is_open ≡ old.is_open
  pub now_is : new.now ≡ old.now
  pub committed_is : new.committed ≡ old.committed
  pub mode : new.in_transaction ≡ old.in_transaction

-- why a text fails that is run inside a transaction: that had ended, or the text is not run, or it
-- is refused
abbrev pub FailsToRun : List ℕ → Row → State → State → Error → Type 0
FailsToRun sql params old new e =
    HadEnded old new e ⊎ ExecutesInside 0 sql params old new (Err e)

-- the same of a text that shows rows: a query runs where the transaction had ended, and a write
-- does not
abbrev pub FailsToShow : List ℕ → Row → State → State → Error → Type 0
FailsToShow sql params old new e =
    FailsToQuery sql params old new e ⊎ IsTooLate sql params old new e

-- Why a write of the rows of a table fails: the transaction had ended. Or the rules of the tables
-- refuse it, as where a key is taken, a row that it refers to is missing or a limit on steps is
-- reached, and all stays as it was. Or there was no memory, the disk failed or had failed, or a row
-- is too long to be stored: then the transaction is undone.
-- With RETURNING the write shows rows.
abbrev pub FailsToWriteAs : Option Returning → Command → Row → State → State → Error → Type 0
FailsToWriteAs shows command params old new e =
    HadEnded old new e
    ⊎ ((Does old.step_limit (mode_of old) params old.now [] shows command (Err (Some e))
    × IsUnchanged old new)
    ⊎ Fails old new (IsTrue old.is_open
    → Does old.step_limit (mode_of old) params old.now [] shows command (Err None)) e)

-- the same of one that shows nothing
abbrev pub FailsToWrite : Command → Row → State → State → Error → Type 0
FailsToWrite = FailsToWriteAs None

-- a text was carried out: as the command that it means it made what the connection has of what it
-- had
pub record CarriesOut (sql : List ℕ) (params : Row) (old new : State) : Type 0 where
  pub command : Command
  pub shows : Option Returning
  pub means : MeansAs old.now.schema sql command shows
  pub tally : Tally
  pub does : Does old.step_limit (mode_of old) params old.now [] shows command
      (Ok (tally, new.now))

-- the same, and this is so of the rows that it showed
abbrev pub ShowsInside : (List Row → Type 0) → List ℕ → Row → State → State → Type 0
ShowsInside Showed sql params old new =
    (it : CarriesOut sql params old new) × Showed it.tally.shown

-- there is a first row, and it is such a one
abbrev pub BeginsWith : (Row → Type 0) → List Row → Type 0
BeginsWith Is [] = ⊥
BeginsWith Is (row ∷ more) = Is row

-- The table has these rows. The schema and every other table are as they were, and so is what SQL
-- here does not understand. It is a database, and nothing is committed.
pub record HasChanged (t : Table) (rows : List Row) (old new : State) : Type 0 where
  pub inside : Shows old new new.now old.committed true
  pub marks : new.marks ≡ old.marks
  pub schema : new.now.schema ≡ old.now.schema
  pub rows_are : new.now.trees t.tree ≡ rows
  pub tables : AllByRecursion (λ u. u.tree ≢ t.tree → new.now.trees u.tree ≡ old.now.trees u.tree)
      old.now.schema.tables
  pub others : (tree : ℕ) → tree ≢ t.tree → IsNoIndex old.now.schema tree
      → new.now.trees tree ≡ old.now.trees tree
  pub frozen : SparesFrozen old.now new.now
  pub sound : IsDatabase new.now

-- the row is put in at its rowid, where none was
pub record PutsRow (t : Table) (row : Row) (old new : State) : Type 0 where
  pub changed : HasChanged t (put_row row (old.now.trees t.tree)) old new
  pub fresh : is_taken (old.now.trees t.tree) row ≡ false

-- the rows that the query finds, each an old rowid before the new row, stand in place of those that
-- have their rowids
pub record SetsRows (t : Table) (q : Query) (params : Row) (old new : State) : Type 0 where
  pub found : List Row
  pub answer : IsAnswer q old.now.trees params found
  pub changed : HasChanged t
      (edited old.now.trees (edit_of old.now.trees t (ids_of found) Given 1 found)) old new

-- the rows that the query finds are taken out by their rowids, which it shows
pub record RemovesRows (t : Table) (q : Query) (params : Row) (old new : State) : Type 0 where
  pub found : List Row
  pub answer : IsAnswer q old.now.trees params found
  pub changed : HasChanged t (without_all (old.now.trees t.tree) (ids_of found)) old new
