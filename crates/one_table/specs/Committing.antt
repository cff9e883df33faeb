-- One transaction with one commit.
use Rattle.std.specs.Prelude.{◌≡◌, true, false, [], IsTrue}
use Rattle.sqlite_trees.specs.Tree.{Trees}
use Rattle.sqlite_trees.specs.declared.store.Store.{Ghosts}
use Rattle.sqlite.specs.Effect.{Database}
use Rattle.sqlite.specs.Held.{Held, state}
use Rattle.sqlite.specs.Steps.{FailsToCommit}
use Rattle.sqlite.specs.declared.error.Error.{Error}
use Rattle.one_table.specs.InTransaction.{IsUnderWay}
use Rattle.one_table.specs.declared.committing.CommitFault.{CommitFault}
use Rattle.one_table.specs.declared.committing.CommitFault.TheVariants.{Unmade, InDoubt}
use Rattle.sqlite.specs.State.{State, Survives}

-- If the connection is open, it was open, and it holds what was committed before. No transaction is
-- under way.
pub record IsUndone (old new : State) : Type 0 where
  pub was_open : IsTrue new.is_open → IsTrue old.is_open
  pub now_is : IsTrue new.is_open → new.now ≡ old.committed
  pub committed_is : IsTrue new.is_open → new.committed ≡ old.committed
  pub autocommit : new.in_transaction ≡ false
  pub unmarked : new.marks ≡ []

-- The connection was open and is, and it holds this database, which is committed. No transaction is
-- under way.
pub record HasCommitted (db : Database) (old new : State) : Type 0 where
  pub was_open : IsTrue old.is_open
  pub is_open : IsTrue new.is_open
  pub now_is : new.now ≡ db
  pub committed_is : new.committed ≡ db
  pub autocommit : new.in_transaction ≡ false
  pub unmarked : new.marks ≡ []

-- the database that the change makes of this one, whose trees these are
abbrev pub LeavesMade : (Database → Database → Type 0) → Database → Trees → Type 0
LeavesMade Makes old trees = (db : Database) × Makes old db × (trees ≡ db.trees)

-- a change that was not made leaves nothing new after a crash, and one whose commit failed may be
-- there
abbrev pub Risks : {F : Type 0} → (Database → Database → Type 0) → State → State → CommitFault F
    → Type 0
Risks Makes old new (Unmade why) = Survives old new (λ _. ⊥)
Risks Makes old new (InDoubt e) = Survives old new (LeavesMade Makes old.now)

-- some connection over this kind of store was so at some time
abbrev pub HasBeen : {S : Type 0} → Ghosts S → (State → Type 0) → Type 0
HasBeen {S} g Was = (held : Held S) × Was (state g held)

-- Why a commit failed: the connection was open, and its transaction held the change that had been
-- made; no fault is forgotten. Then the commit of that failed as `sqlite` says: there was no
-- memory, or the disk failed more often than before.
pub record FailsAtCommit (Makes : Database → Database → Type 0) (old held new : State)
    (error : Error) : Type 0 where
  pub was_open : IsTrue old.is_open
  pub makes : Makes old.now held.now
  pub is_open : IsTrue held.is_open
  pub inside : IsUnderWay held
  pub survives : Survives old held (λ _. ⊥)
  pub fails : FailsToCommit held new error

-- where a commit failed, the change was made before it, and it failed for a cause
abbrev pub WasMade : {S F : Type 0} → (g : Ghosts S) → (Database → Database → Type 0) → State
    → State → CommitFault F → Type 0
WasMade g Makes old new (Unmade why) = Unit {0}
WasMade g Makes old new (InDoubt e) = HasBeen g (λ held. FailsAtCommit Makes old held new e)

-- what the fault of a change that was not made tells of the database before it
abbrev pub TellsCommit : {F : Type 0} → (Database → F → Type 0) → Database → CommitFault F → Type 0
TellsCommit Says old (Unmade why) = Says old why
TellsCommit Says old (InDoubt e) = Unit {0}

-- Why a change was not made: in the transaction that was begun on this connection it failed for
-- this reason. What was left of it then was undone, and no fault is forgotten.
abbrev pub FailsInside : {S F : Type 0} → (g : Ghosts S) → (State → State → F → Type 0) → Held S
    → State → CommitFault F → Type 0
FailsInside {S} g Fails old new (Unmade why) =
    (left : Held S) × Fails (state g (record old { in_transaction = true })) (state g left) why
    × Survives (state g left) new (λ _. ⊥)
FailsInside g Fails old new (InDoubt e) = Unit {0}
