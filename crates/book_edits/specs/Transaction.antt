-- How the transaction of an edit ends.
use Rattle.std.specs.Prelude.{◌≡◌, ◌⊎◌, ℕ, Result, IfErr, OnOk, IsTrue}
use Rattle.sqlite.specs.State.{State, Survives}
use Rattle.sqlite.specs.declared.error.Error.{Error}
use Rattle.sqlite_trees.specs.Tree.{Trees}
pub use Rattle.one_table.specs.Committing.{HasBeen}
use Rattle.one_table.specs.Committing.{FailsAtCommit, LeavesMade}
use Rattle.office_rules.specs.Office.{Office}
use Rattle.office_rules.specs.declared.decision.change.Edit.{Edit}
use Rattle.office_rules.specs.declared.decision.refusal.Refusal.{Refusal}
use Rattle.office_rules.specs.declared.decision.refusal.Refusal.TheVariants.{Memory, Store}
use Rattle.book_tables.specs.declared.error.TableError.{TableError}
use Rattle.book_states.specs.Changing.{IsCounted, MakesAsComputed, MakesEdit}
use Rattle.book_states.specs.Failing.{EditHasFailed, refusal_for}
use Rattle.book_states.specs.Stores.{RecoversTo}
use Rattle.book_states.specs.Same.{ChangesNothing, IsSame}

-- an open connection has the edit, which is committed: a crash leaves nothing else. It has the
-- limit on steps that it had.
pub record HasEdit (edit : Edit) (old new : State) : Type 0 where
  pub was_open : IsTrue old.is_open
  pub makes : MakesEdit edit old.now new.now
  pub exact : (trees : Trees) → new.may_leave trees → trees ≡ new.now.trees
  pub limit : new.step_limit ≡ old.step_limit

-- The commit failed: an open connection has what it had, and a crash leaves what it left before, or
-- the edit. It failed of an edit that was made, and for a cause: the connection was in a
-- transaction that held the edit, and then there was no memory or the disk failed. `Been` says that
-- a connection over the same store was so (`HasBeen`).
pub record DoubtsEdit (Been : (State → Type 0) → Type 0) (edit : Edit) (prior : ℕ)
    (old new : State) : Type 0 where
  pub was_open : IsTrue old.is_open
  pub same : IsSame old new
  pub survives : Survives old new (LeavesMade (MakesEdit edit) old.now)
  pub error : Error
  pub failed : Been (λ held. FailsAtCommit (MakesAsComputed edit prior) old held new error)

-- The edit was not made, and nothing has changed; the error of the statement is answered so. A
-- failure of the store has a cause.
pub record IsToldOfEdit (edit : Edit) (prior : ℕ) (refusal : Refusal) (old new : State) : Type 0
  where
    pub error : TableError
    pub answered : refusal ≡ refusal_for error
    pub either : (refusal ≡ Memory) ⊎ (refusal ≡ Store)
    pub nothing : ChangesNothing old new
    pub failed : refusal ≡ Store → EditHasFailed edit prior error old new

-- why an edit is not known to be committed: it was not made, or its commit failed
abbrev pub FailsToEdit : ((State → Type 0) → Type 0) → Edit → ℕ → State → State → Refusal → Type 0
FailsToEdit Been edit prior old new refusal =
    IsToldOfEdit edit prior refusal old new
    ⊎ ((refusal ≡ Store) × DoubtsEdit Been edit prior old new)

-- an edit was committed, with the tenths of a sale's month as they were read before it; or it was
-- not
pub record Commits (Been : (State → Type 0) → Type 0) (edit : Edit) (prior : ℕ)
    (result : Result (Unit {0}) Refusal) (old new : State) : Type 0 where
  pub done : OnOk result (HasEdit edit old new)
  pub counted : OnOk result (IsCounted edit prior old.now)
  pub failed : IfErr result (FailsToEdit Been edit prior old new)

-- all that a crash may leave stands for one of the two offices
abbrev pub MayBeLeft : State → Office → Office → Type 0
MayBeLeft s o p = (trees : Trees) → s.may_leave trees → RecoversTo trees o ⊎ RecoversTo trees p
