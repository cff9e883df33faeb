-- Why books that are only read refuse.
use Rattle.std.specs.Prelude.{◌≡◌, ◌⊎◌, ◌↔◌, true, false}
use Rattle.sqlite.specs.State.{HasCleanDisk}
use Rattle.sqlite.specs.Effect.{Database}
use Rattle.books.specs.Failing.{HasFailedAt, IsToldOfRead}
use Rattle.books.specs.Keeps.{BooksHaveTables, Seen}
use Rattle.office_rules.specs.declared.decision.refusal.Refusal.{Refusal}
use Rattle.office_rules.specs.declared.decision.refusal.Refusal.TheVariants.{Stopped, Store}

-- The books are told to be stopped exactly where they were. They are stopped from then on exactly
-- where that is told, or that the store failed.
pub record TellsStopped (old new : Seen) (refusal : Refusal) : Type 0 where
  pub stopped : (refusal ≡ Stopped) ↔ (old.stopped ≡ true)
  pub stops : (new.stopped ≡ true) ↔ ((refusal ≡ Store) ⊎ (refusal ≡ Stopped))

-- Books that were not stopped, and have their tables, tell that the store failed only for a cause:
-- the disk failed more often than before, the connection was shut, a limit on steps is set, or this
-- is so of what they had.
abbrev pub FailsOnlyFor : (Database → Type 0) → (old new : Seen) → Refusal → Type 0
FailsOnlyFor IsSpoilt old new refusal =
    HasCleanDisk new.state → BooksHaveTables old → old.stopped ≡ false → refusal ≡ Store
    → HasFailedAt IsSpoilt old.state new.state

-- They are told to be stopped where they were. Books that were not stopped, and have their tables,
-- refuse for another cause of their own, or as a read of the tables failed, by its error: of their
-- rows only one of an answer to its questions is a cause.
pub record RefusesToRead (Other : Refusal → Type 0) (IsSpoilt : Database → Type 0)
    (old new : Seen) (refusal : Refusal) : Type 0 where
  pub tells : TellsStopped old new refusal
  pub failures : HasCleanDisk new.state → BooksHaveTables old → old.stopped ≡ false
      → Other refusal ⊎ IsToldOfRead IsSpoilt refusal old.state new.state
