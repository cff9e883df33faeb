-- Books that are only read, by one call or by many.
use Rattle.std.specs.Prelude.{◌≡◌, ◌⊎◌, false}
use Rattle.sqlite.specs.Effect.{Database}
use Rattle.sqlite.specs.State.{HasCleanDisk, State}
use Rattle.sqlite_disk.specs.Disk.{MoreFaults}
use Rattle.book_states.specs.Same.{ChangesNothing}
use Rattle.books.specs.Keeps.{BooksHaveTables, Represents, Seen}
use Rattle.vend_core.specs.Law.Life.{Life}

-- Every life that the books kept they keep, and nothing was written: a connection that is open has
-- what it had, tables of other names too, and a crash leaves nothing new.
pub record AreOnlyRead (old new : Seen) : Type 0 where
  pub keeps : (life : Life) → Represents life old → Represents life new
  pub tables : BooksHaveTables old → BooksHaveTables new
  pub nothing : HasCleanDisk new.state → BooksHaveTables old → ChangesNothing old.state new.state
  pub clean : HasCleanDisk new.state → HasCleanDisk old.state

-- the disk failed more often than before, or the connection was shut
abbrev pub HasDiskFailed : State → State → Type 0
HasDiskFailed old new = MoreFaults old.faults new.faults ⊎ (old.is_open ≡ false)

-- Books that have their tables, and were not stopped, showed this of what they had, as long as the
-- disk returned what was written; or it failed, or the connection was shut.
abbrev pub HaveShown : (Database → Type 0) → (old new : Seen) → Type 0
HaveShown Shows old new =
    HasCleanDisk new.state → BooksHaveTables old → old.stopped ≡ false
    → Shows old.state.now ⊎ HasDiskFailed old.state new.state
