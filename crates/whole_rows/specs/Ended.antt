-- A connection that is given up once the rows of one of its trees were looked at.
use Rattle.std.specs.Prelude.{◌≡◌, ℕ, Option, Result, IfErr, IfOk, IsTrue, OnOk}
use Rattle.sqlite.specs.Closing.{IsCopied}
use Rattle.sqlite.specs.Files.{FailsToClose, IsClosed, file_state}
use Rattle.sqlite.specs.Held.{Held}
use Rattle.sqlite.specs.State.{HasCleanDisk, KeepsCommit, Survives}
use Rattle.sqlite.specs.declared.error.Error.{Error}
use Rattle.sqlite_disk.specs.declared.Disk.{Ghosts}
use Rattle.sqlite_disk.specs.declared.Files.{Files}
use Rattle.sqlite_store.specs.FileStore.{files as store_files, view}
use Rattle.sqlite_store.specs.declared.store.FileStore.{FileStore}
use Rattle.sqlite_trees.specs.View.{IsClean}
use Rattle.sqlite_wal.specs.Reads.{AreClean}
use Rattle.whole_rows.specs.Partial.{FindsPartial}

module _ {D : Type 0} {g : Ghosts D} where
  -- The files of a connection were closed, with its store given back where they could not be.
  pub record EndsIn (conn : Held (FileStore D g))
      (end : Result (Files D) (Error × FileStore D g)) : Type 0 where
    pub closed : IfOk end (λ files. (last : FileStore D g)
        × (store_files last ≡ (files.log, files.db)) × IsClosed conn last
        × (AreClean g files.log files.db → IsCopied conn files))
    pub unclosed : IfErr end (λ e. IsClosed conn e.1
        × (IsClean (view e.1) → FailsToClose conn e.1 e.0))

  -- What was not committed was rolled back, and the rows of a tree were looked at as the last
  -- commit has them, or there is a cause why they were not. Nothing was committed, so a crash
  -- leaves nothing else.
  pub record Looks (tree width : ℕ) (old new : Held (FileStore D g))
      (found : Result (Option ℕ) Error) : Type 0 where
    pub survives : Survives (file_state old) (file_state new) (λ _. ⊥)
    pub keeps : HasCleanDisk (file_state new) → KeepsCommit (file_state old) (file_state new)
    pub stays : HasCleanDisk (file_state new) → OnOk found (IsTrue (file_state new).is_open)
    pub finds : HasCleanDisk (file_state new)
        → IfOk found (FindsPartial width ((file_state old).committed.trees tree))
    pub fails : HasCleanDisk (file_state new) → IfErr found (FailsToClose old new.store)

  -- then the files were closed
  pub record LooksAndEnds (tree width : ℕ) (conn : Held (FileStore D g))
      (found : Result (Option ℕ) Error)
      (end : Result (Files D) (Error × FileStore D g)) : Type 0 where
    pub last : Held (FileStore D g)
    pub looks : Looks tree width conn last found
    pub ends : EndsIn last end
