-- The file of stopped books that is not opened again.
use Rattle.std.specs.Prelude.{◌≡◌, ◌⊎◌, ◌&&◌, ℕ, false, IsTrue}
use Rattle.book_opening.specs.Opening.{FailsToOpen, LeavesRefused, Refuses, fault_of}
use Rattle.book_opening.specs.declared.fault.OpenFault.{OpenFault}
use Rattle.book_opening.specs.declared.fault.OpenFault.TheVariants.{Store}
use Rattle.books.specs.Keeps.{Seen}
use Rattle.books.specs.Path.{AreTakenFrom}
use Rattle.books.specs.declared.refused_files.RefusedFiles.{RefusedFiles}
use Rattle.books.specs.declared.refused_files.RefusedFiles.TheVariants.{Connected, Unconnected}
use Rattle.sqlite.specs.Files.{FailsToOpenFiles, HoldsDatabase, IsCleanLeft, IsClosed, LeavesFiles}
use Rattle.sqlite.specs.Files.{file_state, image_of, over_files}
use Rattle.sqlite.specs.Held.{Held}
use Rattle.sqlite.specs.State.{HasCleanDisk, Survives}
use Rattle.sqlite.specs.declared.error.Error.{Error}
use Rattle.sqlite.specs.declared.file.Leftover.{Leftover}
use Rattle.sqlite_disk.specs.declared.Disk as disk
use Rattle.sqlite_disk.specs.declared.Files.{Files}
use Rattle.sqlite_store.specs.FileStore.{files as store_files, view}
use Rattle.sqlite_store.specs.declared.store.FileStore.{FileStore}
use Rattle.sqlite_trees.specs.Tree.{Trees}
use Rattle.sqlite_trees.specs.View.{IsClean}
use Rattle.sqlite_wal.specs.Files.{outcomes}
use Rattle.sqlite_wal.specs.Reads.{AreClean}
use Rattle.sqlite_wal.specs.Recovery.{Image}
use Rattle.office_commands.specs.office.Closed.{IsSeenAs}
use Rattle.office_commands.specs.office.Reopened.{IsNextOf}
use Rattle.office_commands.specs.declared.port.ports.SaltSource as source

module _ {D : Type 0} {g : disk.Ghosts D} where
  -- A connection was closed, and none was made to its files again: one of them cannot be used any
  -- more, as after a sync that failed, or for a reason that is the database's. A crash leaves of
  -- the closed files nothing that it could not leave of the connection, and of what is left now
  -- what it left of those, or what stands for the same.
  pub record FailsToReconnect (old : Held (FileStore D g)) (error : Error) (left : Leftover D g) :
      Type 0 where
    pub last : FileStore D g
    pub closed : IsClosed old last
    pub numbered : IsClean (view last) → IsTrue (view last).is_numbered
    pub here : Files D
    pub files : store_files last ≡ (here.log, here.db)
    pub cause : ((g.is_usable here.log && g.is_usable here.db) ≡ false)
        ⊎ (IsCleanLeft left → FailsToOpenFiles here left error)
    pub kept : IsCleanLeft left → LeavesFiles here left

  -- One was made, and no office was opened over it: a fault that names the file is true of it, any
  -- other has its cause there, and what it stood for it stands for.
  pub record RefusesNext (old : Held (FileStore D g)) (fault : OpenFault)
      (last : Held (FileStore D g)) : Type 0 where
    pub first : Held (FileStore D g)
    pub next : HasCleanDisk (file_state first) → IsNextOf (file_state old) (file_state first)
    pub refuses : HasCleanDisk (file_state last)
        → Refuses (file_state first) (file_state last) fault
    pub fails : HasCleanDisk (file_state last)
        → FailsToOpen {S = FileStore D g} over_files (file_state first) (file_state last) fault
    pub rests : last.in_transaction ≡ false
    pub survives : Survives (file_state first) (file_state last)
        (LeavesRefused (file_state first) fault)

  -- what is given back of files in which the office of a connection was not opened again
  abbrev pub RefusesAgain : (old : Held (FileStore D g)) → OpenFault → RefusedFiles D g → Type 0
  RefusesAgain old fault (Connected last) = RefusesNext old fault last
  RefusesAgain old fault (Unconnected left) =
      (error : Error) × (fault ≡ fault_of error) × FailsToReconnect old error left

  -- a database that a connection may leave
  abbrev pub IsLeftOf : Held (FileStore D g) → Image → Type 0
  IsLeftOf old image =
      ∥ ((trees : Trees) × (file_state old).may_leave trees × HoldsDatabase image trees) ∥₁

  -- its files hold one, and so does whatever a crash may leave of them
  pub record HoldWhatIsLeft (old : Held (FileStore D g)) (files : Files D) : Type 0 where
    pub present : IsLeftOf old (image_of g files)
    pub crash : (image : Image) → outcomes g files.log files.db image → IsLeftOf old image

-- While the disk returned what was written, the files of a connection that was closed, to which
-- none could be made again, hold a database that this may leave.
abbrev pub LosesNothing : {D : Type 0} → disk.Ghosts D → Type 0
LosesNothing {D} g = (old : Held (FileStore D g)) (error : Error) (left : Leftover D g)
    → (lost : FailsToReconnect old error left) → AreClean g lost.here.log lost.here.db
    → HoldWhatIsLeft old lost.here

-- Stopped books lost their file: there was no salt for a new log, or with a salt that was drawn the
-- office was not opened again. Either way the files were let go as the books, or the opening, left
-- them.
pub data IsUnreopened {D S : Type 0} (disk : disk.Ghosts D) (salts : source.Ghosts S)
    (LetsGo : D → D → Type 0) (old : Seen) (fault : OpenFault) : Type 0 where
  unsalted : (it : S) → salts.lacks it → fault ≡ Store
      → (conn : Held (FileStore D disk)) → IsSeenAs conn old.state
      → (left : Files D) → AreTakenFrom (Connected conn) left → LetsGo left.log left.db
      → IsUnreopened disk salts LetsGo old fault
  refused : (it : S) (salt : ℕ) → salts.draws it salt
      → (conn : Held (FileStore D disk)) → IsSeenAs conn old.state
      → (refused : RefusedFiles D disk) → RefusesAgain conn fault refused
      → (left : Files D) → AreTakenFrom refused left → LetsGo left.log left.db
      → IsUnreopened disk salts LetsGo old fault
