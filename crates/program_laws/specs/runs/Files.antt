-- What the file held that a run found, and what it may hold after the run.
use Rattle.std.specs.Prelude.{◌⊎◌, ⊤}
use Rattle.sqlite.specs.Closing.{files_left}
use Rattle.sqlite.specs.Files.{HoldsDatabase, IsCleanLeft, IsNothing, image_of}
use Rattle.sqlite.specs.State.{HasCleanDisk, State}
use Rattle.sqlite.specs.declared.file.Leftover.{Leftover}
use Rattle.sqlite.specs.declared.file.Leftover.TheVariants as leftover
use Rattle.sqlite_disk.specs.declared.Disk as disk
use Rattle.sqlite_disk.specs.declared.Files.{Files}
use Rattle.sqlite_store.specs.FileStore.{recovers}
use Rattle.sqlite_store.specs.Unopened.{state_of}
use Rattle.sqlite_wal.specs.Files.{outcomes}
use Rattle.sqlite_wal.specs.Reads.{AreClean}
use Rattle.sqlite_trees.specs.Tree.{Trees}
use Rattle.sqlite_wal.specs.Recovery.{Image}
use Rattle.program_laws.specs.runs.Uses.{RunEnding, RunUse, connected, cut_off, left_blank, let_go}
use Rattle.program_laws.specs.runs.Uses.{unconnected, unseen}

-- a database that a connection may leave in this state
abbrev pub IsLeftBy : State → Image → Type 0
IsLeftBy s image = ∥ ((trees : Trees) × s.may_leave trees × HoldsDatabase image trees) ∥₁

-- This is so of what these files held, which were found, and of all that a crash may leave of them
-- as they were found.
abbrev pub AreFoundSo : {M : Type 0} → (g : disk.Ghosts M) → Files M → (Holds : Image → Type 0)
    → Type 0
AreFoundSo g found Holds = Holds (image_of g found)
    × ((image : Image) → outcomes g found.log found.db image → Holds image)

module _ {M : Type 0} {g : disk.Ghosts M} where
  -- the file that was found held what is said here
  abbrev pub FindsImage : RunUse g → (Before : Image → Type 0) → Type 0
  FindsImage unseen Before = ⊤
  FindsImage (unconnected found left) Before = AreFoundSo g found Before
  FindsImage (connected image living last) Before = Before image

  -- What a crash may leave of files to which no connection was made. Of a log that was being read
  -- again beside a database this says nothing.
  abbrev pub MayLeaveOf : Files M → Leftover M g → Image → Type 0
  MayLeaveOf found (leftover.Files now) image = outcomes g now.log now.db image
  MayLeaveOf found (leftover.Unopened now) image =
      IsNothing (image_of g found) × (state_of now).may_leave image
  MayLeaveOf found (leftover.Store now) image =
      ∥ ((trees : Trees) × recovers now trees × HoldsDatabase image trees) ∥₁

  -- What the file may hold after the last connection, stopped wherever it was: a database that this
  -- may leave, or what may be left of an attempt to make another; or where none was made, what a
  -- crash may leave of files in which nothing was ever written.
  abbrev pub MayHoldAfter : RunEnding g → Image → Type 0
  MayHoldAfter (left_blank files) image = outcomes g files.log files.db image
  MayHoldAfter (let_go s files) image = IsLeftBy s image
  MayHoldAfter (cut_off s found left) image = IsLeftBy s image ⊎ MayLeaveOf found left image

  -- What it may hold after a run. Where no connection was made, what it held before, or what may be
  -- left of the attempt.
  abbrev pub MayHold : RunUse g → (Before : Image → Type 0) → Image → Type 0
  MayHold unseen Before image = Before image
  MayHold (unconnected found left) Before image = Before image ⊎ MayLeaveOf found left image
  MayHold (connected image living last) Before after = MayHoldAfter last after

  -- the disk returned what was written, also as the files were found again
  abbrev pub EndsClean : RunEnding g → Type 0
  EndsClean (left_blank files) = AreClean g files.log files.db
  EndsClean (let_go s files) = HasCleanDisk s
  EndsClean (cut_off s found left) =
      HasCleanDisk s × AreClean g found.log found.db × IsCleanLeft left

  abbrev pub IsClean : RunUse g → Type 0
  IsClean unseen = ⊤
  IsClean (unconnected found left) = IsCleanLeft left
  IsClean (connected image living last) = EndsClean last

  -- The files returned what was written until they were let go. Where they were found again, they
  -- had done so until then too.
  abbrev pub IsLetGoClean : RunEnding g → Type 0
  IsLetGoClean (left_blank files) = AreClean g files.log files.db
  IsLetGoClean (let_go s files) = AreClean g files.log files.db
  IsLetGoClean (cut_off s found left) =
      AreClean g found.log found.db × AreClean g (files_left left).0 (files_left left).1

  -- so did those that a run let go, where it saw anything of them
  abbrev pub LetsGoClean : RunUse g → Type 0
  LetsGoClean unseen = ⊤
  LetsGoClean (unconnected found left) = AreClean g (files_left left).0 (files_left left).1
  LetsGoClean (connected image living last) = IsLetGoClean last
