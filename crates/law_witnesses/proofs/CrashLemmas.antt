-- Files after a crash.
use Rattle.sqlite.specs.Files.{image_of}
use Rattle.sqlite_disk.specs.declared.Disk as disk
use Rattle.sqlite_disk.specs.declared.Files.{Files}
use Rattle.sqlite_wal.specs.Recovery.{Image}
use Rattle.program_laws.specs.runs.Files.{AreFoundSo}
use Rattle.law_witnesses.specs.Runs.{IsLeftOf}

-- what holds of all that a crash may leave of files holds of what one left, and of all that the next one may leave
pub found_after : {M : Type 0} (g : disk.Ghosts M) (old new : Files M) (Holds : Image → Type 0) → IsLeftOf g old.log new.log
    → IsLeftOf g old.db new.db → AreFoundSo g old Holds → AreFoundSo g new Holds
found_after g old new Holds log db found = (
  found.1 (image_of g new) (log.left, db.left),
  λ image may. found.1 image (log.no_more image.log may.0, db.no_more image.db may.1),
)
