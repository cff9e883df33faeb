-- A file that is looked at and not made, and one that has no office.
use Rattle.std.specs.Prelude.{◌≡◌, ◌<◌, ◌≤◌, ◌⊎◌, false, length, None}
use Rattle.sqlite.specs.Files.{IsBlankAs, IsNothing, file_state, image_of}
use Rattle.sqlite.specs.Held.{Held}
use Rattle.sqlite.specs.State.{HasCleanDisk}
use Rattle.sqlite_disk.specs.declared.Disk.{Ghosts}
use Rattle.sqlite_disk.specs.declared.Files.{Files}
use Rattle.sqlite_store.specs.FileStore.{view}
use Rattle.sqlite_store.specs.declared.store.FileStore.{FileStore}
use Rattle.sqlite_wal.specs.Files.{outcomes, seen_image}
use Rattle.sqlite_wal.specs.Reads.{AreClean}
use Rattle.sqlite_wal.specs.Recovery.{Image}
use Rattle.book_tables.specs.Holds.{IsUntaken}
use Rattle.books.specs.Path.{AreTakenFrom, IsConnected, StandsIn}
use Rattle.books.specs.declared.refused_files.RefusedFiles.TheVariants.{Connected}
use Rattle.office_rules.specs.Office.{Office, empty_office}

-- These files were met, and since then only their lengths were taken: they hold what they held, and
-- a crash leaves nothing new.
pub record AreMeasured {D : Type 0} (g : Ghosts D) (meets : D → D → Type 0) (log db : D) : Type 0
  where
    pub found : Files D
    pub met : meets found.log found.db
    pub seen : seen_image g log db ≡ image_of g found
    pub crash : (after : Image) → outcomes g log db after → outcomes g found.log found.db after

-- There is too little for a database: the database file is empty, or it has one byte, as one that
-- is just being made, and no frame stands in the log.
abbrev pub IsTooShort : Image → Type 0
IsTooShort image =
    (length image.db ≡ 0) ⊎ ((length image.db ≤ 1) × (length image.log < 56))

module _ {D : Type 0} (g : Ghosts D) where
  -- nothing was ever written in these files: they hold what was found, which is no database yet,
  -- and after a crash they hold none either
  pub record IsBlank (image : Image) (left : Files D) : Type 0 where
    pub seen : image_of g left ≡ image
    pub nothing : AreClean g left.log left.db → IsNothing image
    pub crash : AreClean g left.log left.db → (after : Image)
        → outcomes g left.log left.db after → IsNothing after

  -- A connection was just made to the files, and a new file was made with no sums on its pages.
  pub record IsConnection (image : Image) (conn : Held (FileStore D g)) : Type 0 where
    pub connected : HasCleanDisk (file_state conn) → IsConnected image (file_state conn)
    pub plain : HasCleanDisk (file_state conn) → IsBlankAs false image
        → (view conn.store).has_sums ≡ false
    pub rests : conn.in_transaction ≡ false
    pub unlimited : (file_state conn).step_limit ≡ None

  -- Its database has none of the office's tables, so the files stand for no office but the empty
  -- one.
  pub record IsWithout (image : Image) (conn : Held (FileStore D g)) : Type 0 where
    pub made : IsConnection image conn
    pub untaken : IsUntaken conn.schema
    pub only : HasCleanDisk (file_state conn) → (o : Office) → StandsIn image o
        → o ≡ empty_office

  -- The files have none of the office's tables, and were let go as they were found: nothing was
  -- done over the connection, where one was made.
  pub data IsVacant (image : Image) (LetsGo : D → D → Type 0) : Type 0 where
    blank : (left : Files D) → IsBlank image left → LetsGo left.log left.db
        → IsVacant image LetsGo
    without : (conn : Held (FileStore D g)) (left : Files D) → IsWithout image conn
        → AreTakenFrom (Connected conn) left → LetsGo left.log left.db → IsVacant image LetsGo

  -- The connection was just made to files that were met, and their database has some of the
  -- office's tables, or something else under their names.
  pub record IsThere (image : Image) (meets : D → D → Type 0) (conn : Held (FileStore D g)) : Type 0
    where
      pub files : Files D
      pub measured : AreMeasured g meets files.log files.db
      pub seen : image_of g files ≡ image
      pub made : IsConnection image conn
      pub taken : ¬ IsUntaken conn.schema
