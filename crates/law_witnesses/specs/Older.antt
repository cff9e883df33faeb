-- A file of an older format, from which no run has sold yet.
use Rattle.std.specs.Prelude.{◌≡◌, ℕ, List}
use Rattle.sqlite.specs.Closing.{HoldsAlone}
use Rattle.sqlite.specs.Files.{HoldsDatabase, image_of}
use Rattle.sqlite_disk.specs.declared.Disk as disk
use Rattle.sqlite_disk.specs.declared.Files.{Files}
use Rattle.sqlite_trees.specs.Tree.{Trees}
use Rattle.sqlite_wal.specs.Files.{outcomes}
use Rattle.sqlite_wal.specs.Recovery.{Image}
use Rattle.audit.specs.declared.audited.Audited.{Audited}
use Rattle.book_states.specs.Stores.{RecoversTo}
use Rattle.office_commands.specs.print.AuditLines.{sound_line}
use Rattle.office_rules.specs.Office.{IsOffice, Office}

-- two files hold one database, and so does all that a crash may leave of them
pub record HoldOne {M : Type 0} (g : disk.Ghosts M) (files : Files M) : Type 0 where
  pub trees : Trees
  pub seen : HoldsAlone (image_of g files) trees
  pub left : (image : Image) → outcomes g files.log files.db image → HoldsAlone image trees

-- a database that the files hold stands for an office
pub record HoldsOffice (image : Image) : Type 0 where
  pub office : Office
  pub is : IsOffice office
  pub holds : (trees : Trees) → HoldsDatabase image trees → RecoversTo trees office

-- an audit printed what it counted of an office, for which a database in the files stands
pub record IsAuditedAs (image : Image) (printed : List ℕ) : Type 0 where
  pub audited : Audited
  pub text_is : printed ≡ sound_line audited
  pub stands : HoldsOffice image
