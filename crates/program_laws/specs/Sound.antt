-- What `audit` has shown where it ends as done.
use Rattle.std.specs.Prelude.{◌≤◌, Bool, Option}
use Rattle.sqlite.specs.Effect.{Database}
use Rattle.sqlite.specs.Files.{file_state}
use Rattle.sqlite.specs.Held.{Held}
use Rattle.sqlite.specs.State.{HasCleanDisk}
use Rattle.sqlite_disk.specs.declared.Disk.{Ghosts}
use Rattle.sqlite_store.specs.declared.store.FileStore.{FileStore}
use Rattle.sqlite_wal.specs.Recovery.{Image}
use Rattle.kept_order.specs.InOrder.{HasTablesInOrder}
use Rattle.sts_token.specs.Token.{BlockFunction}
use Rattle.book_tables.specs.Holds.{StandsFor}
use Rattle.audit.specs.Audited.{IsSound}
use Rattle.audit.specs.declared.audited.Audited.{Audited}
use Rattle.books.specs.Path.{MayFind}
use Rattle.office_commands.specs.office.Closed.{AreClosed}
use Rattle.office_commands.specs.print.AuditLines.{sound_line}
use Rattle.vend_ports.specs.print.Told.{Outputs, Takes}

-- The output was given what was counted, in the tables of some format. The database is one that an
-- opening of the files may find, and it stands for an office that requests may lead to, whose
-- tokens the transform that was given wrote, where one was, with these counts: as long as the disk
-- returned what was written up to the close.
pub record EndsSound {D : Type 0} (g : Ghosts D) (image : Image)
    (LetsGo : (whole : Bool) → D → D → Type 0) (given : Option BlockFunction) (o : Outputs) : Type 0
  where
    pub audited : Audited
    pub some : 1 ≤ audited.format
    pub printed : Takes o.old o.new (sound_line audited)
    pub last : Held (FileStore D g)
    pub closed : AreClosed g LetsGo (file_state last)
    pub passes : HasCleanDisk (file_state last)
        → (db : Database) × MayFind image db.trees × HasTablesInOrder db
        × (sound : IsSound given db audited) × StandsFor db sound.office
