-- What comes of opening an office in two files.
use Rattle.sqlite.specs.Held.{Held}
use Rattle.sqlite_disk.specs.declared.Disk.{Ghosts}
use Rattle.sqlite_store.specs.declared.store.FileStore.{FileStore}
use Rattle.sqlite_wal.specs.Recovery.{Image}
use Rattle.book_tables.specs.Holds.{IsUntaken}
use Rattle.books.specs.Keeps.{Seen}
use Rattle.books.specs.Path.{OpensFiles}
use Rattle.office_commands.specs.office.Closed.{IsSeenAs}

-- The books opened an office over a connection that was just made to the files. It was there, and
-- stays as it is, or it was made, or brought to the present format; and tables of other names stay
-- as they are.
pub record OpensIn {D : Type 0} (g : Ghosts D) (image : Image) (books : Seen) : Type 0 where
  pub conn : Held (FileStore D g)
  pub seen_as : IsSeenAs conn books.state
  pub opens : OpensFiles image conn

-- The same, of a database that had some of the office's tables, or something else under their
-- names: one that had none is not made an office.
pub record OpensThere {D : Type 0} (g : Ghosts D) (image : Image) (books : Seen) : Type 0 where
  pub opened : OpensIn g image books
  pub taken : ¬ IsUntaken opened.opens.first.schema
