-- What comes of closing the files of a connection, and of books.
use Rattle.std.specs.Prelude.{◌≡◌, Bool, true, false}
use Rattle.sqlite.specs.Closing.{IsCopied}
use Rattle.sqlite.specs.Files.{FailsToClose, IsClosed as ClosesAs, file_state}
use Rattle.sqlite.specs.Held.{Held}
use Rattle.sqlite.specs.State.{State}
use Rattle.sqlite.specs.declared.error.Error.{Error}
use Rattle.sqlite_disk.specs.declared.Disk.{Ghosts}
use Rattle.sqlite_disk.specs.declared.Files.{Files}
use Rattle.sqlite_store.specs.FileStore.{files, view}
use Rattle.sqlite_store.specs.declared.store.FileStore.{FileStore}
use Rattle.sqlite_trees.specs.Tree.{Trees}
use Rattle.sqlite_trees.specs.View.{IsClean}
use Rattle.sqlite_wal.specs.Reads.{AreClean}
use Rattle.books.specs.Keeps.{Seen}

-- so a connection to two files shows itself
pub record IsSeenAs {D : Type 0} {g : Ghosts D} (conn : Held (FileStore D g))
    (s : State) : Type 0 where
  pub now : s.now ≡ (file_state conn).now
  pub committed : s.committed ≡ (file_state conn).committed
  pub is_open : s.is_open ≡ (file_state conn).is_open
  pub is_clean : s.is_clean ≡ (file_state conn).is_clean
  pub faults : s.faults ≡ (file_state conn).faults
  pub left : (trees : Trees) → s.may_leave trees → (file_state conn).may_leave trees
  pub leaves : (trees : Trees) → (file_state conn).may_leave trees → s.may_leave trees

-- The files of a connection were closed: the database file alone holds what it last committed, and
-- holds it after a crash too; or there is a cause why they could not be closed. Either way a crash
-- leaves of the files nothing that it could not leave of the connection, and these files were let
-- go.
pub data AreClosed {D : Type 0} (g : Ghosts D) (LetsGo : (whole : Bool) → D → D → Type 0)
    (s : State) : Type 0 where
  closed : (conn : Held (FileStore D g)) (last : FileStore D g) (here : Files D)
      → IsSeenAs conn s
      → ClosesAs conn last → files last ≡ (here.log, here.db)
      → (AreClean g here.log here.db → IsCopied conn here) → LetsGo true here.log here.db
      → AreClosed g LetsGo s
  unclosed : (conn : Held (FileStore D g)) (last : FileStore D g) (error : Error)
      → IsSeenAs conn s → ClosesAs conn last
      → (IsClean (view last) → FailsToClose conn last error)
      → LetsGo false (files last).0 (files last).1 → AreClosed g LetsGo s

-- so were those of books
abbrev pub IsClosed : {D : Type 0} → (g : Ghosts D)
    → (LetsGo : (whole : Bool) → D → D → Type 0) → Seen → Type 0
IsClosed g LetsGo books = AreClosed g LetsGo books.state
