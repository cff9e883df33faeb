-- The files of a connection that was ended.
use Rattle.std.proofs.Common.{◌≡◌, Bool, true, false, Result, Ok, Err, IfErr, IfOk, IsTrue, refl}
use Rattle.sqlite.specs.Closing.{IsCopied}
use Rattle.sqlite.specs.Files.{FailsToClose, IsClosed, file_state}
use Rattle.sqlite.specs.Held.{Held}
use Rattle.sqlite.specs.declared.error.Error.{Error}
use Rattle.sqlite_disk.specs.declared.Disk.{Ghosts}
use Rattle.sqlite_disk.specs.declared.Files.{Files}
use Rattle.sqlite_store.specs.FileStore.{files as store_files, log_frames, view}
use Rattle.sqlite_store.specs.declared.store.FileStore.{FileStore}
use Rattle.sqlite_trees.specs.View.{IsClean}
use Rattle.sqlite_wal.specs.Reads.{AreClean}
use Rattle.whole_rows.specs.Ended.{EndsIn}
use Rattle.office_commands.specs.office.Closed.{AreClosed, IsSeenAs}
use Rattle.office_commands.specs.office.Closed.AreClosed.{closed, unclosed}

module _ {D : Type 0} {g : Ghosts D} (conn : Held (FileStore D g)) where
  -- a connection shows itself
  seen_as : IsSeenAs conn (file_state conn)
  seen_as = record { now = refl; committed = refl; is_open = refl; is_clean = refl; faults = refl; left = λ trees may. may; leaves = λ trees may. may }

  -- it was closed,
  pub ends_closed : (end : Result (Files D) (Error × FileStore D g))
      → IfOk end (λ files. (last : FileStore D g) × (store_files last ≡ (files.log, files.db)) × IsClosed conn last
      × (IsClean (view last) → IsTrue (view last).is_open × (log_frames last ≡ 0)))
      → IfOk end (λ files. AreClean g files.log files.db → IsCopied conn files)
      → IfErr end (λ e. IsClosed conn e.1 × (IsClean (view e.1) → FailsToClose conn e.1 e.0)) → EndsIn conn end
  ends_closed (Ok files) ok copied err = record { closed = (ok.0, ok.1, ok.2, copied); unclosed = tt }
  ends_closed (Err e) ok copied err = record { closed = tt; unclosed = err }

  -- and its files were let go
  pub are_closed : (LetsGo : (whole : Bool) → D → D → Type 0) (end : Result (Files D) (Error × FileStore D g)) → EndsIn conn end
      → IfOk end (λ files. LetsGo true files.log files.db) → IfErr end (λ e. LetsGo false (store_files e.1).0 (store_files e.1).1)
      → AreClosed g LetsGo (file_state conn)
  are_closed LetsGo (Ok files) ends let_go none = let at = ends.closed in closed conn at.0 files seen_as at.2 at.1 at.3 let_go
  are_closed LetsGo (Err e) ends none let_go = unclosed conn e.1 e.0 seen_as ends.unclosed.0 ends.unclosed.1 let_go
