-- The disk returned what was written, where the files that were let go did.
use Rattle.std.proofs.Common.{◌≡◌, ◌∙◌, Bool, ap, arith, refl, subst, sym}
use Rattle.sqlite.specs.Closing.{files_left}
use Rattle.sqlite.specs.Files.{IsCleanLeft, IsClosed as ClosesAs, file_state}
use Rattle.sqlite.specs.Held.{Held}
use Rattle.sqlite.specs.State.{HasCleanDisk, State}
use Rattle.sqlite.specs.declared.file.Leftover.{Leftover}
use Rattle.sqlite.specs.declared.file.Leftover.TheVariants as leftover
use Rattle.sqlite_disk.specs.declared.Disk as disk
use Rattle.sqlite_disk.specs.declared.Files.{Files}
use Rattle.sqlite_pool.proofs.StateLemmas.{clean_is}
use Rattle.sqlite_store.specs.FileStore.{files as store_files, view}
use Rattle.sqlite_store.specs.declared.store.FileStore.{FileStore}
use Rattle.sqlite_trees.proofs.Doubt.{no_doubt}
use Rattle.sqlite_trees.specs.View.{IsClean, doubt}
use Rattle.sqlite_wal.specs.Reads.{AreClean}
use Rattle.books.specs.Path.{AreTakenFrom}
use Rattle.books.specs.declared.refused_files.RefusedFiles.TheVariants.{Connected}
use Rattle.office_commands.specs.office.Closed.{AreClosed}
use Rattle.office_commands.specs.office.Closed.AreClosed.{closed, unclosed}
use Rattle.program_laws.specs.runs.Uses.{closed_files}

module _ {M : Type 0} {disk : disk.Ghosts M} where
  -- a connection had a clean disk if its files were clean once it was closed
  pub closed_clean : (conn : Held (FileStore M disk)) (last : FileStore M disk) (log db : M) → ClosesAs conn last → store_files last ≡ (log, db)
      → AreClean disk log db → HasCleanDisk (file_state conn)
  closed_clean conn last log db closes files clean =
      let honest = subst (λ (f : _ × _). AreClean disk f.0 f.1) (sym files) clean in
      let none : IsClean (view last) = no_doubt _ (clean_is last.pool ∙ honest) in
      omega (arith, closes.quiet.clean, none)

  -- or taken from it
  pub taken_clean : (conn : Held (FileStore M disk)) (left : Files M) → AreTakenFrom (Connected conn) left → AreClean disk left.log left.db
      → HasCleanDisk (file_state conn)
  taken_clean conn left (store, files, closes) clean = closed_clean conn store left.log left.db closes files clean

  -- so had what shows itself as one, however it was closed
  pub shut_clean : {LetsGo : (whole : Bool) → M → M → Type 0} {s : State} (shut : AreClosed disk LetsGo s)
      → AreClean disk (closed_files shut).log (closed_files shut).db → HasCleanDisk s
  shut_clean (closed conn last here seen closes files copied gone) clean =
      ap doubt seen.is_clean ∙ closed_clean conn last here.log here.db closes files clean
  shut_clean (unclosed conn last error seen closes fails gone) clean =
      ap doubt seen.is_clean ∙ closed_clean conn last (store_files last).0 (store_files last).1 closes refl clean

  -- and so is what is left of files to which no connection could be made
  pub clean_left : (left : Leftover M disk) → AreClean disk (files_left left).0 (files_left left).1 → IsCleanLeft left
  clean_left (leftover.Files files) clean = clean
  clean_left (leftover.Unopened files) clean = clean_is files.pool ∙ clean
  clean_left (leftover.Store it) clean = clean_is it.pool ∙ clean
