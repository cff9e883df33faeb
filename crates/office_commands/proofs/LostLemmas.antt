-- What files hold that were lost.
use Rattle.std.proofs.Common.{◌∙◌, subst, sym}
use Rattle.std.proofs.Math.Logic.{∥∥₁_map}
use Rattle.sqlite.proofs.Theorems.{opens_again}
use Rattle.sqlite.specs.Files.{image_of}
use Rattle.sqlite.specs.Held.{Held}
use Rattle.sqlite.specs.declared.error.Error.{Error}
use Rattle.sqlite.specs.declared.file.Leftover.{Leftover}
use Rattle.sqlite_disk.specs.declared.Disk.{Ghosts}
use Rattle.sqlite_pool.proofs.StateLemmas.{clean_is, may_leave_is}
use Rattle.sqlite_store.specs.FileStore.{state, view}
use Rattle.sqlite_store.specs.declared.store.FileStore.{FileStore}
use Rattle.sqlite_trees.proofs.Doubt.{no_doubt}
use Rattle.sqlite_trees.specs.View.{IsClean}
use Rattle.sqlite_wal.proofs.LogLemmas.{SeenMayStay}
use Rattle.sqlite_wal.specs.Files.{outcomes}
use Rattle.sqlite_wal.specs.Reads.{AreClean}
use Rattle.sqlite_wal.specs.Recovery.{Image}
use Rattle.office_commands.specs.office.Lost.{FailsToReconnect, HoldWhatIsLeft, IsLeftOf}

module _ {D : Type 0} {g : Ghosts D} (stays : SeenMayStay g) (old : Held (FileStore D g)) (error : Error) (left : Leftover D g)
    (lost : FailsToReconnect old error left) (clean : AreClean g lost.here.log lost.here.db) where
  -- whatever a crash may leave of them is a database that the connection may leave
  left_of : (image : Image) → outcomes g lost.here.log lost.here.db image → IsLeftOf old image
  left_of image may =
      let store = lost.last in
      let honest = subst (λ p. AreClean g p.0 p.1) (sym lost.files) clean in
      let none : IsClean (view store) = no_doubt _ (clean_is store.pool ∙ honest) in
      let may_leave : (state store).may_leave image = may_leave_is store.pool image honest (subst (λ p. outcomes g p.0 p.1 image) (sym lost.files) may) in
      ∥∥₁_map (opens_again store (lost.numbered none) (lost.closed.sound none) image may_leave)
      (λ it. (it.0, lost.closed.quiet.outcomes it.0 it.1, it.2))

  -- and what they hold now is among that
  pub holds_what_is_left : HoldWhatIsLeft old lost.here
  holds_what_is_left = record { present = left_of (image_of g lost.here) (stays _, stays _); crash = left_of }
