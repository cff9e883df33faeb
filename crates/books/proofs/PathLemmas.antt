-- An opening over a connection that was just made to the files of a path.
use Rattle.std.proofs.Common.{◌≡◌, false, None, arith, ◌∙◌}
use Rattle.sqlite.specs.Files.{IsBlankAs, file_state, over_files}
use Rattle.sqlite.specs.Held.{Held}
use Rattle.sqlite.specs.Start.{FindsIn}
use Rattle.sqlite.specs.State.{HasCleanDisk, IsLive, Opens, Survives}
use Rattle.sqlite_disk.specs.declared.Disk.{Ghosts}
use Rattle.sqlite_store.specs.FileStore.{view}
use Rattle.sqlite_store.specs.declared.store.FileStore.{FileStore}
use Rattle.sqlite_wal.specs.Recovery.{Image}
use Rattle.kept_order.specs.InOrder.{HasTablesInOrder}
use Rattle.office_rules.specs.Office.{Office}
use Rattle.book_states.specs.Stores.{StoreStandsFor}
use Rattle.book_opening.specs.Opening.{LeavesBrought, OpensAs}
use Rattle.books.specs.Found.{FindsOffice}
use Rattle.books.specs.Opens.{RefusesOver}
use Rattle.books.specs.Path.{IsConnected, OpensFiles, RefusesConnection, StandsIn}
use Rattle.book_opening.specs.declared.fault.OpenFault.{OpenFault}

-- a connection that was just opened stands for the office that its trees show
abbrev pub OpensAgain : (D : Type 0) → (g : Ghosts D) → Type 0
OpensAgain D g = (c : Held (FileStore D g)) (o : Office) → Opens (file_state c) → IsLive (file_state c)
    → FindsOffice (file_state c).committed.trees o → StoreStandsFor (file_state c) o

-- it has its tables in order
abbrev pub OpensInOrder : (D : Type 0) → (g : Ghosts D) → Type 0
OpensInOrder D g = (c : Held (FileStore D g)) → Opens (file_state c) → IsLive (file_state c) → HasTablesInOrder (file_state c).now

module _ {D : Type 0} {g : Ghosts D} where
  module _ (image : Image) (first last : Held (FileStore D g)) (opens : HasCleanDisk (file_state first) → Opens (file_state first) × IsLive (file_state first))
      (finds : HasCleanDisk (file_state first) → FindsIn image (file_state first)) (ordered : OpensInOrder D g)
      (none : (file_state first).step_limit ≡ None) where
    -- a connection that opens over files and has what they hold is connected to them
    pub connected : HasCleanDisk (file_state first) → IsConnected image (file_state first)
    connected clean =
        let it = finds clean in
        let open_is = opens clean in
        record {
          opens = open_is.0;
          live = open_is.1;
          in_order = ordered first open_is.0 open_is.1;
          found = record { holds = it.holds; reads = it.reads };
          unlimited = none;
        }

    -- an opening over such a connection opens the files
    pub opens_files : (HasCleanDisk (file_state first) → IsBlankAs false image → (view first.store).has_sums ≡ false)
        → (HasCleanDisk (file_state last) → OpensAs (file_state first) (file_state last))
        → Survives (file_state first) (file_state last) (LeavesBrought (file_state first)) → OpensFiles image last
    opens_files plain finds survives = record {
      first = first;
      connected = connected;
      plain = plain;
      finds = finds;
      survives = survives;
      unlimited = survives.limit ∙ none;
    }

    module _ (again : OpensAgain D g) where
      -- the connection first stands for the office that the files stand for
      pub stands_first : (o : Office) → HasCleanDisk (file_state first) → StandsIn image o → StoreStandsFor (file_state first) o
      stands_first o clean stands = let it = connected clean in again first o it.opens it.live (stands (file_state first).committed.trees it.found)

      -- an opening that fails over such a connection refuses the files for the same reason
      pub refuses_connection : (fault : OpenFault) → RefusesOver {S = FileStore D g} over_files first last fault → RefusesConnection image fault last
      refuses_connection fault told =
          let early : HasCleanDisk (file_state last) → HasCleanDisk (file_state first) = λ clean. omega (arith, told.survives.clean) in record {
            first = first;
            connected = connected;
            told = λ clean is o stands. told.other clean is o (stands_first o (early clean) stands);
            named = λ clean is. (told.named clean is).1;
            fails = told.fails;
            same = told.same;
            kept = λ clean o stands. told.refused clean o (stands_first o (early clean) stands);
            rests = told.rests;
            survives = told.survives;
          }
