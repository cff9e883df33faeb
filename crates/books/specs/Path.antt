-- What the files at a path stand for, by what they hold, and what an opening makes of them.
use Rattle.std.specs.Prelude.{◌≡◌, ◌⊎◌, false, Option, Some, None}
use Rattle.sqlite.specs.Closing.{files_left}
use Rattle.sqlite.specs.Files.{AreFoundIn, FailsToOpenFiles, HoldsDatabase, IsBlankAs, IsCleanLeft}
use Rattle.sqlite.specs.Files.{IsClosed, LeavesFiles, file_state, image_of, over_files}
use Rattle.sqlite.specs.Held.{Held}
use Rattle.sqlite.specs.State.{HasCleanDisk, IsLive, Opens, State, Survives}
use Rattle.sqlite.specs.declared.error.Error.{Error}
use Rattle.sqlite.specs.declared.file.Leftover.{Leftover}
use Rattle.sqlite_disk.specs.declared.Disk.{Ghosts}
use Rattle.sqlite_disk.specs.declared.Files.{Files}
use Rattle.sqlite_store.specs.FileStore.{files as store_files, view}
use Rattle.sqlite_store.specs.declared.store.FileStore.{FileStore}
use Rattle.sqlite_trees.specs.Tree.{Trees}
use Rattle.sqlite_trees.specs.declared.store.Store as stores
use Rattle.sqlite_wal.specs.Recovery.{Image}
use Rattle.sts_token.specs.Token.{BlockFunction}
use Rattle.sts_token.specs.declared.transform.BlockTransform as block
use Rattle.kept_order.specs.InOrder.{HasTablesInOrder}
use Rattle.office_rules.specs.Office.{Office}
use Rattle.book_states.specs.Stores.{StoreStandsFor}
use Rattle.book_opening.specs.NoOffice.{IsNoOffice}
use Rattle.book_opening.specs.Opening.{FailsToOpen, LeavesBrought, LeavesRefused, OpensAs, fault_of}
use Rattle.book_states.specs.Same.{IsSame}
use Rattle.book_opening.specs.declared.fault.OpenFault.{OpenFault}
use Rattle.book_opening.specs.declared.fault.OpenFault.TheVariants.{NotAnOffice, Store, Memory}
use Rattle.books.specs.Found.{FindsOffice}
use Rattle.books.specs.Opens.{AreOpened}
use Rattle.books.specs.declared.books.Books.{Books}
use Rattle.books.specs.declared.refused_files.RefusedFiles.{RefusedFiles}
use Rattle.books.specs.declared.refused_files.RefusedFiles.TheVariants.{Connected, Unconnected}

-- an opening of the files may find these trees: those that they hold, where they hold a database,
-- and none where nothing has been made yet
pub record MayFind (image : Image) (trees : Trees) : Type 0 where
  pub holds : (db : Trees) → HoldsDatabase image db → trees ≡ db
  pub reads : AreFoundIn image trees

-- The files stand for the office: whatever an opening of them may find shows it. The hidden numbers
-- of rows need not be looked at, since a store keeps rows in their order (`found_law`).
abbrev pub StandsIn : Image → Office → Type 0
StandsIn image o = (trees : Trees) → MayFind image trees → FindsOffice trees o

-- A connection was just made to the files, and has what they hold. The rows of each table are in
-- the order of their numbers. No limit on the steps of a statement is set.
pub record IsConnected (image : Image) (s : State) : Type 0 where
  pub opens : Opens s
  pub live : IsLive s
  pub in_order : HasTablesInOrder s.now
  pub found : MayFind image s.committed.trees
  pub unlimited : s.step_limit ≡ None

module _ {D : Type 0} {g : Ghosts D} where
  -- An office was opened over a connection that was just made to the files, and a new file was made
  -- with no sums on its pages. No limit on the steps of a statement is set.
  pub record OpensFiles (image : Image) (last : Held (FileStore D g)) : Type 0 where
    pub first : Held (FileStore D g)
    pub connected : HasCleanDisk (file_state first) → IsConnected image (file_state first)
    pub plain : HasCleanDisk (file_state first) → IsBlankAs false image
        → (view first.store).has_sums ≡ false
    pub finds : HasCleanDisk (file_state last) → OpensAs (file_state first) (file_state last)
    pub survives : Survives (file_state first) (file_state last) (LeavesBrought (file_state first))
    pub unlimited : (file_state last).step_limit ≡ None

  -- Books keep the office that opens there, of each one that the files stand for, and it was opened
  -- so.
  pub record AreOpenedIn {T : Type 0} {store : stores.Ghosts (FileStore D g)} {h : block.Ghosts T}
      (image : Image) (forward : BlockFunction) (opened : Books (FileStore D g) T store h) : Type 0
    where
      pub books : AreOpened (StandsIn image) forward opened
      pub finds : OpensFiles image opened.conn

  -- None was opened over a connection that was just made to the files. A fault that names the file
  -- is true of it, by what its database shows, and another has a cause. The connection has what it
  -- had, and what the files stood for it stands for; a crash leaves nothing new, but after Store
  -- maybe the office in the present format.
  pub record RefusesConnection (image : Image) (fault : OpenFault) (last : Held (FileStore D g)) :
      Type 0 where
    pub first : Held (FileStore D g)
    pub connected : HasCleanDisk (file_state first) → IsConnected image (file_state first)
    pub told : HasCleanDisk (file_state last) → fault ≡ NotAnOffice
        → (o : Office) → ¬ StandsIn image o
    pub named : HasCleanDisk (file_state last) → fault ≡ NotAnOffice
        → IsNoOffice (file_state first).now
    pub fails : HasCleanDisk (file_state last)
        → FailsToOpen {S = FileStore D g} over_files (file_state first) (file_state last) fault
    pub same : HasCleanDisk (file_state last) → IsSame (file_state first) (file_state last)
    pub kept : HasCleanDisk (file_state last) → (o : Office) → StandsIn image o
        → StoreStandsFor (file_state last) o
    pub rests : last.in_transaction ≡ false
    pub survives : Survives (file_state first) (file_state last)
        (LeavesRefused (file_state first) fault)

  -- No connection could be made, for a reason that is the database's, so that the fault names no
  -- file. The files may leave what they might have left before, or what stands for the same; only
  -- where there was no database, an empty one may have been begun.
  pub record RefusesToConnect (files : Files D) (fault : OpenFault) (left : Leftover D g) : Type 0
    where
      pub error : Error
      pub answered : fault ≡ fault_of error
      pub fails : IsCleanLeft left → FailsToOpenFiles files left error
      pub kept : IsCleanLeft left → LeavesFiles files left

  -- what is given back of files in which no office was opened
  abbrev pub RefusesFiles : Files D → OpenFault → RefusedFiles D g → Type 0
  RefusesFiles files fault (Connected last) = RefusesConnection (image_of g files) fault last
  RefusesFiles files fault (Unconnected left) = RefusesToConnect files fault left

  -- these are the files, which were taken from what was given back
  abbrev pub AreTakenFrom : RefusedFiles D g → Files D → Type 0
  AreTakenFrom (Connected last) files =
      (store : FileStore D g) × (store_files store ≡ (files.log, files.db)) × IsClosed last store
  AreTakenFrom (Unconnected left) files = files_left left ≡ (files.log, files.db)

  -- The same at a path. Of one that is not opened the database tells nothing but its error, so
  -- where no connection could be made, the fault names no file.
  abbrev pub RefusesPath : Image → OpenFault → Option (Held (FileStore D g)) → Type 0
  RefusesPath image fault (Some last) = RefusesConnection image fault last
  RefusesPath image fault None = (fault ≡ Store) ⊎ (fault ≡ Memory)
