-- Books that were just opened, and the connections that they were opened over.
use Rattle.std.specs.Prelude.{◌≡◌, false, IsTrue}
use Rattle.sqlite.specs.Held.{Held, state}
use Rattle.sqlite.specs.State.{HasCleanDisk, Survives}
use Rattle.sqlite_trees.specs.declared.store.Store.{Ghosts}
use Rattle.sts_token.specs.Token.{BlockFunction}
use Rattle.sts_token.specs.declared.transform.BlockTransform as block
use Rattle.vend_core.specs.Law.LifeLaws.{opened}
use Rattle.office_rules.specs.Office.{Office}
use Rattle.book_opening.specs.NoOffice.{IsNoOffice}
use Rattle.book_opening.specs.Opening.{FailsToOpen, LeavesBrought, LeavesRefused, OpensAs}
use Rattle.book_opening.specs.declared.fault.OpenFault.{OpenFault}
use Rattle.book_opening.specs.declared.fault.OpenFault.TheVariants.{NotAnOffice}
use Rattle.book_states.specs.Same.{IsSame}
use Rattle.books.specs.Keeps.{BooksHaveTables, Represents, StoreStandsFor, seen}
use Rattle.books.specs.declared.books.Books.{Books}

-- They keep the life that opens there, of each office that is there, and they have its tables. They
-- are not stopped, and no write of theirs has failed.
pub record AreOpened {S T : Type 0} {g : Ghosts S} {h : block.Ghosts T} (IsThere : Office → Type 0)
    (forward : BlockFunction) (books : Books S T g h) : Type 0 where
  pub opens : (o : Office) → IsThere o → Represents (opened forward o) (seen books)
  pub tables : BooksHaveTables (seen books)
  pub running : books.stopped ≡ false
  pub writes : books.write_failed ≡ false

-- They opened the office that this connection's store stood for, as it was or brought to the
-- present format.
pub record OpensOver {S T : Type 0} {g : Ghosts S} {h : block.Ghosts T} (conn : Held S)
    (forward : BlockFunction) (opened : Books S T g h) : Type 0 where
  pub books : AreOpened (StoreStandsFor (state g conn)) forward opened
  pub finds : HasCleanDisk (state g opened.conn)
      → OpensAs (state g conn) (state g opened.conn)
  pub survives : Survives (state g conn) (state g opened.conn) (LeavesBrought (state g conn))

-- None was opened over this connection, which comes back. It is in no transaction and has what it
-- had, and its store stands for what it stood for. A fault that names the file is true of it, by
-- what its database shows, and another has a cause.
pub record RefusesOver {S : Type 0} (g : Ghosts S) (conn back : Held S) (fault : OpenFault)
    : Type 0 where
  pub other : HasCleanDisk (state g back) → fault ≡ NotAnOffice → (o : Office)
      → ¬ StoreStandsFor (state g conn) o
  pub named : HasCleanDisk (state g back) → fault ≡ NotAnOffice
      → IsTrue (state g conn).is_open × IsNoOffice (state g conn).now
  pub fails : HasCleanDisk (state g back) → FailsToOpen g (state g conn) (state g back) fault
  pub same : HasCleanDisk (state g back) → IsSame (state g conn) (state g back)
  pub refused : HasCleanDisk (state g back) → (o : Office) → StoreStandsFor (state g conn) o
      → StoreStandsFor (state g back) o
  pub rests : back.in_transaction ≡ false
  pub survives : Survives (state g conn) (state g back) (LeavesRefused (state g conn) fault)
