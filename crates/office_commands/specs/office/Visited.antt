-- A visit to the office in a file: the opening of the file, what is done there, and the close.
use Rattle.std.specs.Prelude.{◌≡◌, false, []}
use Rattle.sqlite_trees.specs.declared.store.Store.{Ghosts}
use Rattle.sqlite_wal.specs.Recovery.{Image}
use Rattle.books.specs.Keeps.{BooksHaveTables, Represents, Seen, seen}
use Rattle.books.specs.Path.{StandsIn}
use Rattle.books.specs.declared.books.Books.{Books}
use Rattle.book_opening.specs.declared.fault.OpenFault.{OpenFault}
use Rattle.command_line.specs.Transform.{forward_of, shipped}
use Rattle.command_line.specs.declared.transform.Shipped.{Shipped}
use Rattle.vend_core.specs.Law.LifeLaws.{opened}
use Rattle.office_rules.specs.Office.{Office}
use Rattle.office_commands.specs.port.Places.{Place, where_present}
use Rattle.office_commands.specs.print.Opening.{opening_line}
use Rattle.vend_ports.specs.print.Told.{Outputs, IsTold}
use Rattle.vend_ports.specs.declared.command_end.CommandEnd.{CommandEnd}
use Rattle.vend_ports.specs.declared.command_end.CommandEnd.TheVariants.{Refused}

-- what is seen of books whose transform is one that ships
abbrev pub seen_in : {S : Type 0} → {store : Ghosts S} → Books S Shipped store shipped → Seen
seen_in books = seen books

-- Books that were just opened in these files: they keep the life that opens there, of each office
-- that the files stand for, and have its tables; no write has failed; and so they were opened.
pub record IsOpened {S : Type 0} {store : Ghosts S} (image : Image) (Opens : Seen → Type 0)
    (transform : Shipped) (books : Books S Shipped store shipped) : Type 0 where
  pub opens : (office : Office) → StandsIn image office
      → Represents (opened (forward_of transform) office) (seen_in books)
  pub running : books.stopped ≡ false
  pub writes : books.write_failed ≡ false
  pub tables : BooksHaveTables (seen_in books)
  pub finds : Opens (seen_in books)

-- the same, in the file at a place
abbrev pub IsOpenedAt : {S : Type 0} → {store : Ghosts S} → Place → Shipped
    → Books S Shipped store shipped → Type 0
IsOpenedAt place transform books = IsOpened place.image place.opens transform books

-- the same, in a file that was there
abbrev pub IsOpenedThere : {S : Type 0} → {store : Ghosts S} → Place → Shipped
    → Books S Shipped store shipped → Type 0
IsOpenedThere place transform books =
    IsOpenedAt (where_present place) transform books × place.meets

-- The file is not opened, and that is told, before anything is printed; or books are opened in it,
-- what is to be done is done there, and the file is closed as it was left.
pub data IsVisited {S : Type 0} (store : Ghosts S) (place : Place) (transform : Shipped)
    (Does : (old new : Seen) → Type 0) (o : Outputs) (end : CommandEnd) : Type 0 where
  unopened : (fault : OpenFault) → place.fails fault
      → IsTold o [] (opening_line fault) Refused end → IsVisited store place transform Does o end
  visited : (old new : Books S Shipped store shipped) → IsOpenedAt place transform old
      → place.finds → Does (seen_in old) (seen_in new)
      → place.closes (seen_in new) → IsVisited store place transform Does o end
