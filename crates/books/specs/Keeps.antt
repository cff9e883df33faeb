-- How books keep a life: what their connection has, and what a crash may leave.
use Rattle.std.specs.Prelude.{◌≡◌, ◌⊎◌, ℕ, ◌+◌, ◌-◌, Bool, false, length, Option, true}
use Rattle.sqlite.specs.Held.{state}
use Rattle.sqlite.specs.State.{HasCleanDisk, State}
use Rattle.sqlite_trees.specs.Tree.{Trees}
use Rattle.sqlite_trees.specs.declared.store.Store.{Ghosts}
use Rattle.sts_token.specs.Token.{BlockFunction}
use Rattle.sts_token.specs.declared.transform.BlockTransform as block
use Rattle.vend_core.specs.Law.Life.{IsLife, Life, MayLeave}
use Rattle.vend_core.specs.Law.LifeLaws.{IsRunning}
use Rattle.office_rules.specs.Office.{IsOffice, Office}
use Rattle.book_tables.specs.reading.Reading.{HasAllTables}
use Rattle.book_edits.specs.Transaction.{HasBeen}
use Rattle.book_states.specs.Health.{last_moment}
use Rattle.book_states.specs.declared.lookup.Health.{Health}
pub use Rattle.book_states.specs.Stores.{RecoversTo, StoreStandsFor, Stores}
use Rattle.books.specs.declared.books.Books.{Books}

-- what contracts see of books
pub record Seen : Type 1 where
  pub state : State
  pub forward : BlockFunction
  pub stopped : Bool
  pub next_number : ℕ
  pub last_moment : Option ℕ
  pub write_failed : Bool
  -- what is said of a connection is true of some connection over the same store, at some time
  pub been : (State → Type 0) → Type 0

abbrev pub seen : {S : Type 0} → {T : Type 0} → {g : Ghosts S} → {h : block.Ghosts T}
    → Books S T g h → Seen
seen {g = g} {h = h} books = record {
  state = state g books.conn;
  forward = h.forwards books.transform;
  stopped = books.stopped;
  next_number = books.next_number;
  last_moment = books.last_moment;
  write_failed = books.write_failed;
  been = HasBeen g;
}

-- what the books know of their office without a read
abbrev pub health_of : Seen → Health
health_of books = record {
  sales = books.next_number - 1;
  last_moment = books.last_moment;
  write_failed = books.write_failed;
}

-- they know the same as before
pub record KnowTheSame (old new : Seen) : Type 0 where
  pub next : new.next_number ≡ old.next_number
  pub last : new.last_moment ≡ old.last_moment
  pub writes : new.write_failed ≡ old.write_failed

-- it says this of what is seen of books before a call and after it
abbrev pub Across : {S T : Type 0} → {g : Ghosts S} → {h : block.Ghosts T}
    → (Seen → Seen → Type 0) → Books S T g h → Books S T g h → Type 0
Across Says old new = Says (seen old) (seen new)

-- the same, and books that were stopped stay as they are
pub record UnlessStopped {S T : Type 0} {g : Ghosts S} {h : block.Ghosts T}
    (Says : Seen → Seen → Type 0) (old new : Books S T g h) : Type 0 where
  pub says : Across Says old new
  pub idle : old.stopped ≡ true → new ≡ old

-- Books that are not stopped have the office's tables, as long as the disk returns what was
-- written. Nothing is said of the rows: they may be those of no office.
abbrev pub BooksHaveTables : Seen → Type 0
BooksHaveTables books = HasCleanDisk books.state → books.stopped ≡ false → HasAllTables books.state

-- this is the number of the office's next sale, or one too small
abbrev pub IsNextOrOneBefore : Office → ℕ → Type 0
IsNextOrOneBefore o next = (next ≡ length o.sales + 1) ⊎ (next ≡ length o.sales)

-- while no request is in doubt, the tables hold the present office of the life
pub record IsPresent (life : Life) (books : Seen) : Type 0 where
  pub present : Office
  pub running : IsRunning life present
  pub at : Stores books.state present
  pub next : books.next_number ≡ length present.sales + 1
  pub last : books.last_moment ≡ last_moment present

-- The life is that of the books. All that a crash may leave stands for an office that the life may
-- leave, and books that are not stopped hold its present office. Of each of these offices the next
-- number is at most one too small.
pub record IsRepresented (life : Life) (books : Seen) : Type 0 where
  pub opening : IsOffice life.opening
  pub is_life : IsLife life
  pub forward : life.forward ≡ books.forward
  pub left : (trees : Trees) → books.state.may_leave trees
      → (o : Office) × MayLeave life o × RecoversTo trees o
  pub running : books.stopped ≡ false → IsPresent life books
  pub numbered : (o : Office) → MayLeave life o → IsNextOrOneBefore o books.next_number

-- books keep a life, as long as the disk returns what was written
abbrev pub Represents : Life → Seen → Type 0
Represents life books = HasCleanDisk books.state → IsRepresented life books

-- so it is of each life that the books keep, as long as the disk returns what was written
abbrev pub OfEachLife : {S T : Type 0} → {g : Ghosts S} → {h : block.Ghosts T} → Books S T g h
    → (Life → Type 0) → Type 0
OfEachLife books Says =
    HasCleanDisk (seen books).state → (life : Life) → Represents life (seen books) → Says life
