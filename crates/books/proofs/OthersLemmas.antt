-- What books have of the office's own tables, and leave of the tables of other names.
use Rattle.vend_core.specs.Law.Life.{Life}
use Rattle.books.specs.Keeps.{BooksHaveTables, Represents, Seen}
pub use Rattle.book_states.proofs.OthersLemmas.{others_same, others_then}

-- books that keep a life have the tables
pub kept_tables : (life : Life) (books : Seen) → Represents life books → BooksHaveTables books
kept_tables life books keeps clean runs is_open = (((keeps clean).running runs).at.members is_open).1.has
