-- A SELECT of all columns of all rows of a table.
use Rattle.std.specs.Prelude.{◌≡◌, ◌⊎◌, ℕ, List, [], IsTrue, if◌then◌else◌, map}
use Rattle.sqlite.specs.State.{IsUnchanged, State}
use Rattle.sqlite.specs.declared.error.Error.{Error}
use Rattle.sqlite.specs.declared.error.Error.TheVariants.{SqliteFailure}
use Rattle.sqlite.specs.declared.error.ErrorCode.TheVariants.{DatabaseCorrupt, OutOfMemory}
use Rattle.sqlite_resolve.specs.Scope.{Name}
use Rattle.sqlite_schema.specs.declared.schema.Schema.{Schema}
use Rattle.sqlite_schema.specs.declared.schema.Table.{Table}
use Rattle.sqlite_sql.specs.Query.{Query}
use Rattle.sqlite_sql.specs.Term.{Term, col}
use Rattle.sqlite_value.specs.declared.keys.Key.{Key}
use Rattle.one_table.specs.Listed.{no_limit, query_on, rising}
use Rattle.one_table.specs.Place.{Has}
use Rattle.one_table.specs.Reading.{FailsPlainly}
use Rattle.one_table.specs.Standing.{place_in, tree_in}
use Rattle.one_table.specs.declared.read_fault.ReadFault.{ReadFault}
use Rattle.one_table.specs.declared.read_fault.ReadFault.TheVariants as fault
use Rattle.book_tables.specs.Holds.{IsKept}
use Rattle.book_tables.specs.Kept.{Kept}
use Rattle.book_tables.proofs.ReadingLemmas.ReadLemmas.{Asks}
use Rattle.audit_rows.specs.Whole.{places}

-- rows that have numbers come by them
abbrev pub order_of : Kept → List (Term × Key)
order_of k = if k.is_numbered then rising 0 else []

abbrev pub list_query_by : Kept → List (Term × Key) → ℕ → Query
list_query_by k order tree = query_on tree [] (map (col 1) (places k)) order no_limit

abbrev pub list_query : Kept → ℕ → Query
list_query k tree = list_query_by k (order_of k) tree

abbrev pub column_names : Kept → List Name
column_names k = map (λ c. c.name) k.table.columns

-- the text asks for all columns of all rows of the table, wherever it stands
pub record ListsAll (k : Kept) (text : List ℕ) : Type 0 where
  pub table : ℕ → Table
  pub asks : Asks table (list_query k) (column_names k) text []
  pub stands : (s : Schema) → IsKept s k
      → Has s (place_in s k.table.name) (table (tree_in s k.table.name))

-- why a table is not read: what the database refuses plainly, where it is open, or want of memory
abbrev pub FailsToList : State → State → Error → Type 0
FailsToList old new e =
    (IsTrue old.is_open → FailsPlainly old new e)
    ⊎ ((e ≡ SqliteFailure OutOfMemory) × IsUnchanged old new)

-- what is told of a reader's fault: where the disk is clean, no row of a list is refused
abbrev pub cause_of : ReadFault → Error
cause_of (fault.Database e) = e
cause_of fault.Row = SqliteFailure DatabaseCorrupt
