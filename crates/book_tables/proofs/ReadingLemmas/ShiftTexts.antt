-- What each text over the table of shifts means.
use Rattle.std.proofs.Common.{ℕ, List, [], ◌∷◌, refl, codes, pos}
use Rattle.sqlite.specs.declared.types.Value.TheVariants.{Int, Null, Text}
use Rattle.sqlite_value.specs.declared.keys.Collation.TheVariants.{Binary}
use Rattle.sqlite_sql.specs.Query.{Query}
use Rattle.sqlite_sql.specs.Term.{Term, lit, col, op2}
use Rattle.sqlite_sql.specs.declared.ops.BinaryOp.TheVariants.{Compare, Is}
use Rattle.sqlite_sql.specs.declared.ops.CompareOp.TheVariants.{Eq}
use Rattle.sqlite_tied.specs.Compute.{everything}
use Rattle.sqlite_resolve.specs.Scope.{Name}
use Rattle.one_table.specs.Listed.{query_on, no_limit, falling}
use Rattle.one_table.specs.Reading.{is_whole, meant, select_meant, text_meant}
use Rattle.book_tables.specs.row.Rows.{number}
use Rattle.book_tables.specs.Tables.{shifts_table}
use Rattle.book_tables.proofs.ReadingLemmas.ReadLemmas.{Asks}
pub use Rattle.book_tables.specs.reading.Questions.{last_shift_text, open_shift_text, shift_numbered_text}

-- all columns of a shift, its number first
abbrev pub shift_terms : List Term
shift_terms = col 1 0 ∷ col 1 2 ∷ col 1 3 ∷ col 1 4 ∷ []

-- the names of these columns, in the same order
abbrev pub shift_names : List Name
shift_names = codes "number" ∷ codes "operator" ∷ codes "opened" ∷ codes "closed" ∷ []

abbrev has_number : List Term
has_number = op2 (Compare Eq Binary) (col 1 0) (col 0 0) ∷ []

-- a read of the shifts whose number is the parameter
abbrev pub shift_numbered_query : ℕ → Query
shift_numbered_query tree = query_on tree has_number shift_terms [] no_limit

-- the text means that read, with the shift's number as its parameter
pub shift_numbered_asks : (n : ℕ) → Asks shifts_table shift_numbered_query shift_names shift_numbered_text (number n ∷ [])
unfolding everything is_whole meant select_meant text_meant
shift_numbered_asks n =
    record { is = λ tree. record { means = refl; from = refl }; bare = λ tree. refl; typed = λ tree. refl; whole = refl }

abbrev is_open : List Term
is_open = op2 (Compare Eq Binary) (col 1 2) (col 0 0) ∷ op2 (Is Binary) (col 1 4) (lit Null) ∷ []

-- a read of the last shift of an operator that is not closed
abbrev pub open_shift_query : ℕ → Query
open_shift_query tree = query_on tree is_open shift_terms (falling 0) (lit (Int (pos 1)))

-- the text means that read, with the operator as its parameter
pub open_shift_asks : (operator : List ℕ) → Asks shifts_table open_shift_query shift_names open_shift_text (Text operator ∷ [])
unfolding everything is_whole meant select_meant text_meant
open_shift_asks operator =
    record { is = λ tree. record { means = refl; from = refl }; bare = λ tree. refl; typed = λ tree. refl; whole = refl }

-- a read of the number of the last shift
abbrev pub last_shift_query : ℕ → Query
last_shift_query tree = query_on tree [] (col 1 0 ∷ []) (falling 0) (lit (Int (pos 1)))

-- the text means that read, without parameters
pub last_shift_asks : Asks shifts_table last_shift_query (codes "number" ∷ []) last_shift_text []
unfolding everything is_whole meant select_meant text_meant
last_shift_asks =
    record { is = λ tree. record { means = refl; from = refl }; bare = λ tree. refl; typed = λ tree. refl; whole = refl }
