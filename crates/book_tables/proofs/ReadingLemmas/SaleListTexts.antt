-- What each text that lists sales means.
use Rattle.std.proofs.Common.{ℕ, List, [], ◌∷◌, refl}
use Rattle.sqlite_value.specs.declared.keys.Collation.TheVariants.{Binary}
use Rattle.sqlite_sql.specs.Query.{Query}
use Rattle.sqlite_sql.specs.Term.{Term, col, op2}
use Rattle.sqlite_sql.specs.declared.ops.BinaryOp.TheVariants.{Compare}
use Rattle.sqlite_sql.specs.declared.ops.CompareOp.TheVariants.{Eq, Gt}
use Rattle.sqlite_tied.specs.Compute.{everything}
use Rattle.one_table.specs.Listed.{query_on, no_limit, rising}
use Rattle.one_table.specs.Reading.{is_whole, meant, select_meant, text_meant}
use Rattle.book_tables.specs.row.Rows.{number}
use Rattle.book_tables.specs.Tables.{sales_table}
use Rattle.book_tables.proofs.ReadingLemmas.ReadLemmas.{Asks}
use Rattle.book_tables.proofs.ReadingLemmas.SaleTexts.{sale_names, sale_terms}
pub use Rattle.book_tables.specs.reading.Questions.{sales_after_text, sales_of_shift_text}

abbrev is_after : List Term
is_after = op2 (Compare Gt Binary) (col 1 0) (col 0 0) ∷ []

-- a read of the sales after a number, in the order of their numbers and up to a limit
abbrev pub sales_after_query : ℕ → Query
sales_after_query tree = query_on tree is_after sale_terms (rising 0) (col 0 1)

-- the text means that read, with the number and the limit as its parameters
pub sales_after_asks : (after limit : ℕ) → Asks sales_table sales_after_query sale_names sales_after_text (number after ∷ number limit ∷ [])
unfolding everything is_whole meant select_meant text_meant
sales_after_asks after limit =
    record { is = λ tree. record { means = refl; from = refl }; bare = λ tree. refl; typed = λ tree. refl; whole = refl }

abbrev is_of_shift : List Term
is_of_shift = op2 (Compare Eq Binary) (col 1 4) (col 0 0) ∷ []

-- a read of the sales of a shift, in the order of their numbers
abbrev pub sales_of_shift_query : ℕ → Query
sales_of_shift_query tree = query_on tree is_of_shift sale_terms (rising 0) no_limit

-- the text means that read, with the shift's number as its parameter
pub sales_of_shift_asks : (shift : ℕ) → Asks sales_table sales_of_shift_query sale_names sales_of_shift_text (number shift ∷ [])
unfolding everything is_whole meant select_meant text_meant
sales_of_shift_asks shift =
    record { is = λ tree. record { means = refl; from = refl }; bare = λ tree. refl; typed = λ tree. refl; whole = refl }
