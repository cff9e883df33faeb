-- What each text over the table of sales means.
use Rattle.std.proofs.Common.{ℕ, List, [], ◌∷◌, refl, codes, pos}
use Rattle.sqlite.specs.declared.types.Value.TheVariants.{Int, Text}
use Rattle.sqlite_value.specs.declared.keys.Collation.TheVariants.{Binary}
use Rattle.sqlite_sql.specs.Query.{Query}
use Rattle.sqlite_sql.specs.Term.{Term, lit, col, op2}
use Rattle.sqlite_sql.specs.declared.ops.BinaryOp.TheVariants.{Compare}
use Rattle.sqlite_sql.specs.declared.ops.CompareOp.TheVariants.{Eq, Ge}
use Rattle.sqlite_tied.specs.Compute.{everything}
use Rattle.sqlite_resolve.specs.Scope.{Name}
use Rattle.one_table.specs.Listed.{query_on, no_limit, falling}
use Rattle.one_table.specs.Reading.{is_whole, meant, select_meant, text_meant}
use Rattle.book_tables.specs.row.Rows.{number}
use Rattle.book_tables.specs.Tables.{sales_table}
use Rattle.book_tables.proofs.ReadingLemmas.ReadLemmas.{Asks}
pub use Rattle.book_tables.specs.reading.Questions.{sold_since_text, last_sale_text, sale_numbered_text, sale_of_ref_text, sale_of_tid_text}

-- all columns but the month
abbrev pub sale_terms : List Term
sale_terms =
    col 1 0 ∷ col 1 2 ∷ col 1 4 ∷ col 1 5 ∷ col 1 6 ∷ col 1 7 ∷ col 1 8 ∷ col 1 9 ∷ col 1 10 ∷ col 1 11 ∷ col 1 12 ∷ col 1 13 ∷ col 1 14 ∷ []

-- the names of these columns, in the same order
abbrev pub sale_names : List Name
sale_names =
    codes "number" ∷ codes "moment" ∷ codes "shift" ∷ codes "operator" ∷ codes "ref" ∷ codes "meter" ∷ codes "base"
    ∷ codes "tid" ∷ codes "rnd" ∷ codes "tenths" ∷ codes "price" ∷ codes "tender" ∷ codes "digits" ∷ []

-- the test that a sale's number is the parameter
abbrev pub has_number : List Term
has_number = op2 (Compare Eq Binary) (col 1 0) (col 0 0) ∷ []

-- a read of the sales whose number is the parameter
abbrev pub sale_numbered_query : ℕ → Query
sale_numbered_query tree = query_on tree has_number sale_terms [] no_limit

-- the text means that read, with the sale's number as its parameter
pub sale_numbered_asks : (n : ℕ) → Asks sales_table sale_numbered_query sale_names sale_numbered_text (number n ∷ [])
unfolding everything is_whole meant select_meant text_meant
sale_numbered_asks n =
    record { is = λ tree. record { means = refl; from = refl }; bare = λ tree. refl; typed = λ tree. refl; whole = refl }

abbrev has_operator_and_ref : List Term
has_operator_and_ref = op2 (Compare Eq Binary) (col 1 5) (col 0 0) ∷ op2 (Compare Eq Binary) (col 1 6) (col 0 1) ∷ []

-- a read of the sales that an operator made under a ref
abbrev pub sale_of_ref_query : ℕ → Query
sale_of_ref_query tree = query_on tree has_operator_and_ref sale_terms [] no_limit

-- the text means that read, with the operator and the ref as its parameters
pub sale_of_ref_asks : (operator order_ref : List ℕ) → Asks sales_table sale_of_ref_query sale_names sale_of_ref_text (Text operator ∷ Text order_ref ∷ [])
unfolding everything is_whole meant select_meant text_meant
sale_of_ref_asks operator order_ref =
    record { is = λ tree. record { means = refl; from = refl }; bare = λ tree. refl; typed = λ tree. refl; whole = refl }

abbrev has_tid : List Term
has_tid =
    op2 (Compare Eq Binary) (col 1 7) (col 0 0) ∷ op2 (Compare Eq Binary) (col 1 8) (col 0 1) ∷ op2 (Compare Eq Binary) (col 1 9) (col 0 2) ∷ []

-- a read of the sales with an identifier of a meter under a base
abbrev pub sale_of_tid_query : ℕ → Query
sale_of_tid_query tree = query_on tree has_tid sale_terms [] no_limit

-- the text means that read, with the meter, the year of the base and the identifier
pub sale_of_tid_asks : (meter : List ℕ) (year tid : ℕ)
    → Asks sales_table sale_of_tid_query sale_names sale_of_tid_text (Text meter ∷ number year ∷ number tid ∷ [])
unfolding everything is_whole meant select_meant text_meant
sale_of_tid_asks meter year tid =
    record { is = λ tree. record { means = refl; from = refl }; bare = λ tree. refl; typed = λ tree. refl; whole = refl }

-- a read of the number of the last sale
abbrev pub last_sale_query : ℕ → Query
last_sale_query tree = query_on tree [] (col 1 0 ∷ []) (falling 0) (lit (Int (pos 1)))

-- the text means that read, without parameters
pub last_sale_asks : Asks sales_table last_sale_query (codes "number" ∷ []) last_sale_text []
unfolding everything is_whole meant select_meant text_meant
last_sale_asks =
    record { is = λ tree. record { means = refl; from = refl }; bare = λ tree. refl; typed = λ tree. refl; whole = refl }

-- a read of the last sale, by its number, whose moment is the parameter or later
abbrev pub sold_since_query : ℕ → Query
sold_since_query tree = query_on tree (op2 (Compare Ge Binary) (col 1 2) (col 0 0) ∷ []) (col 1 0 ∷ []) (falling 0) (lit (Int (pos 1)))

-- the text means that read, with the moment as its parameter
pub sold_since_asks : (moment : ℕ) → Asks sales_table sold_since_query (codes "number" ∷ []) sold_since_text (number moment ∷ [])
unfolding everything is_whole meant select_meant text_meant
sold_since_asks moment =
    record { is = λ tree. record { means = refl; from = refl }; bare = λ tree. refl; typed = λ tree. refl; whole = refl }
