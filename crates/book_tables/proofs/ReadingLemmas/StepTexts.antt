-- What the text that lists a tariff's steps means.
use Rattle.std.proofs.Common.{ℕ, List, [], ◌∷◌, refl, codes}
use Rattle.sqlite.specs.declared.types.Value.TheVariants.{Text}
use Rattle.sqlite_value.specs.declared.keys.Collation.TheVariants.{Binary}
use Rattle.sqlite_sql.specs.Query.{Query}
use Rattle.sqlite_sql.specs.Term.{Term, col, op2}
use Rattle.sqlite_sql.specs.declared.ops.BinaryOp.TheVariants.{Compare}
use Rattle.sqlite_sql.specs.declared.ops.CompareOp.TheVariants.{Eq}
use Rattle.sqlite_tied.specs.Compute.{everything}
use Rattle.sqlite_resolve.specs.Scope.{Name}
use Rattle.one_table.specs.Listed.{query_on, no_limit, rising}
use Rattle.one_table.specs.Reading.{is_whole, meant, select_meant, text_meant}
use Rattle.book_tables.specs.Tables.{tariff_steps_table}
use Rattle.book_tables.proofs.ReadingLemmas.ReadLemmas.{Asks}
pub use Rattle.book_tables.specs.reading.Questions.{steps_of_text}

-- the names of the columns of a step, its end and its price
abbrev pub step_names : List Name
step_names = codes "ends" ∷ codes "price" ∷ []

abbrev is_of_tariff : List Term
is_of_tariff = op2 (Compare Eq Binary) (col 1 1) (col 0 0) ∷ []

-- a read of the steps of a tariff, in the order of their places
abbrev pub steps_of_query : ℕ → Query
steps_of_query tree = query_on tree is_of_tariff (col 1 3 ∷ col 1 4 ∷ []) (rising 2) no_limit

-- the text means that read, with the tariff's name as its parameter
pub steps_of_asks : (name : List ℕ) → Asks tariff_steps_table steps_of_query step_names steps_of_text (Text name ∷ [])
unfolding everything is_whole meant select_meant text_meant
steps_of_asks name =
    record { is = λ tree. record { means = refl; from = refl }; bare = λ tree. refl; typed = λ tree. refl; whole = refl }
