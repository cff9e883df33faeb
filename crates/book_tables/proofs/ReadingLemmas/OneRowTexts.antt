-- What each text over the tables of meters and tariffs means.
use Rattle.std.proofs.Common.{ℕ, List, [], ◌∷◌, refl, codes}
use Rattle.sqlite.specs.declared.types.Value.TheVariants.{Text}
use Rattle.sqlite_value.specs.declared.keys.Collation.TheVariants.{Binary}
use Rattle.sqlite_sql.specs.Query.{Query}
use Rattle.sqlite_sql.specs.Term.{Term, col, op2}
use Rattle.sqlite_sql.specs.declared.ops.BinaryOp.TheVariants.{Compare}
use Rattle.sqlite_sql.specs.declared.ops.CompareOp.TheVariants.{Eq}
use Rattle.sqlite_tied.specs.Compute.{everything}
use Rattle.sqlite_resolve.specs.Scope.{Name}
use Rattle.one_table.specs.Listed.{query_on, no_limit}
use Rattle.one_table.specs.Reading.{is_whole, meant, select_meant, text_meant}
use Rattle.book_tables.specs.row.Rows.{number}
use Rattle.book_tables.specs.Tables.{meters_table, tariffs_table}
use Rattle.book_tables.proofs.ReadingLemmas.ReadLemmas.{Asks}
pub use Rattle.book_tables.specs.reading.Questions.{meter_numbered_text, tariff_named_text}

abbrev is_first : List Term
is_first = op2 (Compare Eq Binary) (col 1 1) (col 0 0) ∷ []

-- the names of the columns of a meter: its base, its tariff and its key
abbrev pub meter_names : List Name
meter_names = codes "base" ∷ codes "tariff" ∷ codes "secret" ∷ []

-- a read of the meters whose number is the parameter
abbrev pub meter_numbered_query : ℕ → Query
meter_numbered_query tree = query_on tree is_first (col 1 2 ∷ col 1 3 ∷ col 1 4 ∷ []) [] no_limit

-- the text means that read of meters, with the number as its parameter
pub meter_numbered_asks : (number : List ℕ) → Asks meters_table meter_numbered_query meter_names meter_numbered_text (Text number ∷ [])
unfolding everything is_whole meant select_meant text_meant
meter_numbered_asks number =
    record { is = λ tree. record { means = refl; from = refl }; bare = λ tree. refl; typed = λ tree. refl; whole = refl }

-- a read of the tariffs whose name is the parameter
abbrev pub tariff_named_query : ℕ → Query
tariff_named_query tree = query_on tree is_first (col 1 1 ∷ []) [] no_limit

-- the text means that read of tariffs, with the name as its parameter
pub tariff_named_asks : (name : List ℕ) → Asks tariffs_table tariff_named_query (codes "name" ∷ []) tariff_named_text (Text name ∷ [])
unfolding everything is_whole meant select_meant text_meant
tariff_named_asks name =
    record { is = λ tree. record { means = refl; from = refl }; bare = λ tree. refl; typed = λ tree. refl; whole = refl }
