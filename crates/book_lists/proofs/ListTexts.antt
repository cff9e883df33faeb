-- What each text that lists means.
use Rattle.std.proofs.Common.{ℕ, List, [], ◌∷◌, refl, codes, pos}
use Rattle.sqlite.specs.declared.types.Value.TheVariants.{Int, Text}
use Rattle.sqlite_value.specs.declared.keys.Collation.TheVariants.{Binary}
use Rattle.sqlite_sql.specs.Query.{Query}
use Rattle.sqlite_sql.specs.Term.{Term, col, lit, op2}
use Rattle.sqlite_sql.specs.declared.ops.BinaryOp.TheVariants.{Compare}
use Rattle.sqlite_sql.specs.declared.ops.CompareOp.TheVariants.{Eq, Gt}
use Rattle.sqlite_tied.specs.Compute.{everything}
use Rattle.one_table.specs.Listed.{query_on, rising}
use Rattle.one_table.specs.Reading.{is_whole, meant, select_meant, text_meant}
use Rattle.book_tables.specs.row.Rows.{number}
use Rattle.book_tables.specs.Tables.{dated_steps_table, meters_table, shifts_table, tariffs_table}
use Rattle.book_tables.proofs.ReadingLemmas.DatedTexts.{day_names}
use Rattle.book_tables.proofs.ReadingLemmas.ReadLemmas.{Asks}
use Rattle.book_tables.proofs.ReadingLemmas.ShiftTexts.{shift_names, shift_terms}
use Rattle.book_tables.proofs.WritingLemmas.BaseTexts.{all_meters_names}
pub use Rattle.book_lists.specs.Questions.{meters_after_text, next_day_text, shifts_after_text, tariffs_after_text}

-- ---- by a text

abbrev is_after_text : List Term
is_after_text = op2 (Compare Gt Binary) (col 1 1) (col 0 0) ∷ []

abbrev pub tariffs_after_query : ℕ → Query
tariffs_after_query tree = query_on tree is_after_text (col 1 1 ∷ []) (rising 1) (col 0 1)

-- what the text that lists tariffs asks
pub tariffs_after_asks : (after : List ℕ) (limit : ℕ)
    → Asks tariffs_table tariffs_after_query (codes "name" ∷ []) tariffs_after_text (Text after ∷ number limit ∷ [])
unfolding everything is_whole meant select_meant text_meant
tariffs_after_asks after limit =
    record { is = λ tree. record { means = refl; from = refl }; bare = λ tree. refl; typed = λ tree. refl; whole = refl }

abbrev pub meters_after_query : ℕ → Query
meters_after_query tree = query_on tree is_after_text (col 1 1 ∷ col 1 2 ∷ col 1 3 ∷ col 1 4 ∷ []) (rising 1) (col 0 1)

-- what the text that lists meters asks
pub meters_after_asks : (after : List ℕ) (limit : ℕ) → Asks meters_table meters_after_query all_meters_names meters_after_text (Text after ∷ number limit ∷ [])
unfolding everything is_whole meant select_meant text_meant
meters_after_asks after limit =
    record { is = λ tree. record { means = refl; from = refl }; bare = λ tree. refl; typed = λ tree. refl; whole = refl }

-- ---- by a number

abbrev is_after_number : List Term
is_after_number = op2 (Compare Gt Binary) (col 1 0) (col 0 0) ∷ []

abbrev pub shifts_after_query : ℕ → Query
shifts_after_query tree = query_on tree is_after_number shift_terms (rising 0) (col 0 1)

-- what the text that lists shifts asks
pub shifts_after_asks : (after limit : ℕ) → Asks shifts_table shifts_after_query shift_names shifts_after_text (number after ∷ number limit ∷ [])
unfolding everything is_whole meant select_meant text_meant
shifts_after_asks after limit =
    record { is = λ tree. record { means = refl; from = refl }; bare = λ tree. refl; typed = λ tree. refl; whole = refl }

-- ---- the next day

abbrev is_later_day : List Term
is_later_day = op2 (Compare Eq Binary) (col 1 1) (col 0 0) ∷ op2 (Compare Gt Binary) (col 1 2) (col 0 1) ∷ []

abbrev pub next_day_query : ℕ → Query
next_day_query tree = query_on tree is_later_day (col 1 2 ∷ []) (rising 2) (lit (Int (pos 1)))

-- what the text that looks for the next day asks
pub next_day_asks : (name : List ℕ) (day : ℕ) → Asks dated_steps_table next_day_query day_names next_day_text (Text name ∷ number day ∷ [])
unfolding everything is_whole meant select_meant text_meant
next_day_asks name day =
    record { is = λ tree. record { means = refl; from = refl }; bare = λ tree. refl; typed = λ tree. refl; whole = refl }
