-- What each text over the steps of later days means.
use Rattle.std.proofs.Common.{◌≡◌, true, ℕ, List, [], ◌∷◌, pos, refl, codes}
use Rattle.sqlite.specs.declared.types.Value.TheVariants.{Text}
use Rattle.sqlite_value.specs.declared.keys.Collation.TheVariants.{Binary}
use Rattle.sqlite_value.specs.declared.value.Value.TheVariants.{Int, Null}
use Rattle.sqlite_sql.specs.Query.{Query}
use Rattle.sqlite_sql.specs.Term.{Term, col, lit, op2}
use Rattle.sqlite_sql.specs.declared.ops.BinaryOp.TheVariants.{Compare}
use Rattle.sqlite_sql.specs.declared.ops.CompareOp.TheVariants.{Eq, Le}
use Rattle.sqlite_tied.specs.Compute.{everything}
use Rattle.sqlite_resolve.specs.Scope.{Name}
use Rattle.one_table.specs.Deleting.{IsDelete, delete_in, delete_meant, removal_meant, removal_query}
use Rattle.one_table.specs.Inserting.{IsInsert, insert_in, insert_meant, puts_meant}
use Rattle.one_table.specs.Listed.{falling, query_on, no_limit, rising}
use Rattle.one_table.specs.Reading.{is_whole, meant, select_meant, text_meant}
use Rattle.book_tables.specs.row.Rows.{number}
use Rattle.book_tables.specs.Tables.{dated_steps_table}
use Rattle.book_tables.specs.writing.Writes.{new_dated_text, steps_withdrawn_text}
use Rattle.book_tables.proofs.ReadingLemmas.ReadLemmas.{Asks}
use Rattle.book_tables.proofs.ReadingLemmas.StepTexts.{step_names}
pub use Rattle.book_tables.specs.reading.Questions.{first_day_text, steps_from_text}

-- ---- the steps that begin on a day

-- the tests that a row is of the tariff that is the first parameter, and of the day that is the
-- second
abbrev pub is_from_day : List Term
is_from_day = op2 (Compare Eq Binary) (col 1 1) (col 0 0) ∷ op2 (Compare Eq Binary) (col 1 2) (col 0 1) ∷ []

-- a read of the steps of a tariff that begin on a day, in the order of their places
abbrev pub steps_from_query : ℕ → Query
steps_from_query tree = query_on tree is_from_day (col 1 4 ∷ col 1 5 ∷ []) (rising 3) no_limit

-- the text means that read, with the tariff's name and the day as its parameters
pub steps_from_asks : (name : List ℕ) (day : ℕ) → Asks dated_steps_table steps_from_query step_names steps_from_text (Text name ∷ number day ∷ [])
unfolding everything is_whole meant select_meant text_meant
steps_from_asks name day =
    record { is = λ tree. record { means = refl; from = refl }; bare = λ tree. refl; typed = λ tree. refl; whole = refl }

-- ---- the last first day until a day

abbrev is_until_day : List Term
is_until_day = op2 (Compare Eq Binary) (col 1 1) (col 0 0) ∷ op2 (Compare Le Binary) (col 1 2) (col 0 1) ∷ []

-- the name of the one column that is read, the day
abbrev pub day_names : List Name
day_names = codes "day" ∷ []

-- a read of the last day up to a day on which steps of a tariff begin
abbrev pub first_day_query : ℕ → Query
first_day_query tree = query_on tree is_until_day (col 1 2 ∷ []) (falling 2) (lit (Int (pos 1)))

-- the text means that read of a day, with the tariff's name and the day up to which
pub first_day_asks : (name : List ℕ) (day : ℕ) → Asks dated_steps_table first_day_query day_names first_day_text (Text name ∷ number day ∷ [])
unfolding everything is_whole meant select_meant text_meant
first_day_asks name day =
    record { is = λ tree. record { means = refl; from = refl }; bare = λ tree. refl; typed = λ tree. refl; whole = refl }

-- ---- a new step

-- what a new row is put together from: NULL for its hidden number, and five parameters
abbrev pub five_terms : List Term
five_terms = lit Null ∷ col 0 0 ∷ col 0 1 ∷ col 0 2 ∷ col 0 3 ∷ col 0 4 ∷ []

-- the text means that such a row is put into `dated_steps`
pub new_dated_means : (tree : ℕ) → IsInsert (dated_steps_table tree) five_terms new_dated_text
unfolding everything insert_meant insert_in puts_meant
new_dated_means tree = record { means = refl; whole = refl; uncounted = refl; unstamped = refl }

-- the text is one statement, with five parameters
pub new_dated_whole : is_whole new_dated_text 5 ≡ true
unfolding everything is_whole
new_dated_whole = refl

-- ---- steps that are withdrawn

-- the text means a DELETE of the rows of the tariff and the day
pub steps_withdrawn_means : (tree : ℕ) → IsDelete (dated_steps_table tree) (removal_query tree is_from_day) steps_withdrawn_text
unfolding everything delete_meant delete_in removal_meant
steps_withdrawn_means tree = record { means = refl; from = refl }

-- and is one statement with two parameters
pub steps_withdrawn_whole : is_whole steps_withdrawn_text 2 ≡ true
unfolding everything is_whole
steps_withdrawn_whole = refl
