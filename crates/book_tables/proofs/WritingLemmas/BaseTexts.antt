-- What each text over the bases of meters means.
use Rattle.std.proofs.Common.{◌≡◌, true, ℕ, List, [], ◌∷◌, refl, codes}
use Rattle.sqlite_value.specs.declared.value.Value.TheVariants.{Null}
use Rattle.sqlite_sql.specs.Query.{Query}
use Rattle.sqlite_sql.specs.Term.{Term, col, lit}
use Rattle.sqlite_resolve.specs.Scope.{Name}
use Rattle.sqlite_tied.specs.Compute.{everything}
use Rattle.one_table.specs.Changing.{IsUpdate, sets_meant, update_in, update_meant}
use Rattle.one_table.specs.Inserting.{IsInsert, insert_in, insert_meant, puts_meant}
use Rattle.one_table.specs.Listed.{no_limit, query_on}
use Rattle.one_table.specs.Reading.{is_whole}
use Rattle.book_tables.specs.Tables.{meter_bases_table, meters_table}
use Rattle.book_tables.specs.writing.Writes.{base_set_text, new_base_text}
use Rattle.book_tables.proofs.WritingLemmas.WriteTexts.{is_that_meter}

-- ---- a base more

-- a row of two parameters, under a number that SQLite chooses
abbrev pub two_terms : List Term
two_terms = lit Null ∷ col 0 0 ∷ col 0 1 ∷ []

-- the text of a new base means an INSERT of such a row into `meter_bases`
pub new_base_means : (tree : ℕ) → IsInsert (meter_bases_table tree) two_terms new_base_text
unfolding everything insert_meant insert_in puts_meant
new_base_means tree = record { means = refl; whole = refl; uncounted = refl; unstamped = refl }

-- and is one statement with two parameters
pub new_base_whole : is_whole new_base_text 2 ≡ true
unfolding everything is_whole
new_base_whole = refl

-- ---- the present base of a meter

-- the number of a meter's row, and this row with the second parameter as the base
abbrev pub base_set_terms : List Term
base_set_terms = col 1 0 ∷ col 1 0 ∷ col 1 1 ∷ col 0 1 ∷ col 1 3 ∷ col 1 4 ∷ []

-- the read of the meter that is the first parameter, and of what it becomes
abbrev pub base_set_query : ℕ → Query
base_set_query tree = query_on tree is_that_meter base_set_terms [] no_limit

-- the text of another base means an UPDATE of `meters` by this read
pub base_set_means : (tree : ℕ) → IsUpdate (meters_table tree) (base_set_query tree) base_set_text
unfolding everything update_meant update_in sets_meant
base_set_means tree = record { means = refl; from = refl }

-- and is one statement with two parameters
pub base_set_whole : is_whole base_set_text 2 ≡ true
unfolding everything is_whole
base_set_whole = refl

-- ---- all columns of a meter

-- their names, as a list of meters shows them
abbrev pub all_meters_names : List Name
all_meters_names = codes "meter" ∷ codes "base" ∷ codes "tariff" ∷ codes "secret" ∷ []
