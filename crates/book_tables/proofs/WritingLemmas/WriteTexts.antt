-- What the text of each write means.
use Rattle.std.proofs.Common.{◌≡◌, true, ℕ, List, [], ◌∷◌, refl}
use Rattle.sqlite_value.specs.declared.value.Value.TheVariants.{Null}
use Rattle.sqlite_sql.specs.Term.{Term, lit, col}
use Rattle.sqlite_tied.specs.Compute.{everything}
use Rattle.sqlite_value.specs.declared.keys.Collation.TheVariants.{Binary}
use Rattle.sqlite_sql.specs.Term.{op2}
use Rattle.sqlite_sql.specs.Query.{Query}
use Rattle.sqlite_sql.specs.declared.ops.BinaryOp.TheVariants.{Compare}
use Rattle.sqlite_sql.specs.declared.ops.CompareOp.TheVariants.{Eq}
use Rattle.one_table.specs.Changing.{IsUpdate, sets_meant, update_in, update_meant}
use Rattle.one_table.specs.Listed.{no_limit, query_on}
use Rattle.one_table.specs.Reading.{is_whole}
use Rattle.one_table.specs.Inserting.{IsInsert, insert_in, insert_meant, puts_meant}
use Rattle.book_tables.specs.Tables.{meters_table, sales_table, shifts_table, tariff_steps_table, tariffs_table}
use Rattle.book_tables.specs.writing.Writes.{key_set_text, new_meter_text, new_sale_text, new_shift_text, new_step_text, new_tariff_text, shift_closed_text, tariff_set_text}

-- ---- a new sale

-- the row of a sale: its number is the first parameter, and the others follow
abbrev pub new_sale_terms : List Term
new_sale_terms =
    col 0 0 ∷ lit Null ∷ col 0 1 ∷ col 0 2 ∷ col 0 3 ∷ col 0 4 ∷ col 0 5 ∷ col 0 6 ∷ col 0 7 ∷ col 0 8 ∷ col 0 9 ∷ col 0 10 ∷ col 0 11
    ∷ col 0 12 ∷ col 0 13 ∷ []

-- the text of a new sale means an INSERT of this row into `sales`
pub new_sale_means : (tree : ℕ) → IsInsert (sales_table tree) new_sale_terms new_sale_text
unfolding everything insert_meant insert_in puts_meant
new_sale_means tree = record { means = refl; whole = refl; uncounted = refl; unstamped = refl }

-- and is one statement with fourteen parameters
pub new_sale_whole : is_whole new_sale_text 14 ≡ true
unfolding everything is_whole
new_sale_whole = refl

-- ---- a new shift, and its closing

-- the row of a shift: its number is the first parameter, and the others follow
abbrev pub new_shift_terms : List Term
new_shift_terms = col 0 0 ∷ lit Null ∷ col 0 1 ∷ col 0 2 ∷ col 0 3 ∷ []

-- the text of a new shift means an INSERT of this row into `shifts`
pub new_shift_means : (tree : ℕ) → IsInsert (shifts_table tree) new_shift_terms new_shift_text
unfolding everything insert_meant insert_in puts_meant
new_shift_means tree = record { means = refl; whole = refl; uncounted = refl; unstamped = refl }

-- and is one statement with four parameters
pub new_shift_whole : is_whole new_shift_text 4 ≡ true
unfolding everything is_whole
new_shift_whole = refl

-- the test that a shift's number is the first parameter
abbrev pub is_that_shift : List Term
is_that_shift = op2 (Compare Eq Binary) (col 1 0) (col 0 0) ∷ []

-- the number of a shift's row, and this row closed at the second parameter
abbrev pub shift_closed_terms : List Term
shift_closed_terms = col 1 0 ∷ col 1 0 ∷ lit Null ∷ col 1 2 ∷ col 1 3 ∷ col 0 1 ∷ []

-- the read of the shift that is the first parameter, and of what it becomes
abbrev pub shift_closed_query : ℕ → Query
shift_closed_query tree = query_on tree is_that_shift shift_closed_terms [] no_limit

-- the text of a closing means an UPDATE of `shifts` by this read
pub shift_closed_means : (tree : ℕ) → IsUpdate (shifts_table tree) (shift_closed_query tree) shift_closed_text
unfolding everything update_meant update_in sets_meant
shift_closed_means tree = record { means = refl; from = refl }

-- and is one statement with two parameters
pub shift_closed_whole : is_whole shift_closed_text 2 ≡ true
unfolding everything is_whole
shift_closed_whole = refl

-- ---- rows whose numbers SQLite chooses

-- a row of four parameters, under a number that SQLite chooses
abbrev pub four_terms : List Term
four_terms = lit Null ∷ col 0 0 ∷ col 0 1 ∷ col 0 2 ∷ col 0 3 ∷ []

-- the text of a new meter means an INSERT of such a row into `meters`
pub new_meter_means : (tree : ℕ) → IsInsert (meters_table tree) four_terms new_meter_text
unfolding everything insert_meant insert_in puts_meant
new_meter_means tree = record { means = refl; whole = refl; uncounted = refl; unstamped = refl }

-- and is one statement with four parameters
pub new_meter_whole : is_whole new_meter_text 4 ≡ true
unfolding everything is_whole
new_meter_whole = refl

-- a row of one parameter, under a number that SQLite chooses
abbrev pub one_term : List Term
one_term = lit Null ∷ col 0 0 ∷ []

-- the text of a new tariff means an INSERT of such a row into `tariffs`
pub new_tariff_means : (tree : ℕ) → IsInsert (tariffs_table tree) one_term new_tariff_text
unfolding everything insert_meant insert_in puts_meant
new_tariff_means tree = record { means = refl; whole = refl; uncounted = refl; unstamped = refl }

-- and is one statement with one parameter
pub new_tariff_whole : is_whole new_tariff_text 1 ≡ true
unfolding everything is_whole
new_tariff_whole = refl

-- the text of a new step means an INSERT of a row of four into `tariff_steps`
pub new_step_means : (tree : ℕ) → IsInsert (tariff_steps_table tree) four_terms new_step_text
unfolding everything insert_meant insert_in puts_meant
new_step_means tree = record { means = refl; whole = refl; uncounted = refl; unstamped = refl }

-- and is one statement with four parameters
pub new_step_whole : is_whole new_step_text 4 ≡ true
unfolding everything is_whole
new_step_whole = refl

-- ---- the tariff of a meter

-- the test that a row is of the meter that is the first parameter
abbrev pub is_that_meter : List Term
is_that_meter = op2 (Compare Eq Binary) (col 1 1) (col 0 0) ∷ []

-- the number of a meter's row, and this row with the second parameter as the tariff
abbrev pub tariff_set_terms : List Term
tariff_set_terms = col 1 0 ∷ col 1 0 ∷ col 1 1 ∷ col 1 2 ∷ col 0 1 ∷ col 1 4 ∷ []

-- the read of the meter that is the first parameter, and of what it becomes
abbrev pub tariff_set_query : ℕ → Query
tariff_set_query tree = query_on tree is_that_meter tariff_set_terms [] no_limit

-- the text of another tariff means an UPDATE of `meters` by this read
pub tariff_set_means : (tree : ℕ) → IsUpdate (meters_table tree) (tariff_set_query tree) tariff_set_text
unfolding everything update_meant update_in sets_meant
tariff_set_means tree = record { means = refl; from = refl }

-- and is one statement with two parameters
pub tariff_set_whole : is_whole tariff_set_text 2 ≡ true
unfolding everything is_whole
tariff_set_whole = refl

-- ---- the key of a meter

-- the number of a meter's row, and this row with the second parameter as the text of its key
abbrev pub key_set_terms : List Term
key_set_terms = col 1 0 ∷ col 1 0 ∷ col 1 1 ∷ col 1 2 ∷ col 1 3 ∷ col 0 1 ∷ []

-- the read of the meter that is the first parameter, and of what it becomes
abbrev pub key_set_query : ℕ → Query
key_set_query tree = query_on tree is_that_meter key_set_terms [] no_limit

-- the text of another key means an UPDATE of `meters` by this read
pub key_set_means : (tree : ℕ) → IsUpdate (meters_table tree) (key_set_query tree) key_set_text
unfolding everything update_meant update_in sets_meant
key_set_means tree = record { means = refl; from = refl }

-- and is one statement with two parameters
pub key_set_whole : is_whole key_set_text 2 ≡ true
unfolding everything is_whole
key_set_whole = refl
