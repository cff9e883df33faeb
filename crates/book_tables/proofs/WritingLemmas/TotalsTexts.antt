-- What each text over the tables of running totals means.
use Rattle.std.proofs.Common.{◌≡◌, true, ℕ, List, [], ◌∷◌, refl, codes, pos}
use Rattle.sqlite.specs.declared.types.Value.TheVariants.{Int, Null, Text}
use Rattle.sqlite_value.specs.declared.keys.Collation.TheVariants.{Binary}
use Rattle.sqlite_sql.specs.Query.{Query}
use Rattle.sqlite_sql.specs.Term.{Term, lit, col, op2}
use Rattle.sqlite_sql.specs.declared.ops.ArithOp.TheVariants.{Add}
use Rattle.sqlite_sql.specs.declared.ops.BinaryOp.TheVariants.{Arith, Compare}
use Rattle.sqlite_sql.specs.declared.ops.CompareOp.TheVariants.{Eq}
use Rattle.sqlite_tied.specs.Compute.{everything}
use Rattle.sqlite_resolve.specs.Scope.{Name}
use Rattle.one_table.specs.Inserting.{puts_meant}
use Rattle.one_table.specs.Listed.{falling, query_on, no_limit}
use Rattle.one_table.specs.Reading.{is_whole, meant, select_meant, text_meant}
use Rattle.one_table.specs.Upserting.{IsUpsert, Merging, set_meant, shown_meant, upsert_by, upsert_in, upsert_meant}
use Rattle.book_tables.specs.row.Rows.{number}
use Rattle.book_tables.specs.Tables.{last_ids_table, month_tenths_table, shift_totals_table}
use Rattle.book_tables.specs.writing.Writes.{last_id_set_text, sale_counted_text, tenths_added_text}
use Rattle.book_tables.proofs.ReadingLemmas.ReadLemmas.{Asks}
pub use Rattle.book_tables.specs.reading.Questions.{last_id_of_meter_text, last_id_text, month_sum_text, shift_sums_text}

-- ---- what is read by a key

-- a text and a number are these
abbrev is_that_pair : List Term
is_that_pair = op2 (Compare Eq Binary) (col 1 1) (col 0 0) ∷ op2 (Compare Eq Binary) (col 1 2) (col 0 1) ∷ []

-- the read of the last identifier of a meter under a base
abbrev pub last_id_query : ℕ → Query
last_id_query tree = query_on tree is_that_pair (col 1 3 ∷ []) [] no_limit

-- the name of its column
abbrev pub last_id_names : List Name
last_id_names = codes "tid" ∷ []

-- its text asks this of `last_ids`, with the meter and the year of the base
pub last_id_asks : (meter : List ℕ) (year : ℕ) → Asks last_ids_table last_id_query last_id_names last_id_text (Text meter ∷ number year ∷ [])
unfolding everything is_whole meant select_meant text_meant
last_id_asks meter year =
    record { is = λ tree. record { means = refl; from = refl }; bare = λ tree. refl; typed = λ tree. refl; whole = refl }

-- the read of the greatest identifier of a meter, under any base
abbrev pub last_id_of_meter_query : ℕ → Query
last_id_of_meter_query tree =
    query_on tree (op2 (Compare Eq Binary) (col 1 1) (col 0 0) ∷ []) (col 1 3 ∷ []) (falling 3) (lit (Int (pos 1)))

-- its text asks this of `last_ids`, with the meter
pub last_id_of_meter_asks : (meter : List ℕ) → Asks last_ids_table last_id_of_meter_query last_id_names last_id_of_meter_text (Text meter ∷ [])
unfolding everything is_whole meant select_meant text_meant
last_id_of_meter_asks meter =
    record { is = λ tree. record { means = refl; from = refl }; bare = λ tree. refl; typed = λ tree. refl; whole = refl }

-- the read of the tenths of a meter in a month
abbrev pub month_tenths_query : ℕ → Query
month_tenths_query tree = query_on tree is_that_pair (col 1 3 ∷ []) [] no_limit

-- the name of its column
abbrev pub month_tenths_names : List Name
month_tenths_names = codes "tenths" ∷ []

-- its text asks this of `month_tenths`, with the meter and the month
pub month_tenths_asks : (meter : List ℕ) (month : ℕ)
    → Asks month_tenths_table month_tenths_query month_tenths_names month_sum_text (Text meter ∷ number month ∷ [])
unfolding everything is_whole meant select_meant text_meant
month_tenths_asks meter month =
    record { is = λ tree. record { means = refl; from = refl }; bare = λ tree. refl; typed = λ tree. refl; whole = refl }

-- the read of the count and the sums of a shift
abbrev pub shift_totals_query : ℕ → Query
shift_totals_query tree =
    query_on tree (op2 (Compare Eq Binary) (col 1 0) (col 0 0) ∷ []) (col 1 2 ∷ col 1 3 ∷ col 1 4 ∷ []) [] no_limit

-- the names of its columns
abbrev pub shift_totals_names : List Name
shift_totals_names = codes "sales" ∷ codes "tenths" ∷ codes "cash" ∷ []

-- its text asks this of `shift_totals`, with the number of the shift
pub shift_totals_asks : (shift : ℕ) → Asks shift_totals_table shift_totals_query shift_totals_names shift_sums_text (number shift ∷ [])
unfolding everything is_whole meant select_meant text_meant
shift_totals_asks shift =
    record { is = λ tree. record { means = refl; from = refl }; bare = λ tree. refl; typed = λ tree. refl; whole = refl }

-- ---- what is put in or merged by its key

-- the third column of a table with a UNIQUE of the first two is set so, and shown
abbrev third_set : List ℕ → Term → Merging
third_set name set = record {
  count = 3;
  given = lit Null ∷ col 0 0 ∷ col 0 1 ∷ col 0 2 ∷ [];
  key = 1 ∷ 2 ∷ [];
  sets = col 1 0 ∷ col 1 1 ∷ col 1 2 ∷ set ∷ [];
  names = name ∷ [];
  shown = col 0 7 ∷ [];
}

-- a last identifier is put in, or set in place of the one that is there
abbrev pub last_id_merging : Merging
last_id_merging = third_set (codes "tid") (col 0 7)

-- its text means such an upsert of `last_ids`
pub last_id_set_means : (tree : ℕ) → IsUpsert (last_ids_table tree) last_id_merging last_id_set_text
unfolding everything upsert_meant upsert_in upsert_by puts_meant set_meant shown_meant
last_id_set_means tree = record { means = refl; whole = refl; shows_some = refl; shows_each = refl; uncounted = refl; unstamped = refl }

-- and is one statement with three parameters
pub last_id_set_whole : is_whole last_id_set_text 3 ≡ true
unfolding everything is_whole
last_id_set_whole = refl

-- the tenths of a month are put in, or added to those that are there
abbrev pub tenths_merging : Merging
tenths_merging = third_set (codes "tenths") (op2 (Arith Add) (col 1 3) (col 0 7))

-- its text means such an upsert of `month_tenths`
pub tenths_added_means : (tree : ℕ) → IsUpsert (month_tenths_table tree) tenths_merging tenths_added_text
unfolding everything upsert_meant upsert_in upsert_by puts_meant set_meant shown_meant
tenths_added_means tree = record { means = refl; whole = refl; shows_some = refl; shows_each = refl; uncounted = refl; unstamped = refl }

-- and is one statement with three parameters
pub tenths_added_whole : is_whole tenths_added_text 3 ≡ true
unfolding everything is_whole
tenths_added_whole = refl

-- the first sale of a shift is put in, or one sale is added to what is there
abbrev pub totals_merging : Merging
totals_merging = record {
  count = 3;
  given = col 0 0 ∷ lit Null ∷ lit (Int (pos 1)) ∷ col 0 1 ∷ col 0 2 ∷ [];
  key = 0 ∷ [];
  sets =
      col 1 0 ∷ lit Null ∷ op2 (Arith Add) (col 1 2) (lit (Int (pos 1))) ∷ op2 (Arith Add) (col 1 3) (col 0 7) ∷ op2 (Arith Add) (col 1 4) (col 0 8) ∷ [];
  names = codes "sales" ∷ codes "tenths" ∷ codes "cash" ∷ [];
  shown = col 0 6 ∷ col 0 7 ∷ col 0 8 ∷ [];
}

-- its text means such an upsert of `shift_totals`
pub sale_counted_means : (tree : ℕ) → IsUpsert (shift_totals_table tree) totals_merging sale_counted_text
unfolding everything upsert_meant upsert_in upsert_by puts_meant set_meant shown_meant
sale_counted_means tree = record { means = refl; whole = refl; shows_some = refl; shows_each = refl; uncounted = refl; unstamped = refl }

-- and is one statement with three parameters
pub sale_counted_whole : is_whole sale_counted_text 3 ≡ true
unfolding everything is_whole
sale_counted_whole = refl
