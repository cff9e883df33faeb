-- How the lemmas are cited, over a small table that may stand anywhere: a page, a look-up, all rows
-- of a kind, the last row, an UPDATE, and a DELETE.
use Rattle.std.proofs.Common.{◌≡◌, ℕ, true, false, List, [], ◌∷◌, Some, refl, codes, pos, sym, ◌∙◌, ◌==◌, nat_lt, map, filter, find, take, reverse, bytes_eq, option_map, slice_get}
use Rattle.sqlite_value.specs.declared.value.Value.TheVariants.{Null, Int, Text}
use Rattle.sqlite_value.specs.declared.keys.Collation.TheVariants.{Binary}
use Rattle.sqlite_schema.specs.declared.schema.Kind.TheVariants.{Integer, Text as Words}
use Rattle.sqlite_schema.specs.declared.schema.Table.{Table}
use Rattle.sqlite_sql.specs.Term.{Term, lit, col, op2}
use Rattle.sqlite_sql.specs.declared.ops.BinaryOp.TheVariants.{Compare}
use Rattle.sqlite_sql.specs.declared.ops.CompareOp.TheVariants.{Gt, Eq}
use Rattle.sqlite_tied.specs.Compute.{everything}
use Rattle.one_table.specs.Reading.{FailsPlainly, is_whole, IsSelect, meant, select_meant, text_meant}
use Rattle.one_table.specs.Changing.{IsUpdate, update_meant, update_in, sets_meant}
use Rattle.one_table.specs.Deleting.{IsDelete, delete_in, delete_meant, removal_meant, removal_query}
use Rattle.std.proofs.lemmas.Slice.Eq.{bytes_eq-Decides}
use Rattle.sqlite_value.specs.Order.{Row}
use Rattle.sqlite_keyed.specs.Keyed.{IsKeyedBy}
use Rattle.sqlite_keyed.specs.Rules.{AreApart}
use Rattle.sqlite_typed.proofs.TestLemmas.{last_term}
use Rattle.sqlite_schema.specs.declared.schema.Schema.{Schema}
use Rattle.sqlite_resolve.specs.Scope.{Name}
use Rattle.sqlite.specs.State.{State, Shown, FailsToQuery}
use Rattle.one_table.specs.Place.{Has}
use Rattle.one_table.specs.Listed.{query_on, no_limit, rising, falling}
use Rattle.one_table.proofs.FaultLemmas.{fails_plainly}
use Rattle.one_table.proofs.UnderstandLemmas.{selects}
use Rattle.sqlite.specs.declared.error.Error.{Error}
use Rattle.one_table.proofs.ListedLemmas.{answered, one_row, first_by_key, last_by_key}
use Rattle.one_table.proofs.LookUpLemmas.{few_apart, first_row, last_row}
use Rattle.one_table.proofs.TestsLemmas.{number_is, number_above, text_is}

abbrev notes : ℕ → Table
notes tree = record {
  name = codes "notes";
  tree = tree;
  columns = (record { name = codes "number"; kind = Integer; is_strict = true; not_null = false; default = Null; collation = Binary })
      ∷ (record { name = codes "title"; kind = Words; is_strict = true; not_null = true; default = Null; collation = Binary })
      ∷ (record { name = codes "size"; kind = Integer; is_strict = true; not_null = true; default = Null; collation = Binary }) ∷ [];
  key = Some 0;
  primary = 0 ∷ [];
  uniques = [];
  orders = [];
  checks = [];
  references = [];
  computed = [];
  stamps = record { places = []; terms = []; formats = [] };
  is_counted = false;
}

record Note : Type 0 where
  number : ℕ
  title : List ℕ
  size : ℕ

abbrev stored : Note → Row
stored n = Int (pos n.number) ∷ Null ∷ Text n.title ∷ Int (pos n.size) ∷ []

abbrev shown : Note → Row
shown n = Int (pos n.number) ∷ Text n.title ∷ Int (pos n.size) ∷ []

abbrev columns : List Term
columns = col 1 0 ∷ col 1 2 ∷ col 1 3 ∷ []

abbrev names : List Name
names = codes "number" ∷ codes "title" ∷ codes "size" ∷ []

-- ---- each text, and what it means where the table stands alone

abbrev page_text : List ℕ
page_text = codes "SELECT number, title, size FROM notes WHERE number > ?1 ORDER BY number LIMIT ?2"

abbrev is_later : List Term
is_later = op2 (Compare Gt Binary) (col 1 0) (col 0 0) ∷ []

page_means : (tree : ℕ) → IsSelect (notes tree) (query_on tree is_later columns (rising 0) (col 0 1)) names page_text
unfolding everything meant select_meant text_meant
page_means tree = record { means = refl; from = refl }

abbrev title_text : List ℕ
title_text = codes "SELECT number, title, size FROM notes WHERE title = ?1"

abbrev has_title : List Term
has_title = op2 (Compare Eq Binary) (col 1 2) (col 0 0) ∷ []

title_means : (tree : ℕ) → IsSelect (notes tree) (query_on tree has_title columns [] no_limit) names title_text
unfolding everything meant select_meant text_meant
title_means tree = record { means = refl; from = refl }

abbrev last_text : List ℕ
last_text = codes "SELECT number, title, size FROM notes WHERE size = ?1 ORDER BY number DESC LIMIT 1"

abbrev has_size : List Term
has_size = op2 (Compare Eq Binary) (col 1 3) (col 0 0) ∷ []

last_means : (tree : ℕ) → IsSelect (notes tree) (query_on tree has_size columns (falling 0) (lit (Int (pos 1)))) names last_text
unfolding everything meant select_meant text_meant
last_means tree = record { means = refl; from = refl }

abbrev resize_text : List ℕ
resize_text = codes "UPDATE notes SET size = ?2 WHERE number = ?1"

resize_means : (tree : ℕ) → IsUpdate (notes tree) (query_on tree (op2 (Compare Eq Binary) (col 1 0) (col 0 0) ∷ [])
    (col 1 0 ∷ col 1 0 ∷ lit Null ∷ col 1 2 ∷ col 0 1 ∷ []) [] no_limit) resize_text
unfolding everything update_meant update_in sets_meant
resize_means tree = record { means = refl; from = refl }

abbrev untitle_text : List ℕ
untitle_text = codes "DELETE FROM notes WHERE title = ?1 AND size = ?2"

untitle_means : (tree : ℕ) → IsDelete (notes tree) (removal_query tree (op2 (Compare Eq Binary) (col 1 2) (col 0 0)
    ∷ op2 (Compare Eq Binary) (col 1 3) (col 0 1) ∷ [])) untitle_text
unfolding everything delete_meant delete_in removal_meant
untitle_means tree = record { means = refl; from = refl }

-- ---- what each answers

module _ (s : Schema) (at tree : ℕ) (has : Has s at (notes tree)) (old new : State) (schema_is : old.now.schema ≡ s) (all : List Note)
    (held : old.now.trees tree ≡ map stored all)
    (keyed : IsKeyedBy (λ (n : Note). pos n.number) all) (rows : List Row) where
  page_answers : (after most : ℕ) → Shown page_text (Int (pos after) ∷ Int (pos most) ∷ []) old new rows → rows
      ≡ take most (map shown (filter (λ n. nat_lt after n.number) all))
  page_answers after most it =
      first_by_key (record { holds_them = held; passes = λ n. last_term (number_above n.number after); shows = λ n. refl }) 0
      (λ n. pos n.number) (λ n. refl) (col 0 1) rows keyed
      (answered s at (notes tree) has _ names page_text (page_means tree) (Int (pos after) ∷ Int (pos most) ∷ []) old new schema_is rows it)

  -- no two notes have one title
  title_answers : (title : List ℕ) → AreApart (λ a b. bytes_eq a.title b.title) all → Shown title_text (Text title ∷ []) old new rows
      → slice_get rows 0 ≡ option_map shown (find (λ n. bytes_eq n.title title) all)
  title_answers title apart it =
      let same = λ (a b : Note) (here : bytes_eq a.title title ≡ true) (there : bytes_eq b.title title ≡ true).
      (bytes_eq-Decides a.title b.title).1 ((bytes_eq-Decides a.title title).0 here ∙ sym ((bytes_eq-Decides b.title title).0 there)) in
      first_row shown (λ n. bytes_eq n.title title) all rows
      (one_row (record { holds_them = held; passes = λ n. last_term (text_is n.title title); shows = λ n. refl }) rows
      (answered s at (notes tree) has _ names title_text (title_means tree) (Text title ∷ []) old new schema_is rows it)
      (few_apart (λ a b. bytes_eq a.title b.title) (λ n. bytes_eq n.title title) all apart same))

  last_answers : (size : ℕ) → Shown last_text (Int (pos size) ∷ []) old new rows → slice_get rows 0
      ≡ option_map shown (slice_get (reverse (filter (λ n. n.size == size) all)) 0)
  last_answers size it =
      last_row shown (filter (λ n. n.size == size) all) rows
      (last_by_key (record { holds_them = held; passes = λ n. last_term (number_is n.size size); shows = λ n. refl }) 0 (λ n. pos n.number)
      (λ n. refl) (lit (Int (pos 1))) rows keyed
      (answered s at (notes tree) has _ names last_text (last_means tree) (Int (pos size) ∷ []) old new schema_is rows it))

  page_fails : (after most : ℕ) (e : Error) → FailsToQuery page_text (Int (pos after) ∷ Int (pos most) ∷ []) old new e → FailsPlainly old new e
  unfolding everything is_whole
  page_fails after most e h =
      let means = selects s at (notes tree) has (query_on tree is_later columns (rising 0) (col 0 1)) names page_text (page_means tree) in
      fails_plainly (query_on tree is_later columns (rising 0) (col 0 1)) names means at (notes tree) has refl refl
      (Int (pos after) ∷ Int (pos most) ∷ []) refl old new schema_is e refl h
