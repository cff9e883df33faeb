-- An INSERT into a small table at any place, and what it puts in.
use Rattle.std.proofs.Common.{◌≡◌, ℕ, true, false, List, [], ◌∷◌, Some, refl, codes, pos}
use Rattle.sqlite_value.specs.declared.value.Value.TheVariants.{Null, Int, Text as Words}
use Rattle.sqlite_value.specs.declared.keys.Collation.TheVariants.{Binary}
use Rattle.sqlite_value.specs.Order.{Row}
use Rattle.sqlite_schema.specs.declared.schema.Kind.TheVariants.{Integer, Text}
use Rattle.sqlite_schema.specs.declared.schema.Table.{Table}
use Rattle.sqlite_sql.specs.Term.{Term, lit, col}
use Rattle.sqlite_tied.specs.Compute.{everything}
use Rattle.one_table.specs.Inserting.{IsInsert, insert_meant, insert_in, puts_meant, new_row}
use Rattle.one_table.proofs.CastLemmas.{cast_int, cast_no_int}

abbrev notes : ℕ → Table
notes tree = record {
  name = codes "notes";
  tree = tree;
  columns = (record { name = codes "number"; kind = Integer; is_strict = true; not_null = false; default = Null; collation = Binary })
      ∷ (record { name = codes "title"; kind = Text; is_strict = true; not_null = true; default = Null; collation = Binary }) ∷ [];
  key = Some 0;
  primary = 0 ∷ [];
  uniques = [];
  orders = [];
  checks = [];
  references = [];
  computed = [];
  stamps = record { places = []; terms = []; formats = [] };
  is_counted = false;
}

abbrev terms : List Term
terms = col 0 0 ∷ lit Null ∷ col 0 1 ∷ []

put_means : (tree : ℕ) → IsInsert (notes tree) terms (codes "INSERT INTO notes (number, title) VALUES (?1, ?2)")
unfolding everything insert_meant insert_in puts_meant
put_means tree = record { means = refl; whole = refl; uncounted = refl; unstamped = refl }

put_is : (tree number : ℕ) (title : List ℕ) (rows : List Row) → new_row (notes tree) terms (Int (pos number) ∷ Words title ∷ []) rows
    ≡ Int (pos number) ∷ Null ∷ Words title ∷ []
put_is tree number title rows = rw (cast_int (pos number), cast_no_int)
