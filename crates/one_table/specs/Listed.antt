-- The rows that a SELECT over one table shows.
use Rattle.std.specs.Prelude.{◌≡◌, ℕ, pos, negsuc, Bool, true, false, List, [], ◌∷◌, map, None}
use Rattle.std.specs.List.{list_all}
use Rattle.sqlite_value.specs.declared.keys.Collation.TheVariants.{Binary}
use Rattle.sqlite_value.specs.declared.keys.Key.{Key}
use Rattle.sqlite_value.specs.declared.value.Value.TheVariants.{Int}
use Rattle.sqlite_value.specs.Order.{Row}
use Rattle.sqlite_trees.specs.Tree.{Trees}
use Rattle.sqlite_sql.specs.Term.{Term, lit, col, eval_all, holds}
use Rattle.sqlite_sql.specs.Query.{Query, end, inner}

-- the terms that are shown of each row that passes the tests, in this order and up to this many
abbrev pub query_on : ℕ → List Term → List Term → List (Term × Key) → Term → Query
query_on tree tests shown order limit = record {
  from = inner tree end;
  filter = tests;
  group = None;
  project = shown;
  distinct = false;
  collations = [];
  order = order;
  limit = limit;
  offset = lit (Int (pos 0));
}

-- no LIMIT is written
abbrev pub no_limit : Term
no_limit = lit (Int (negsuc 0))

-- ORDER BY the column at this place of the row, where 0 is the INTEGER PRIMARY KEY
abbrev pub rising : ℕ → List (Term × Key)
rising at = (col 1 at, record { collation = Binary; descending = false }) ∷ []

-- the same with DESC
abbrev pub falling : ℕ → List (Term × Key)
falling at = (col 1 at, record { collation = Binary; descending = true }) ∷ []

-- The table holds these values in this order. The tests are p of a value, and what is shown of it
-- is this row.
pub record IsListing {X : Type 0} (db : Trees) (tree : ℕ) (tests shown : List Term) (params : Row)
    (stored : X → Row) (xs : List X) (p : X → Bool) (show : X → Row) : Type 0 where
  pub holds_them : db tree ≡ map stored xs
  pub passes : (x : X) → list_all (holds (params ∷ stored x ∷ [])) tests ≡ p x
  pub shows : (x : X) → eval_all shown (params ∷ stored x ∷ []) ≡ show x
