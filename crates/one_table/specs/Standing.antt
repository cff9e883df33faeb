-- A table that stands in a database exactly as a text defines it, whatever other tables the
-- database has.
use Rattle.std.specs.Prelude.{◌≡◌, ℕ, ◌+◌, ◌==◌, Bool, true, List, [], ◌∷◌, map, filter, slice_get}
use Rattle.std.specs.Prelude.{slice_index_or, option_map, unwrap_or}
use Rattle.sqlite_value.specs.declared.keys.Order.{Order}
use Rattle.sqlite_value.specs.Keys.{plain}
use Rattle.sqlite_schema.specs.Names.{table_named}
use Rattle.sqlite_schema.specs.declared.schema.Index.{Index}
use Rattle.sqlite_schema.specs.declared.schema.Schema.{Schema}
use Rattle.sqlite_schema.specs.declared.schema.Table.{Table}
use Rattle.one_table.specs.Place.{Has}

-- the place of the table of a name, and the tree that has its rows
abbrev pub place_in : Schema → List ℕ → ℕ
place_in s name = unwrap_or (table_named s name) 0

abbrev pub tree_in : Schema → List ℕ → ℕ
tree_in s name = unwrap_or (option_map (λ t. t.tree) (slice_get s.tables (place_in s name))) 0

-- an index as a key of its table: whether its columns are unique, their places and their order
abbrev pub Key : Type 0
Key = Bool × List ℕ × Order

abbrev pub key_of : Index → Key
key_of i = (i.is_unique, i.columns, i.order)

-- the keys of all indexes on a tree
abbrev pub keys_on : Schema → ℕ → List Key
keys_on s tree = map key_of (filter (λ i. i.table == tree) s.indexes)

-- the keys that a table's own UNIQUE and PRIMARY KEY make
abbrev pub keys_from : List Order → ℕ → List (List ℕ) → List Key
keys_from orders at [] = []
keys_from orders at (columns ∷ more) =
    (true, columns, slice_index_or orders at plain) ∷ keys_from orders (at + 1) more

abbrev pub own_keys : Table → List Key
own_keys t = keys_from t.orders 0 t.uniques

-- the schema has the table t, but for its tree, and no index on it but the table's own
pub record Stands (s : Schema) (t : Table) : Type 0 where
  pub has : Has s (place_in s t.name) (record t { tree = tree_in s t.name })
  pub keys : keys_on s (tree_in s t.name) ≡ own_keys t
