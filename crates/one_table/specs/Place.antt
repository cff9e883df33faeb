-- Where a table stands among the tables of a database: other tables may stand before and after it.
use Rattle.std.specs.Prelude.{◌≡◌, ◌==◌, ◌^◌, ℕ, false, Some, find, nat_le, slice_get}
use Rattle.sqlite_schema.specs.Names.{table_named}
use Rattle.sqlite_schema.specs.declared.schema.Schema.{Schema}
use Rattle.sqlite_schema.specs.declared.schema.Table.{Table}

-- the schema has the table t at the place at: it is the one of its name and the first of its tree
pub record Has (s : Schema) (at : ℕ) (t : Table) : Type 0 where
  pub named : table_named s t.name ≡ Some at
  pub listed : slice_get s.tables at ≡ Some t
  pub by_tree : find (λ u. u.tree == t.tree) s.tables ≡ Some t
  pub low : nat_le (2 ^ 31) t.tree ≡ false
