-- Which tables can be told from one another when the program runs.
use Rattle.std.specs.Prelude.{◌≡◌, ℕ, ◌<◌, ◌^◌, ◌==◌, Bool, true, false, [], find, List, Some, Ok}
use Rattle.std.specs.List.{list_all}
use Rattle.sqlite_value.specs.declared.value.Value.{Value}
use Rattle.sqlite_value.specs.declared.value.Value.TheVariants.{Null}
use Rattle.sqlite_schema.specs.declared.schema.Column.{Column}
use Rattle.sqlite_schema.specs.declared.schema.Schema.{Schema}
use Rattle.sqlite_schema.specs.declared.schema.Table.{Table}
use Rattle.sqlite_resolve.specs.Compile.{table_defined_by}
use Rattle.one_table.specs.Standing.{keys_on, own_keys, Stands}

abbrev pub is_null : Value → Bool
is_null Null = true
is_null _ = false

abbrev pub has_no_default : Column → Bool
has_no_default c = is_null c.default

-- Columns have no default but NULL, and the table has no CHECK and no default that reads the time.
pub record IsPlainTable (t : Table) : Type 0 where
  pub defaults : list_all has_no_default t.columns ≡ true
  pub checks : t.checks ≡ []
  pub stamps : t.stamps.terms ≡ []

-- the tables are equal but for their trees
abbrev pub IsAlike : Table → Table → Type 0
IsAlike found wanted = found ≡ record wanted { tree = found.tree }

-- the tables have the same rows: names, columns, row id and what is computed
pub record HasSameRows (a b : Table) : Type 0 where
  pub name : a.name ≡ b.name
  pub columns : a.columns ≡ b.columns
  pub key : a.key ≡ b.key
  pub computed : a.computed ≡ b.computed
  pub stamps : a.stamps ≡ b.stamps
  pub counted : a.is_counted ≡ b.is_counted
  pub defaults : list_all has_no_default b.columns ≡ true
  pub untimed : b.stamps.terms ≡ []

-- the tables have the same rules on their rows
pub record HasSameRules (a b : Table) : Type 0 where
  pub primary : a.primary ≡ b.primary
  pub uniques : a.uniques ≡ b.uniques
  pub orders : a.orders ≡ b.orders
  pub checks : a.checks ≡ b.checks
  pub references : a.references ≡ b.references
  pub unchecked : b.checks ≡ []

-- the first table of a tree is this one, and plain
pub record IsOwnTree (s : Schema) (tree : ℕ) (t : Table) : Type 0 where
  pub first : find (λ u. u.tree == tree) s.tables ≡ Some (record t { tree = tree })
  pub low : tree < 2 ^ 31
  pub plain : IsPlainTable t

-- a found table is this one, with its own tree and keys
pub record StandsAt (s : Schema) (found t : Table) : Type 0 where
  pub alike : IsAlike found t
  pub own_tree : IsOwnTree s found.tree t
  pub keys : keys_on s found.tree ≡ own_keys t

-- the table that a text defines stands, and can be told from others
abbrev pub StandsAs : Schema → List ℕ → Type 0
StandsAs s text = (t : Table) → table_defined_by text ≡ Ok t → Stands s t × IsPlainTable t
