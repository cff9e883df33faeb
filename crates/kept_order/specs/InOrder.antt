-- Databases whose tables have their rows in the order of the rows' hidden numbers.
use Rattle.std.specs.List.{AllByRecursion}
use Rattle.sqlite.specs.Effect.{Database}
use Rattle.sqlite_schema.specs.declared.schema.Schema.{Schema}
use Rattle.sqlite_trees.specs.Tree.{Trees}
use Rattle.one_table.specs.Numbered.{IsInOrder}

-- the rows of each table of the schema are in the order of their numbers
abbrev pub AreTreesInOrder : Schema → Trees → Type 0
AreTreesInOrder s trees = AllByRecursion (λ t. IsInOrder (trees t.tree)) s.tables

-- the same of the tables of a database
abbrev pub HasTablesInOrder : Database → Type 0
HasTablesInOrder db = AreTreesInOrder db.schema db.trees
