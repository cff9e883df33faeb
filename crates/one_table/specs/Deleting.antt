-- What a DELETE of rows of one table means.
use Rattle.std.specs.Prelude.{◌≡◌, ℕ, ℤ, Bool, ◌&&◌, ◌==◌, if◌then◌else◌, List, [], ◌∷◌, length}
use Rattle.std.specs.Prelude.{bytes_eq, Option, Some, None, Ok, Err}
use Rattle.std.specs.List.{list_all}
use Rattle.sqlite_ast.specs.declared.Expr.{Expr}
use Rattle.sqlite_ast.specs.declared.Statement.{Statement}
use Rattle.sqlite_ast.specs.declared.Statement.TheVariants as written
use Rattle.sqlite_syntax.specs.declared.statement.Parsed.{Parsed}
use Rattle.sqlite_value.specs.declared.value.Value.TheVariants.{Int}
use Rattle.sqlite_value.specs.Order.{Row}
use Rattle.sqlite_trees.specs.Tree.{rowid}
use Rattle.sqlite_sql.specs.Term.{Term, col, holds}
use Rattle.sqlite_sql.specs.Query.{Query, end, inner}
use Rattle.sqlite_schema.specs.declared.schema.Table.{Table}
use Rattle.sqlite_schema.specs.declared.command.Command.{Command}
use Rattle.sqlite_schema.specs.declared.command.Command.TheVariants.{Delete}
use Rattle.sqlite_resolve.specs.declared.error.CompileError.TheVariants.{Misuse, Unsupported}
use Rattle.sqlite_resolve.specs.Lowering.{Checked, and_then, or_else}
use Rattle.sqlite_resolve.specs.Scope.{Name}
use Rattle.sqlite_resolve.specs.Write.{deleted}
use Rattle.sqlite_resolve.specs.Compile.{first}
use Rattle.one_table.specs.Changing.{draft_if_typed}
use Rattle.one_table.specs.Listed.{no_limit, query_on}
use Rattle.one_table.specs.Simple.{one, bare, is_simple_or_absent}

-- ---- the text

-- the table's name, and WHERE
abbrev pub Removal : Type 0
Removal = Name × Option Expr

-- a DELETE that shows nothing
abbrev pub delete_of : Statement → Option Removal
delete_of (written.Delete name test []) = Some (name, test)
delete_of _ = None

-- from this table, by a simple expression
abbrev pub is_simple_delete : Table → Removal → Bool
is_simple_delete t d = bytes_eq d.0 t.name && is_simple_or_absent (bare t) d.1

-- the query of the rowids, where the table stands alone
unfoldable pub removal_meant : Table → Removal → Checked Query
removal_meant t d = and_then (deleted (one t) 0 t d.1) (draft_if_typed t)

unfoldable pub delete_in : Table → Parsed → Checked Query
delete_in t p = and_then (or_else (delete_of p.statement) Misuse)
    (λ d.
    if (length p.formats == 0) && is_simple_delete t d then removal_meant t d else Err Unsupported)

unfoldable pub delete_meant : Table → List ℕ → Checked Query
delete_meant t sql = and_then (first sql) (delete_in t)

-- the command, at the table's place
abbrev pub delete_as : ℕ → Query → Command
delete_as at q = Delete at (record { lets = []; body = q })

-- The text is a DELETE from the table by a simple expression, with this query.
pub record IsDelete (t : Table) (q : Query) (sql : List ℕ) : Type 0 where
  pub means : delete_meant t sql ≡ Ok q
  pub from : q.from ≡ inner t.tree end

-- ---- rows that hold values

-- the rowids of the rows that pass the tests
abbrev pub removal_query : ℕ → List Term → Query
removal_query tree tests = query_on tree tests (col 1 0 ∷ []) [] no_limit

-- The tests are p of a value, and its row has its key.
pub record Removes {X : Type 0} (tests : List Term) (params : Row) (key : X → ℤ) (stored : X → Row)
    (p : X → Bool) : Type 0 where
  pub keyed : (x : X) → rowid (stored x) ≡ Int (key x)
  pub passes : (x : X) → list_all (holds (params ∷ stored x ∷ [])) tests ≡ p x

-- The same for values behind hidden numbers, whatever the number is.
pub record RemovesHidden {X : Type 0} (tests : List Term) (params : Row) (stored : X → Row)
    (p : X → Bool) : Type 0 where
  pub passes : (number : ℤ) (x : X)
      → list_all (holds (params ∷ (Int number ∷ stored x) ∷ [])) tests ≡ p x
