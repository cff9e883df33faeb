-- What an UPDATE of one table means.
use Rattle.std.specs.Prelude.{◌≡◌, ℕ, Bool, ◌&&◌, ◌==◌, if◌then◌else◌, List, [], length, bytes_eq}
use Rattle.std.specs.Prelude.{Option, Some, None, Ok, Err}
use Rattle.std.specs.List.{list_all}
use Rattle.sqlite_ast.specs.declared.Expr.{Expr}
use Rattle.sqlite_ast.specs.declared.Statement.{Statement}
use Rattle.sqlite_ast.specs.declared.Statement.TheVariants as written
use Rattle.sqlite_syntax.specs.declared.statement.Parsed.{Parsed}
use Rattle.sqlite_sql.specs.Query.{Query, end, inner}
use Rattle.sqlite_schema.specs.declared.schema.Table.{Table}
use Rattle.sqlite_schema.specs.declared.command.Command.{Command}
use Rattle.sqlite_schema.specs.declared.command.Command.TheVariants.{Update}
use Rattle.sqlite_draft.specs.declared.query.Draft.{Draft}
use Rattle.sqlite_draft.specs.Query.{query_of}
use Rattle.sqlite_resolve.specs.declared.error.CompileError.TheVariants.{Misuse, Mismatch}
use Rattle.sqlite_resolve.specs.declared.error.CompileError.TheVariants.{Unsupported}
use Rattle.sqlite_resolve.specs.Lowering.{Checked, and_then, or_else}
use Rattle.sqlite_resolve.specs.Scope.{Name}
use Rattle.sqlite_resolve.specs.Write.{updated}
use Rattle.sqlite_resolve.specs.Compile.{first}
use Rattle.one_table.specs.Simple.{one, bare, depth, is_simple, is_simple_or_absent}
use Rattle.one_table.specs.Reading.{is_typed}

-- the table's name, what is set, and WHERE
abbrev pub Assignments : Type 0
Assignments = Name × List (Name × Expr) × Option Expr

-- an UPDATE that shows nothing
abbrev pub update_of : Statement → Option Assignments
update_of (written.Update name sets test []) = Some (name, sets, test)
update_of _ = None

-- of this table, by simple expressions
abbrev pub is_simple_update : Table → Assignments → Bool
is_simple_update t u =
    bytes_eq u.0 t.name && list_all (λ set. is_simple depth (bare t) set.1) u.1
    && is_simple_or_absent (bare t) u.2

abbrev pub draft_if_typed : Table → Draft → Checked Query
draft_if_typed t d = if is_typed t (query_of d) [] then Ok (query_of d) else Err Mismatch

-- the query of the old rowids and the new rows, where the table stands alone
unfoldable pub sets_meant : Table → Assignments → Checked Query
sets_meant t u = and_then (updated (one t) 0 t u.1 u.2) (draft_if_typed t)

unfoldable pub update_in : Table → Parsed → Checked Query
update_in t p = and_then (or_else (update_of p.statement) Misuse)
    (λ u.
    if (length p.formats == 0) && is_simple_update t u then sets_meant t u else Err Unsupported)

unfoldable pub update_meant : Table → List ℕ → Checked Query
update_meant t sql = and_then (first sql) (update_in t)

-- the command, at the table's place
abbrev pub update_as : ℕ → Query → Command
update_as at q = Update at (record { lets = []; body = q })

-- The text is an UPDATE of the table by simple expressions, with this query.
pub record IsUpdate (t : Table) (q : Query) (sql : List ℕ) : Type 0 where
  pub means : update_meant t sql ≡ Ok q
  pub from : q.from ≡ inner t.tree end
