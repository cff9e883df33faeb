-- What an INSERT of one row means.
use Rattle.std.specs.Prelude.{◌≡◌, ℕ, ◌+◌, Bool, true, false, ◌&&◌, ◌==◌, if◌then◌else◌, List, []}
use Rattle.std.specs.Prelude.{◌∷◌, length, bytes_eq, Option, Some, None, Ok, Err}
use Rattle.std.specs.List.{list_all}
use Rattle.sqlite_ast.specs.declared.Expr.{Expr, out-Expr}
use Rattle.sqlite_ast.specs.declared.Expr.TheOpen.{Expr-F}
use Rattle.sqlite_ast.specs.Layer.{Layer}
use Rattle.sqlite_ast.specs.declared.Conflict.TheVariants as conflict
use Rattle.sqlite_ast.specs.declared.Rows.TheVariants as rows
use Rattle.sqlite_ast.specs.declared.Statement.{Statement}
use Rattle.sqlite_ast.specs.declared.Statement.TheVariants as written
use Rattle.sqlite_syntax.specs.declared.statement.Parsed.{Parsed}
use Rattle.sqlite_value.specs.Order.{Row}
use Rattle.sqlite_sql.specs.Term.{Term, eval_all}
use Rattle.sqlite_rules.specs.declared.error.Rowids.TheVariants.{Chosen}
use Rattle.sqlite_rules.specs.Cast.{cast_row}
use Rattle.sqlite_rules.specs.Edit.{with_rowid}
use Rattle.sqlite_schema.specs.declared.schema.Table.{Table}
use Rattle.sqlite_schema.specs.declared.command.Source.{Source}
use Rattle.sqlite_schema.specs.declared.command.Source.TheVariants as source
use Rattle.sqlite_schema.specs.declared.command.Command.{Command}
use Rattle.sqlite_schema.specs.declared.command.Command.TheVariants.{Insert}
use Rattle.sqlite_resolve.specs.declared.error.CompileError.TheVariants.{Misuse, Unsupported}
use Rattle.sqlite_resolve.specs.Lowering.{Checked, and_then, or_else}
use Rattle.sqlite_resolve.specs.Scope.{Name}
use Rattle.sqlite_resolve.specs.Compile.{first, small, new_rows}
use Rattle.one_table.specs.Simple.{one}

-- NULL, an integer, a text or a parameter
abbrev pub is_value_at : Layer → Bool
is_value_at Expr-F.Null = true
is_value_at (Expr-F.Integer text) = true
is_value_at (Expr-F.Text text) = true
is_value_at (Expr-F.Parameter n) = true
is_value_at _ = false

abbrev pub is_value : Expr → Bool
is_value e = is_value_at (out-Expr e)

-- the table's name, the columns that are given, and their values
abbrev pub Puts : Type 0
Puts = Name × List Name × List Expr

-- an INSERT of one row, which is refused where a row is in its way, and shows nothing
abbrev pub insert_of : Statement → Option Puts
insert_of (written.Insert conflict.Abort name columns (rows.Values (row ∷ [])) [] []) =
    Some (name, columns, row)
insert_of _ = None

-- into this table, of simple values, and with no default that reads the time
abbrev pub is_simple_insert : Table → Puts → Bool
is_simple_insert t w =
    bytes_eq w.0 t.name && (length t.stamps.formats == 0) && list_all is_value w.2

-- the row where the table stands alone, for a text with so many parameters
unfoldable pub puts_meant : Table → ℕ → Puts → Checked Source
puts_meant t count w = new_rows (one t) t count w.1 (rows.Values (w.2 ∷ []))

unfoldable pub insert_in : Table → Parsed → Checked Source
insert_in t p =
    and_then (or_else (insert_of p.statement) Misuse)
    (λ w.
    if (length p.formats == 0) && is_simple_insert t w
    then puts_meant t (small p.names + small t.stamps.formats) w
    else Err Unsupported)

unfoldable pub insert_meant : Table → List ℕ → Checked Source
insert_meant t sql = and_then (first sql) (insert_in t)

-- one row of these terms, as the table keeps it: the rowid, and then each column
abbrev pub source_of_row : Table → List Term → Source
source_of_row t terms = source.Values terms (length t.columns + 1)

-- the command, at the table's place
abbrev pub insert_as : ℕ → Table → List Term → Command
insert_as at t terms = Insert at (source_of_row t terms)

-- The text is an INSERT of one row into the table, and these are its terms. The table neither
-- counts its rowids nor has a default that reads the time.
pub record IsInsert (t : Table) (terms : List Term) (sql : List ℕ) : Type 0 where
  pub means : insert_meant t sql ≡ Ok (source_of_row t terms)
  pub whole : length terms ≡ length t.columns + 1
  pub uncounted : t.is_counted ≡ false
  pub unstamped : t.stamps.terms ≡ []

-- the row that these parameters give, before it has a rowid
abbrev pub source_row : Table → List Term → Row → Row
source_row t terms params = cast_row t (eval_all terms (params ∷ []))

-- the row that is put in: where no rowid is given, it has the one above the last
abbrev pub new_row : Table → List Term → Row → List Row → Row
new_row t terms params rows = with_rowid Chosen rows (source_row t terms params)
