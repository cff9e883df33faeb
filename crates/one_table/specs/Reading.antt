-- What a SELECT over one table means, and that a statement means a command.
use Rattle.std.specs.Prelude.{◌≡◌, ◌⊎◌, ℕ, Bool, false, ◌&&◌, ◌==◌, if◌then◌else◌, List, [], ◌∷◌}
use Rattle.std.specs.Prelude.{length, nat_le, IsSome, Option, Some, None, Ok, Err}
use Rattle.sqlite_value.specs.Order.{Row}
use Rattle.sqlite_ast.specs.declared.Select.{Select, out-Select}
use Rattle.sqlite_ast.specs.declared.Statement.{Statement}
use Rattle.sqlite_ast.specs.declared.Statement.TheVariants as written
use Rattle.sqlite_syntax.specs.declared.statement.Parsed.{Parsed}
use Rattle.sqlite_sql.specs.Query.{Query, end, inner}
use Rattle.sqlite_schema.specs.declared.schema.Schema.{Schema}
use Rattle.sqlite_schema.specs.declared.schema.Table.{Table}
use Rattle.sqlite_schema.specs.declared.command.Command.{Command}
use Rattle.sqlite_schema.specs.declared.command.Returning.{Returning}
use Rattle.sqlite_schema.specs.declared.command.Command.TheVariants as command
use Rattle.sqlite_draft.specs.Query.{query_of}
use Rattle.sqlite_typing.specs.Types.{row_classes, accepts_after, is_count}
use Rattle.sqlite_resolve.specs.declared.compiled.Compiled.{Compiled}
use Rattle.sqlite_resolve.specs.declared.error.CompileError.TheVariants.{Misuse, Mismatch}
use Rattle.sqlite_resolve.specs.declared.error.CompileError.TheVariants.{Unsupported}
use Rattle.sqlite_resolve.specs.Lowering.{Checked, and_then, or_else}
use Rattle.sqlite_resolve.specs.Scope.{Name}
use Rattle.sqlite_resolve.specs.Select.{paging, named}
use Rattle.sqlite_resolve.specs.Compile.{first}
use Rattle.sqlite.specs.declared.error.ErrorCode.TheVariants as code
use Rattle.sqlite.specs.declared.error.Error.{Error}
use Rattle.sqlite.specs.declared.error.Error.TheVariants.{SqliteFailure}
use Rattle.sqlite.specs.State.{State, Fails, IsUnchanged}
use Rattle.sqlite.specs.Listing.{understood, reads_listing}
use Rattle.one_table.specs.Simple.{one, is_simple_select}

-- the text is this command, with this after RETURNING, and reads neither the time nor the list of
-- tables
pub record MeansAs (s : Schema) (sql : List ℕ) (is : Command) (shows : Option Returning)
    : Type 0 where
  pub compiled : Compiled
  pub understands : understood s sql ≡ Ok compiled
  pub command : compiled.command ≡ is
  pub returning : compiled.returning ≡ shows
  pub timeless : compiled.formats ≡ []
  pub unlisted : reads_listing s sql ≡ false

-- the same of one that does not show what it writes
abbrev pub Means : Schema → List ℕ → Command → Type 0
Means s sql is = MeansAs s sql is None

abbrev pub select_of : Statement → Option Select
select_of (written.Select s) = Some s
select_of _ = None

-- the query goes by the types of the table's columns, under these parameters
abbrev pub is_typed : Table → Query → Row → Bool
is_typed t q params =
    accepts_after params q (Some (row_classes t ∷ [])) &&
    (is_count params q.limit && is_count params q.offset)

abbrev pub if_typed : Table → Query → List Name → Checked (Query × List Name)
if_typed t q names = if is_typed t q [] then Ok (q, names) else Err Mismatch

-- the query where the table stands alone, and the names of its columns
unfoldable pub select_meant : Table → Select → Checked (Query × List Name)
select_meant t s = and_then (paging (one t) s)
    (λ page. and_then (named (one t) (out-Select s).first (out-Select s).order page)
    (λ d. if_typed t (query_of d.0) d.1))

unfoldable pub text_meant : Table → Parsed → Checked (Query × List Name)
text_meant t p = and_then (or_else (select_of p.statement) Misuse)
    (λ s.
    if (length p.formats == 0) && is_simple_select t s then select_meant t s else Err Unsupported)

-- the same of a text
unfoldable pub meant : Table → List ℕ → Checked (Query × List Name)
meant t sql = and_then (first sql) (text_meant t)

abbrev pub select_as : Query → List Name → Command
select_as q names = command.Select (record { lets = []; body = q }) names

-- The text is a SELECT of simple expressions over the table: this query, whose columns have these
-- names.
pub record IsSelect (t : Table) (q : Query) (names : List Name) (sql : List ℕ) : Type 0 where
  pub means : meant t sql ≡ Ok (q, names)
  pub from : q.from ≡ inner t.tree end

abbrev pub is_whole_in : List ℕ → ℕ → Checked Parsed → Bool
is_whole_in sql count (Ok p) = (length p.names == count) && nat_le (length sql) p.tail
is_whole_in sql count (Err e) = false

-- the text is one statement, with so many parameters
unfoldable pub is_whole : List ℕ → ℕ → Bool
is_whole sql count = is_whole_in sql count (first sql)

-- why a SELECT fails: want of memory or the disk, or the limit on steps, where one is set
abbrev pub FailsPlainly : State → State → Error → Type 0
FailsPlainly old new e =
    Fails old new ⊥ e ⊎ ((e ≡ SqliteFailure code.OperationInterrupted)
    × IsSome old.step_limit × IsUnchanged old new)
