-- What an upsert of one row means: an INSERT whose row is merged into the one that has its key, and
-- which shows the row as it is afterwards.
use Rattle.std.specs.Prelude.{◌≡◌, ℕ, ◌+◌, Bool, false, not, ◌&&◌, ◌||◌, ◌==◌, if◌then◌else◌, List}
use Rattle.std.specs.Prelude.{[], ◌∷◌, codes, length, bytes_eq, find, option_map, Option, Some}
use Rattle.std.specs.Prelude.{None, is_some, Ok, Err}
use Rattle.std.specs.List.{list_all, list_any}
use Rattle.sqlite_value.specs.declared.keys.Collation.TheVariants.{Binary}
use Rattle.sqlite_value.specs.Order.{Row}
use Rattle.sqlite_value.specs.Keys.{plain}
use Rattle.sqlite_ast.specs.declared.Conflict.TheVariants as conflict
use Rattle.sqlite_ast.specs.declared.Rows.TheVariants as rows
use Rattle.sqlite_ast.specs.declared.Shown.{Shown}
use Rattle.sqlite_ast.specs.declared.Statement.{Statement}
use Rattle.sqlite_ast.specs.declared.Statement.TheVariants as written
use Rattle.sqlite_ast.specs.declared.Upsert.{Upsert}
use Rattle.sqlite_syntax.specs.declared.statement.Parsed.{Parsed}
use Rattle.sqlite_sql.specs.Query.{Query}
use Rattle.sqlite_sql.specs.Term.{Term, col}
use Rattle.sqlite_schema.specs.Names.{column_named, same_name}
use Rattle.sqlite_schema.specs.Rules.{agree}
use Rattle.sqlite_schema.specs.declared.command.Command.{Command}
use Rattle.sqlite_schema.specs.declared.command.Command.TheVariants.{InsertOr}
use Rattle.sqlite_schema.specs.declared.command.Conflict.TheVariants.{Abort}
use Rattle.sqlite_schema.specs.declared.command.Returning.{Returning}
use Rattle.sqlite_schema.specs.declared.command.Source.{Source}
use Rattle.sqlite_schema.specs.declared.command.Source.TheVariants as source
use Rattle.sqlite_schema.specs.declared.schema.Schema.{Schema}
use Rattle.sqlite_schema.specs.declared.schema.Table.{Table}
use Rattle.sqlite_resolve.specs.declared.error.CompileError.TheVariants.{Misuse, Unsupported}
use Rattle.sqlite_resolve.specs.Compile.{first, small, source_of}
use Rattle.sqlite_resolve.specs.Given.{are_among, at_rowid, given, given_level, id_name, nested}
use Rattle.sqlite_resolve.specs.Given.{no_name, returned, with_given}
use Rattle.sqlite_resolve.specs.Lowering.{Checked, and_then, or_else}
use Rattle.sqlite_resolve.specs.Scope.{Context, Name, is_among}
use Rattle.sqlite_resolve.specs.Terms.{equal}
use Rattle.sqlite_resolve.specs.Write.{level_of, places, updated_in}
use Rattle.one_table.specs.Changing.{draft_if_typed}
use Rattle.one_table.specs.Inserting.{Puts, is_simple_insert, puts_meant, source_of_row}
use Rattle.one_table.specs.Listed.{no_limit, query_on}
use Rattle.one_table.specs.Simple.{Known, depth, is_simple, is_simple_output, one}
use Rattle.one_table.specs.Standing.{Key, own_keys}

-- ---- the text

-- the row, as in an INSERT; the key and what is set where a row has it; what is shown
pub record UpsertText : Type 0 where
  pub puts : Puts
  pub clause : Upsert
  pub shown : List Shown

abbrev pub upsert_of : Statement → Option UpsertText
upsert_of (written.Insert conflict.Abort name columns (rows.Values (row ∷ [])) (u ∷ []) shown) =
    Some (record { puts = (name, columns, row); clause = u; shown = shown })
upsert_of _ = None

abbrev pub excluded : Name
excluded = codes "excluded"

-- in what is set: a bare column is that of the row that has the key, and one after `excluded.` that
-- of the row that is given
abbrev pub settable : Table → ℕ → Known
settable t count None name = is_some (column_named t name)
settable t count (Some table) name =
    same_name excluded table && is_some (column_named (given t count) name)

-- the names under which RETURNING hides what stands before the columns of a row
abbrev pub hidden : Table → List Name
hidden t = no_name ∷ id_name t ∷ []

-- in what is shown: a bare column of the row that was written
abbrev pub showable : Table → ℕ → Known
showable t count None name =
    not (is_among name (hidden t)) && is_some (column_named (given t count) name)
showable t count (Some table) name = false

-- one row into this table, with a key, something that is set and something that is shown, all of
-- simple expressions, and no WHERE
abbrev pub is_simple_upsert : Table → ℕ → UpsertText → Bool
is_simple_upsert t count u =
    is_simple_insert t u.puts && not (same_name t.name excluded)
    && list_all (λ set. is_simple depth (settable t count) set.1) u.clause.sets
    && list_all (is_simple_output (showable t count)) u.shown
    && not (length u.clause.target == 0) && not (length u.clause.sets == 0)
    && not (length u.shown == 0) && not (is_some u.clause.filter)

-- ---- what it means where the table stands alone

-- The contexts of what is set and of what is shown, in any schema. The parameters are counted.
abbrev pub setting : Schema → ℕ → Table → ℕ → Context
setting s at t count =
    nested (with_given s t count) (level_of at t.name) (given_level s excluded [])

abbrev pub showing : Schema → Table → ℕ → Context
showing s t count =
    nested (with_given s t count) (given_level s t.name (hidden t)) (given_level s t.name [])

-- the key has these columns, in any order
abbrev pub is_key_of : List ℕ → Key → Bool
is_key_of at key =
    key.0 && (length key.1 == length at) && are_among at key.1 && are_among key.1 at

-- the INTEGER PRIMARY KEY, or the columns of one of the table's own UNIQUE
abbrev pub key_among : List Key → List ℕ → Checked (List ℕ)
key_among keys at =
    if bytes_eq at (0 ∷ []) then Ok at
    else or_else (option_map (λ (k : Key). k.1) (find (is_key_of at) keys)) Misuse

unfoldable pub set_meant : Table → ℕ → Upsert → Checked Query
set_meant t count u =
    and_then (updated_in (setting (one t) 0 t count) t u.sets None)
    (λ d. draft_if_typed t (at_rowid count d))

unfoldable pub shown_meant : Table → ℕ → List Shown → Checked (List Name × Source)
shown_meant t count shown =
    and_then (returned (one t) t count shown)
    (λ r. and_then (source_of (one t) (length r.0) r.1) (λ row. Ok (r.0, row)))

-- the count of parameters, the row, the places of the key, the query of the old rowid and the new
-- row, and the names and the terms that are shown
abbrev pub UpsertMeaning : Type 0
UpsertMeaning = ℕ × Source × List ℕ × Query × List Name × Source

unfoldable pub upsert_by : Table → ℕ → UpsertText → Checked UpsertMeaning
upsert_by t count u =
    and_then (puts_meant t count u.puts) (λ row.
    and_then (places t u.clause.target) (λ at. and_then (key_among (own_keys t) at) (λ key.
    and_then (set_meant t count u.clause) (λ q.
    and_then (shown_meant t count u.shown) (λ r. Ok (count, row, key, q, r.0, r.1))))))

unfoldable pub upsert_in : Table → Parsed → Checked UpsertMeaning
upsert_in t p = and_then (or_else (upsert_of p.statement) Misuse)
    (λ u.
    if (length p.formats == 0) && (small p.names == length p.names)
    && is_simple_upsert t (length p.names) u
    then upsert_by t (length p.names) u else Err Unsupported)

unfoldable pub upsert_meant : Table → List ℕ → Checked UpsertMeaning
upsert_meant t sql = and_then (first sql) (upsert_in t)

-- ---- the same by its parts

-- What an upsert is made of. A term of what is set reads the parameters, then the rowid of the row
-- that has the key, then the rowid and the columns of the row that is given, all as slot 0, and as
-- slot 1 the row that has the key. A term of what is shown reads the parameters, NULL, and then the
-- rowid and the columns of the row that was written.
pub record Merging : Type 0 where
  pub count : ℕ
  pub given : List Term
  pub key : List ℕ
  pub sets : List Term
  pub names : List Name
  pub shown : List Term

-- the row of that rowid, as it is set
abbrev pub set_query : Table → Merging → Query
set_query t m =
    query_on t.tree (equal Binary (col 1 0) (col 0 m.count) ∷ []) (col 1 0 ∷ m.sets) [] no_limit

abbrev pub shown_source : Merging → Source
shown_source m = source.Values m.shown (length m.names)

-- The text is an upsert of one row of the table, of these parts. The table neither counts its
-- rowids nor has a default that reads the time.
pub record IsUpsert (t : Table) (m : Merging) (sql : List ℕ) : Type 0 where
  pub means : upsert_meant t sql
      ≡ Ok (m.count, source_of_row t m.given, m.key, set_query t m, m.names, shown_source m)
  pub whole : length m.given ≡ length t.columns + 1
  pub shows_some : (length m.names == 0) ≡ false
  pub shows_each : length m.shown ≡ length m.names
  pub uncounted : t.is_counted ≡ false
  pub unstamped : t.stamps.terms ≡ []

-- the command, at the table's place, and what it shows
abbrev pub upsert_as : ℕ → Table → Merging → Command
upsert_as at t m = InsertOr at Abort (source_of_row t m.given)
    (record { target = Some m.key; update = Some (record { lets = []; body = set_query t m }) }
    ∷ [])

abbrev pub returning_as : Merging → Returning
returning_as m = record { names = m.names; row = shown_source m }

-- ---- the key

-- whether two rows have one key: the rowid, or the columns of one of these UNIQUE
abbrev pub is_of_key : List Key → List ℕ → Row → Row → Bool
is_of_key keys at new row =
    (bytes_eq at (0 ∷ []) && agree plain (0 ∷ []) row (0 ∷ []) new)
    || list_any (λ (k : Key). k.0 && bytes_eq at k.1 && agree k.2 k.1 row k.1 new) keys
