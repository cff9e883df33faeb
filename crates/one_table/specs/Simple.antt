-- Expressions that read the row of one table, and the schema in which that table stands alone.
use Rattle.std.specs.Prelude.{ℕ, zero, suc, Bool, true, false, not, ◌&&◌, ◌==◌, List, [], ◌∷◌}
use Rattle.std.specs.Prelude.{length, bytes_eq, Option, Some, None, is_some}
use Rattle.std.specs.List.{list_all}
use Rattle.sqlite_ast.specs.declared.Expr.{Expr, out-Expr}
use Rattle.sqlite_ast.specs.declared.Expr.TheOpen.{Expr-F, Shown-F}
use Rattle.sqlite_ast.specs.declared.Core.{Core, out-Core}
use Rattle.sqlite_ast.specs.declared.Origin.{Origin}
use Rattle.sqlite_ast.specs.declared.Origin.TheVariants as origin
use Rattle.sqlite_ast.specs.declared.Select.{Select, out-Select}
use Rattle.sqlite_ast.specs.declared.Shown.{Shown, out-Shown}
use Rattle.sqlite_ast.specs.declared.Sort.{Sort, out-Sort}
use Rattle.sqlite_ast.specs.declared.Source.{Source, out-Source}
use Rattle.sqlite_ast.specs.Layer.{Layer, ShownLayer}
use Rattle.sqlite_schema.specs.Names.{column_named}
use Rattle.sqlite_schema.specs.declared.schema.Schema.{Schema}
use Rattle.sqlite_schema.specs.declared.schema.Table.{Table}
use Rattle.sqlite_resolve.specs.declared.scope.Bound.{Bound}
use Rattle.sqlite_resolve.specs.declared.scope.Output.{Output}
use Rattle.sqlite_resolve.specs.Order.{peeled}
use Rattle.sqlite_resolve.specs.Scope.{Context, Name}

-- the schema that has this table and nothing else
abbrev pub one : Table → Schema
one t = record { tables = t ∷ []; indexes = []; views = [] }

-- which columns an expression may name, each with the table that is written before it, if one is
abbrev pub Known : Type 0
Known = Option Name → Name → Bool

-- a column of the table by its bare name
abbrev pub bare : Table → Known
bare t None name = is_some (column_named t name)
bare t (Some table) name = false

-- NULL, an integer, a text, a parameter, a known column, or an operator on two of these
abbrev pub is_simple_at : (Expr → Bool) → Known → Layer → Bool
is_simple_at again known Expr-F.Null = true
is_simple_at again known (Expr-F.Integer text) = true
is_simple_at again known (Expr-F.Text text) = true
is_simple_at again known (Expr-F.Parameter n) = true
is_simple_at again known (Expr-F.Column table name) = known table name
is_simple_at again known (Expr-F.Binary op a b) = again a && again b
is_simple_at again known _ = false

-- the same, nested less deep than the number
abbrev pub is_simple : ℕ → Known → Expr → Bool
is_simple zero known e = false
is_simple (suc n) known e = is_simple_at (is_simple n known) known (out-Expr e)

-- expressions nest no deeper than this
abbrev pub depth : ℕ
depth = 20

abbrev pub is_simple_or_absent : Known → Option Expr → Bool
is_simple_or_absent known None = true
is_simple_or_absent known (Some e) = is_simple depth known e

abbrev pub is_simple_output_at : Known → ShownLayer → Bool
is_simple_output_at known (Shown-F.One e alias text) = is_simple depth known e
is_simple_output_at known _ = false

abbrev pub is_simple_output : Known → Shown → Bool
is_simple_output known s = is_simple_output_at known (out-Shown s)

abbrev pub is_simple_sort : Known → Sort → Bool
is_simple_sort known s = is_simple depth known (peeled (out-Sort s).key)

-- a number or a parameter, as after LIMIT
abbrev pub is_count_at : Layer → Bool
is_count_at (Expr-F.Integer text) = true
is_count_at (Expr-F.Parameter n) = true
is_count_at _ = false

abbrev pub is_count_or_absent : Option Expr → Bool
is_count_or_absent None = true
is_count_or_absent (Some e) = is_count_at (out-Expr e)

-- the table by its name
abbrev pub names_it : Table → Origin Select → Bool
names_it t (origin.Table name) = bytes_eq name t.name
names_it t (origin.Query s) = false

-- the table, with no alias
abbrev pub is_source : Table → Source → Bool
is_source t s =
    names_it t (out-Source s).origin && not (out-Source s).is_left && not
    (is_some (out-Source s).alias) && not (is_some (out-Source s).on) &&
    (length (out-Source s).using == 0)

-- FROM has the table alone
abbrev pub is_from : Table → List Source → Bool
is_from t [] = false
is_from t (s ∷ []) = is_source t s
is_from t (s ∷ more ∷ others) = false

abbrev pub is_simple_core : Table → Core → Bool
is_simple_core t core =
    is_from t (out-Core core).from && list_all (is_simple_output (bare t)) (out-Core core).shown
    && is_simple_or_absent (bare t) (out-Core core).filter
    && (length (out-Core core).group == 0) && not (is_some (out-Core core).having)

-- columns of the one table, by WHERE, ORDER BY, LIMIT and OFFSET
abbrev pub is_simple_select : Table → Select → Bool
is_simple_select t s =
    is_simple_core t (out-Select s).first && (length (out-Select s).with == 0) &&
    (length (out-Select s).others == 0) && list_all (is_simple_sort (bare t)) (out-Select s).order
    && is_count_or_absent (out-Select s).limit && is_count_or_absent (out-Select s).offset

abbrev pub bound_at : ℕ → Name → Bound
bound_at at name = record { name = name; table = at; slot = 1; shared = [] }

-- an expression is read where slot 1 has a row of the table at this place
abbrev pub reading : Schema → ℕ → Name → List Output → Bool → Context
reading s at name shown may_aggregate = record {
  schema = s;
  levels = (record { tables = bound_at at name ∷ []; shown = shown }) ∷ [];
  may_aggregate = may_aggregate;
  may_alias = true;
}
