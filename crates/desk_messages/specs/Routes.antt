-- The routes of the desk: the patterns of the rows of asks, the table that targets are matched
-- with, and what a target and a method ask for.
use Rattle.std.specs.Prelude.{◌≡◌, ◌≢◌, ℕ, List, [], Some, option_map, Result, Ok, Err, IsUtf8}
use Rattle.std.specs.List.{fold}
use Rattle.matchit.specs.Order.{placed}
use Rattle.matchit.specs.Route.{Scan, parse_route}
use Rattle.matchit.specs.Router.{RouteOf, route_from}
use Rattle.matchit.specs.Rows.{RowsOf}
use Rattle.matchit.specs.Seek.{first}
use Rattle.matchit.specs.declared.error.InsertError.{InsertError}
use Rattle.conversation.specs.declared.message.method.Method.{Method}
use Rattle.asks.specs.Ask.{row_method}
use Rattle.asks.specs.Endpoint.{all_kinds, endpoint_of}
use Rattle.asks.specs.Target.{Names, pattern_text}
use Rattle.asks.specs.declared.kind.AskKind.{AskKind}
use Rattle.asks.specs.declared.value.Value.{Value}
use Rattle.desk_messages.specs.declared.desk_fault.DeskFault.{DeskFault}
use Rattle.desk_messages.specs.declared.desk_fault.DeskFault.TheVariants as faults
use Rattle.desk_messages.specs.declared.named.Named.{Named}

-- the pattern of the targets of a kind, in the syntax of `matchit`
abbrev pub pattern_of : AskKind → List ℕ
pattern_of kind = pattern_text (endpoint_of kind).places (endpoint_of kind).end

-- the rows of a router, as `matchit` keeps them
abbrev pub Table : Type 0
Table = RowsOf (RouteOf AskKind)

-- a table with a pattern that was read
abbrev pub with_pattern : Table → Result Scan InsertError → AskKind → Table
with_pattern rows (Ok scan) kind = placed (scan.pattern, route_from scan kind) rows
with_pattern rows (Err error) kind = rows

-- a table with the pattern of a kind
abbrev pub with_kind : Table → AskKind → Table
with_kind rows kind = with_pattern rows (parse_route (pattern_of kind)) kind

-- the table of all kinds
unfoldable pub table : Table
table = fold with_kind [] all_kinds

abbrev pub kind_of : RouteOf AskKind → AskKind
kind_of route = route.value

-- the target is text, and `matchit` finds the kind for it
pub record FindsKind (target : List ℕ) (kind : AskKind) : Type 0 where
  pub text : IsUtf8 target
  pub found : option_map kind_of (first table target) ≡ Some kind

-- the target names this
abbrev pub IsNamed : List ℕ → Named → Type 0
IsNamed target named = Names (endpoint_of named.kind) target named.values.items

-- the target names values of the kind, and the method asks for it
pub record IsAskedFor (target : List ℕ) (method : Method) (kind : AskKind) (values : List Value)
    : Type 0 where
  pub names : Names (endpoint_of kind) target values
  pub asked : (endpoint_of kind).method ≡ row_method method

-- the target names values of a kind that is asked for by this method alone, and not by that one
pub record IsAllowed (target : List ℕ) (method allowed : Method) : Type 0 where
  pub kind : AskKind
  pub values : List Value
  pub names : Names (endpoint_of kind) target values
  pub own : (endpoint_of kind).method ≡ allowed
  pub other : allowed ≢ row_method method

-- the target names nothing
abbrev pub NamesNothing : List ℕ → Type 0
NamesNothing target =
    (kind : AskKind) (values : List Value) → ¬ Names (endpoint_of kind) target values

-- what a target and a method ask for, or why they ask for nothing
abbrev pub IsRouted : List ℕ → Method → Result Named DeskFault → Type 0
IsRouted target method (Ok named) = IsAskedFor target method named.kind named.values.items
IsRouted target method (Err faults.NoRoute) = NamesNothing target
IsRouted target method (Err (faults.Method allowed)) = IsAllowed target method allowed
IsRouted target method (Err fault) = ⊥
