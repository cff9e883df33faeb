-- References between tables: which tables point onto others, and what an update would set off.
use Rattle.std.specs.Prelude.{ℕ, Bool, true, false, not, ◌||◌, ◌&&◌, ◌==◌, List, find}
use Rattle.std.specs.Prelude.{option_map, unwrap_or}
use Rattle.std.specs.List.{list_all, list_any}
use Rattle.sqlite_schema.specs.Names.{same_name}
use Rattle.sqlite_schema.specs.declared.schema.Action.{Action}
use Rattle.sqlite_schema.specs.declared.schema.Action.TheVariants.{NoAction}
use Rattle.sqlite_schema.specs.declared.schema.Reference.{Reference}
use Rattle.sqlite_schema.specs.declared.schema.Schema.{Schema}
use Rattle.sqlite_schema.specs.declared.schema.Table.{Table}

-- the name is one of these
abbrev pub is_among : List (List ℕ) → List ℕ → Bool
is_among names name = list_any (λ n. same_name name n) names

-- the table is one of these names, or refers to none of them
abbrev pub is_apart : List (List ℕ) → Table → Bool
is_apart names t =
    is_among names t.name || list_all (λ r. not (is_among names r.parent)) t.references

-- No other table refers to one of these names, be there a table of that name or not.
abbrev pub is_unreferred : List (List ℕ) → Schema → Bool
is_unreferred names s = list_all (is_apart names) s.tables

abbrev pub is_no_action : Action → Bool
is_no_action NoAction = true
is_no_action _ = false

-- the reference does nothing where a row that it points to is changed or deleted
abbrev pub is_idle : Reference → Bool
is_idle r = is_no_action r.on_delete && is_no_action r.on_update

-- no reference onto one of these names takes an action
abbrev pub is_harmless : List (List ℕ) → Schema → Bool
is_harmless names s =
    list_all (λ t. list_all (λ r. is_idle r || not (is_among names r.parent)) t.references) s.tables

-- the reference points to the table of a tree
abbrev pub points_to : Schema → ℕ → Reference → Bool
points_to s tree r =
    unwrap_or (option_map (λ t. t.tree == tree) (find (λ t. same_name t.name r.parent) s.tables))
    false

-- no reference to the table of a tree takes an action
abbrev pub is_left_alone : Schema → ℕ → Bool
is_left_alone s tree =
    list_all (λ t. list_all (λ r. is_idle r || not (points_to s tree r)) t.references) s.tables
