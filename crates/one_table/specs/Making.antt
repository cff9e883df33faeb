-- CREATE TABLE, and what it makes of a database.
use Rattle.std.specs.Prelude.{◌≡◌, ℕ, Bool, true, false, not, ◌&&◌, ◌==◌, ◌<◌, if◌then◌else◌, List}
use Rattle.std.specs.Prelude.{[], ◌∷◌, ◌++◌, codes, length, fold, IsTrue, None, Ok, Err}
use Rattle.std.specs.List.{AllByRecursion, AllZip, list_all}
use Rattle.sqlite_value.specs.declared.value.Value.TheVariants.{Null}
use Rattle.sqlite_value.specs.declared.keys.Collation.TheVariants.{Binary}
use Rattle.sqlite_ast.specs.declared.Statement.{Statement}
use Rattle.sqlite_ast.specs.declared.Statement.TheVariants.{CreateTable}
use Rattle.sqlite_syntax.specs.declared.statement.Parsed.{Parsed}
use Rattle.sqlite_schema.specs.declared.schema.Column.{Column}
use Rattle.sqlite_schema.specs.declared.schema.Kind.TheVariants.{Any}
use Rattle.sqlite_schema.specs.declared.schema.Schema.{Schema}
use Rattle.sqlite_schema.specs.declared.schema.Table.{Table}
use Rattle.sqlite_resolve.specs.Lowering.{Checked}
use Rattle.sqlite_resolve.specs.Compile.{first, table_defined_by}
use Rattle.sqlite_catalog.specs.Change.{created, is_used, next_tree, KeepsRows}
use Rattle.sqlite.specs.Does.{lacks_sequence}
use Rattle.sqlite.specs.Effect.{Database, IsDatabase}
use Rattle.sqlite.specs.State.{State, Survives}
use Rattle.sqlite.specs.declared.error.Error.{Error}
use Rattle.sqlite_trees.specs.declared.store.Store.{Ghosts}
use Rattle.one_table.specs.Committing.{HasBeen}
use Rattle.one_table.specs.InTransaction.{FailsToRun}
use Rattle.one_table.specs.Place.{Has}
use Rattle.one_table.specs.Standing.{Stands, tree_in}
use Rattle.one_table.specs.Referring.{is_among, is_unreferred, is_idle, is_harmless, is_left_alone}

-- ---- the text

abbrev pub is_plain_create : Statement → Bool
is_plain_create (CreateTable def) = not def.if_missing
is_plain_create _ = false

abbrev pub is_creation_as : List ℕ → Checked Parsed → Bool
is_creation_as text (Ok p) = is_plain_create p.statement && p.start == 0 && p.end == length text
is_creation_as text (Err e) = false

-- the text is one CREATE TABLE from its first byte to its last, without IF NOT EXISTS
unfoldable pub is_creation : List ℕ → Bool
is_creation text = is_creation_as text (first text)

abbrev pub AreDefined : List (List ℕ) → List Table → Type 0
AreDefined texts ts = AllZip (λ text t. table_defined_by text ≡ Ok t) texts ts

-- ---- the schema

abbrev untyped : List ℕ → Column
untyped name =
    record {
      name = name;
      kind = Any;
      is_strict = false;
      not_null = false;
      default = Null;
      collation = Binary;
    }

-- SQLite's own table, in which an AUTOINCREMENT counts
abbrev pub counters : Table
counters = record {
  name = codes "sqlite_sequence";
  tree = 0;
  columns = untyped (codes "name") ∷ untyped (codes "seq") ∷ [];
  key = None;
  primary = [];
  uniques = [];
  orders = [];
  checks = [];
  references = [];
  computed = [];
  stamps = record { places = []; terms = []; formats = [] };
  is_counted = false;
}

-- a CREATE TABLE also makes the counters, where some other table counts and they are missing
abbrev pub with_counters : Schema → Schema
with_counters s = if lacks_sequence s then created s counters else s

abbrev pub made : Schema → Table → Schema
made s t = with_counters (created s t)

-- ---- the database

-- the table is made, empty, where its name was free, and the rows of the tables that stood stay
pub record MakesTable (t : Table) (a b : Database) : Type 0 where
  pub free : is_used a.schema t.name ≡ false
  pub schema : b.schema ≡ made a.schema t
  pub empty : b.trees (next_tree a.schema) ≡ []
  pub rows : KeepsRows a.schema.tables a.trees b.trees
  pub sound : IsDatabase b

abbrev pub IsNewTable : Database → Table → Type 0
IsNewTable db t = Stands db.schema t × (db.trees (tree_in db.schema t.name) ≡ [])

abbrev pub AreAmong : List (List ℕ) → List Table → Type 0
AreAmong names = AllByRecursion (λ t. is_among names t.name ≡ true)

abbrev pub AreIdle : List Table → Type 0
AreIdle = AllByRecursion (λ t. list_all is_idle t.references ≡ true)

-- the tables are made in turn
pub record MakesTables (ts : List Table) (a b : Database) : Type 0 where
  -- the schema as a whole: tables, indexes and views
  pub schema : b.schema ≡ fold made a.schema ts
  -- each name was free, and the table that now stands under it is empty
  pub free : AllByRecursion (λ t. is_used a.schema t.name ≡ false) ts
  pub new : AllByRecursion (IsNewTable b) ts
  -- each table that stood stands where it stood, with its keys and its rows
  pub places : (at : ℕ) (u : Table) → Has a.schema at u → Has b.schema at u
  pub still : (u : Table) → Stands a.schema u
      → Stands b.schema u × (tree_in b.schema u.name ≡ tree_in a.schema u.name)
      × (b.trees (tree_in b.schema u.name) ≡ a.trees (tree_in a.schema u.name))
  pub rows : KeepsRows a.schema.tables a.trees b.trees
  -- no reference onto these names came in, but from the tables themselves
  pub unreferred : (names : List (List ℕ)) → AreAmong names ts → is_unreferred names a.schema ≡ true
      → is_unreferred names b.schema ≡ true
  pub harmless : (names : List (List ℕ)) → AreIdle ts → is_harmless names a.schema ≡ true
      → is_harmless names b.schema ≡ true
  pub left_alone : (names : List (List ℕ)) → AreAmong names ts → AreIdle ts
      → is_harmless names a.schema ≡ true
      → AllByRecursion (λ t. is_left_alone b.schema (tree_in b.schema t.name) ≡ true) ts
  pub alone : (tree : ℕ) → tree < next_tree a.schema → AreIdle ts
      → is_left_alone a.schema tree ≡ true → is_left_alone b.schema tree ≡ true
  pub sound : IsDatabase b

-- ---- why the tables are not made

-- no fault is forgotten, and the tables of these texts are there, where the database was sound
pub record HasMadeBefore (texts : List (List ℕ)) (old mid : State) : Type 0 where
  pub survives : Survives old mid (λ _. ⊥)
  pub tables : IsTrue mid.is_open → (IsTrue old.is_open → IsDatabase old.now)
      → (ts : List Table) → AreDefined texts ts → MakesTables ts old.now mid.now

-- the tables of some texts, or of none, were made, and the text after them fails on what they left
abbrev pub FailsToMake : {S : Type 0} → Ghosts S → List (List ℕ) → State → State → Error → Type 0
FailsToMake g texts old new e =
    (before : List (List ℕ)) × (text : List ℕ) × (after : List (List ℕ))
    × (before ++ text ∷ after ≡ texts)
    × HasBeen g (λ mid. HasMadeBefore before old mid × FailsToRun text [] mid new e)
