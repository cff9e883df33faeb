-- Values that stand in the cells of records.
use Rattle.std.specs.Prelude.{◌≡◌, ◌≢◌, ℕ, List, Option, None, Some, length, ⊤}
use Rattle.std.specs.List.{AllByRecursion}
use Rattle.records.specs.Cell.{Held, nothing, IsTellable}

-- A value that keeps its rule has a cell that can be told, and no other such value has the same.
pub record IsColumn {A : Type 0} (keeps : A → Type 0) (cell_of : A → Held) : Type 0 where
  pub tellable : (value : A) → keeps value → IsTellable (cell_of value)
  pub one : (value other : A) → keeps value → keeps other → cell_of value ≡ cell_of other
      → value ≡ other

-- The same of values in several cells, one after another.
pub record AreColumns {A : Type 0} (keep : A → Type 0) (cells_of : A → List Held) : Type 0 where
  pub tellable : (value : A) → keep value → AllByRecursion IsTellable (cells_of value)
  pub one : (value other : A) → keep value → keep other → cells_of value ≡ cells_of other
      → value ≡ other

-- values by their rules, with as many cells as there are names
pub record IsNamed {A : Type 0} (keep : A → Type 0) (cells_of : A → List Held)
    (names : List (List ℕ)) (value : A) : Type 0 where
  pub kept : keep value
  pub named : length names ≡ length (cells_of value)

-- the cell of a value, or that there is none
abbrev pub cell_or_nothing : {A : Type 0} → (A → Held) → Option A → Held
cell_or_nothing cell_of None = nothing
cell_or_nothing cell_of (Some value) = cell_of value

-- a value by its rule, which is not told as nothing, or none
abbrev pub KeepsIfAny : {A : Type 0} → (A → Type 0) → (A → Held) → Option A → Type 0
KeepsIfAny keeps cell_of None = ⊤
KeepsIfAny keeps cell_of (Some value) = keeps value × (cell_of value ≢ nothing)
