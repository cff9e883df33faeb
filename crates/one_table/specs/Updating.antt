-- An UPDATE of the rows of a table that hold values.
use Rattle.std.specs.Prelude.{◌≡◌, ℤ, Bool, List, [], ◌∷◌, drop}
use Rattle.std.specs.List.{list_all}
use Rattle.sqlite_value.specs.declared.value.Value.TheVariants.{Int}
use Rattle.sqlite_value.specs.Order.{Row}
use Rattle.sqlite_trees.specs.Tree.{rowid}
use Rattle.sqlite_sql.specs.Term.{Term, eval_all, holds}
use Rattle.sqlite_schema.specs.declared.schema.Table.{Table}
use Rattle.sqlite_rules.specs.Cast.{cast_row}

-- The tests are p of a value. The terms are its rowid, and then the row of what f makes of it,
-- which keeps its key.
pub record Sets {X : Type 0} (t : Table) (tests terms : List Term) (params : Row) (key : X → ℤ)
    (stored : X → Row) (p : X → Bool) (f : X → X) : Type 0 where
  pub keyed : (x : X) → rowid (stored x) ≡ Int (key x)
  pub passes : (x : X) → list_all (holds (params ∷ stored x ∷ [])) tests ≡ p x
  pub identifies : (x : X) → rowid (eval_all terms (params ∷ stored x ∷ [])) ≡ Int (key x)
  pub becomes : (x : X)
      → cast_row t (drop 1 (eval_all terms (params ∷ stored x ∷ []))) ≡ stored (f x)
  pub stays : (x : X) → key (f x) ≡ key x

-- The same for values behind hidden numbers, whatever the number is.
pub record SetsHidden {X : Type 0} (t : Table) (tests terms : List Term) (params : Row)
    (stored : X → Row) (p : X → Bool) (f : X → X) : Type 0 where
  pub passes : (number : ℤ) (x : X)
      → list_all (holds (params ∷ (Int number ∷ stored x) ∷ [])) tests ≡ p x
  pub identifies : (number : ℤ) (x : X)
      → rowid (eval_all terms (params ∷ (Int number ∷ stored x) ∷ [])) ≡ Int number
  pub becomes : (number : ℤ) (x : X)
      → cast_row t (drop 1 (eval_all terms (params ∷ (Int number ∷ stored x) ∷ [])))
      ≡ Int number ∷ stored (f x)
