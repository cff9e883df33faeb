-- Tables whose rows have no number of their own: SQLite gives each row one, which no statement
-- shows.
use Rattle.std.specs.Prelude.{◌≡◌, ℕ, Bool, IsTrue, List, [], ◌∷◌, map, drop}
use Rattle.std.specs.List.{AllByRecursion, list_all}
use Rattle.sqlite_value.specs.declared.value.Value.{Value}
use Rattle.sqlite_value.specs.Order.{Row}
use Rattle.sqlite_trees.specs.Tree.{IsTable, Trees, rowid}
use Rattle.sqlite_trees.specs.View.{is_int}
use Rattle.sqlite_sql.specs.Term.{Term, eval_all, holds}

-- the rows are these values, in this order, each after its hidden number
abbrev pub AreHidden : {X : Type 0} → (X → Row) → List Row → List X → Type 0
AreHidden stored rows xs = map (drop 1) rows ≡ map stored xs

-- The table holds these values behind hidden numbers. Whatever the number is, the tests are p of
-- the value, and what is shown of it is this row.
pub record IsHiddenListing {X : Type 0} (db : Trees) (tree : ℕ) (tests shown : List Term)
    (params : Row) (stored : X → Row) (xs : List X) (p : X → Bool) (show : X → Row) : Type 0 where
  pub holds_them : AreHidden stored (db tree) xs
  pub some : (x : X) → ¬ (stored x ≡ [])
  pub passes : (number : Value) (x : X)
      → list_all (holds (params ∷ (number ∷ stored x) ∷ [])) tests ≡ p x
  pub shows : (number : Value) (x : X) → eval_all shown (params ∷ (number ∷ stored x) ∷ []) ≡ show x

-- the numbers of the rows, which stand in front of their columns, are whole and rise
pub record IsInOrder (rows : List Row) : Type 0 where
  pub rises : IsTable rows
  pub are_numbers : AllByRecursion (λ r. IsTrue (is_int (rowid r))) rows
