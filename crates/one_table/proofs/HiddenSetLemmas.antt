-- What an UPDATE does to a table whose rows have hidden numbers.
use Rattle.std.proofs.Common.{◌≡◌, ◌≤◌, Bool, List, [], map, filter, length, IsTrue, refl, sym, subst}
use Rattle.std.specs.List.{AllByRecursion}
use Rattle.sqlite_value.specs.Order.{Row}
use Rattle.sqlite_trees.specs.Tree.{rowid, IsTable}
use Rattle.sqlite_trees.specs.View.{is_int}
use Rattle.sqlite_sql.specs.Term.{Term}
use Rattle.sqlite_schema.specs.declared.schema.Table.{Table}
use Rattle.sqlite_keyed.specs.Lists.{update_where}
use Rattle.sqlite.specs.State.{State}
use Rattle.one_table.specs.Listed.{query_on, no_limit}
use Rattle.one_table.specs.Numbered.{AreHidden, IsInOrder}
use Rattle.one_table.specs.InTransaction.{HasChanged, SetsRows}
use Rattle.one_table.specs.Updating.{Sets, SetsHidden}
use Rattle.one_table.proofs.NumberedLemmas.{as_many, beside, changes, makes, number, picks, rise, rows_are, set_in, with_number}
use Rattle.one_table.proofs.UpdateLemmas.{sets_listed}

module _ {X : Type 0} (stored : X → Row) (p : X → Bool) (f : X → X) where
  -- the values that were set, behind the numbers that they had
  pub record HasSet (t : Table) (xs : List X) (old new : State) : Type 0 where
    pub rows : List Row
    pub changed : HasChanged t rows old new
    pub holds : AreHidden stored rows (update_where p f xs)
    pub rises : IsTable rows
    pub are_numbers : AllByRecursion (λ r. IsTrue (is_int (rowid r))) rows

  -- what is set is set in the values, where at most one of them passes
  pub sets_hidden : (t : Table) (tests terms : List Term) (params : Row) → SetsHidden t tests terms params stored p f
      → ((x : X) → (stored x ≡ []) → ⊥) → (old new : State) (xs : List X)
      → SetsRows t (query_on t.tree tests terms [] no_limit) params old new → AreHidden stored (old.now.trees t.tree) xs → IsTable (old.now.trees t.tree)
      → AllByRecursion (λ r. IsTrue (is_int (rowid r))) (old.now.trees t.tree) → length (filter p xs) ≤ 1 → HasSet t xs old new
  sets_hidden t tests terms params sets some old new xs h hidden up ints few =
      let before = old.now.trees t.tree in
      let order : IsInOrder before = record { rises = up; are_numbers = ints } in
      let ns = beside stored before xs hidden order in
      let numbered : Sets t tests terms params number (with_number stored) (picks p) (makes p f) = record {
        keyed = λ _. refl;
        passes = λ n. sets.passes n.0 n.1;
        identifies = λ n. sets.identifies n.0 n.1;
        becomes = λ n. sets.becomes n.0 n.1;
        stays = λ _. refl;
      } in
      let after = changes stored before xs hidden order p f in
      record {
        rows = map (with_number stored) (set_in p f ns);
        changed = sets_listed t tests terms params number (with_number stored) (picks p) (makes p f) numbered old new ns h
            (rows_are stored before xs hidden order) (rise stored before xs hidden order)
            (subst (λ n. n ≤ 1) (sym (as_many stored before xs hidden order p)) few);
        holds = after.0;
        rises = after.1.rises;
        are_numbers = after.1.are_numbers;
      }
