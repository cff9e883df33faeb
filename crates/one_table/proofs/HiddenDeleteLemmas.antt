-- What a DELETE does to a table whose rows have hidden numbers.
use Rattle.std.proofs.Common.{Bool, List, map, IsTrue, refl}
use Rattle.std.specs.List.{AllByRecursion}
use Rattle.sqlite_value.specs.Order.{Row}
use Rattle.sqlite_trees.specs.Tree.{rowid, IsTable}
use Rattle.sqlite_trees.specs.View.{is_int}
use Rattle.sqlite_sql.specs.Term.{Term}
use Rattle.sqlite_schema.specs.declared.schema.Table.{Table}
use Rattle.sqlite_keyed.specs.Lists.{delete_where}
use Rattle.sqlite.specs.State.{State}
use Rattle.one_table.specs.Numbered.{AreHidden, IsInOrder}
use Rattle.one_table.specs.Deleting.{Removes, RemovesHidden, removal_query}
use Rattle.one_table.specs.InTransaction.{HasChanged, RemovesRows}
use Rattle.one_table.proofs.NumberedLemmas.{beside, loses, number, picks, rise, rows_are, with_number}
use Rattle.one_table.proofs.DeleteLemmas.{removes_listed}

module _ {X : Type 0} (stored : X → Row) (p : X → Bool) where
  -- the values that are left, behind the numbers that they had
  pub record HasRemoved (t : Table) (xs : List X) (old new : State) : Type 0 where
    pub rows : List Row
    pub changed : HasChanged t rows old new
    pub holds : AreHidden stored rows (delete_where p xs)
    pub rises : IsTable rows
    pub are_numbers : AllByRecursion (λ r. IsTrue (is_int (rowid r))) rows

  -- the values that pass are taken out, and the others stay in their order
  pub removes_hidden : (t : Table) (tests : List Term) (params : Row) → RemovesHidden tests params stored p → (old new : State) (xs : List X)
      → RemovesRows t (removal_query t.tree tests) params old new → AreHidden stored (old.now.trees t.tree) xs → IsInOrder (old.now.trees t.tree)
      → HasRemoved t xs old new
  removes_hidden t tests params removes old new xs h hidden order =
      let before = old.now.trees t.tree in
      let ns = beside stored before xs hidden order in
      let numbered : Removes tests params number (with_number stored) (picks p) = record {
        keyed = λ _. refl;
        passes = λ n. removes.passes n.0 n.1;
      } in
      let after = loses stored before xs hidden order p in
      record {
        rows = map (with_number stored) (delete_where (picks p) ns);
        changed = removes_listed t tests params number (with_number stored) (picks p) numbered old new ns h
            (rows_are stored before xs hidden order) (rise stored before xs hidden order);
        holds = after.0;
        rises = after.1.rises;
        are_numbers = after.1.are_numbers;
      }
