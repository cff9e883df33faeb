-- What is left of the tables that are not the office's, and of the connection.
use Rattle.std.specs.Prelude.{◌≡◌, ◌⊎◌, IsTrue}
use Rattle.std.specs.List.{AllByRecursion}
use Rattle.sqlite.specs.State.{State}
use Rattle.sqlite_schema.specs.declared.schema.Schema.{Schema}
use Rattle.sqlite_trees.specs.Tree.{Trees}
use Rattle.book_tables.specs.Holds.{table_names}
use Rattle.book_tables.specs.writing.Writing.{IsOfNone}

-- each table of another name has the same rows
abbrev pub SameOthers : Schema → Trees → Trees → Type 0
SameOthers s old new =
    AllByRecursion (λ u. IsOfNone s table_names u.tree → new u.tree ≡ old u.tree) s.tables

-- No table of another name has changed: an open connection has the tables that it had and the same
-- rows in those of other names, and a crash leaves what it left before, or such rows. Nor has the
-- limit on the steps of a statement, which would make a later read fail.
pub record LeavesOthers (old new : State) : Type 0 where
  pub was_open : IsTrue new.is_open → IsTrue old.is_open
  pub schema : IsTrue new.is_open → new.now.schema ≡ old.now.schema
  pub now : IsTrue new.is_open → SameOthers old.now.schema old.now.trees new.now.trees
  pub crash : (trees : Trees) → new.may_leave trees
      → old.may_leave trees
      ⊎ (IsTrue old.is_open × SameOthers old.now.schema old.now.trees trees)
  pub limit : new.step_limit ≡ old.step_limit
