-- Which office a connection, and what a crash may leave of it, stands for.
use Rattle.std.specs.Prelude.{◌≡◌, IsTrue}
use Rattle.sqlite.specs.Effect.{Database, IsDatabase}
use Rattle.sqlite.specs.State.{State}
use Rattle.sqlite_trees.specs.Tree.{Trees}
use Rattle.office_rules.specs.Office.{IsOffice, Office}
use Rattle.book_tables.specs.Holds.{HoldsMembers, StandsFor}

-- what a crash leaves stands for the office: a database of these trees does
abbrev pub RecoversTo : Trees → Office → Type 0
RecoversTo trees o = (db : Database) × IsDatabase db × (trees ≡ db.trees) × StandsFor db o

-- The store stands for the office: so does what an open connection has, and all that a crash may
-- leave.
pub record StoreStandsFor (s : State) (o : Office) : Type 0 where
  pub office : IsOffice o
  pub now : IsTrue s.is_open → StandsFor s.now o
  pub left : (trees : Trees) → s.may_leave trees → RecoversTo trees o

-- The same, and the tables are there.
pub record Stores (s : State) (o : Office) : Type 0 where
  pub office : IsOffice o
  pub members : IsTrue s.is_open → HoldsMembers s.now o
  pub left : (trees : Trees) → s.may_leave trees → RecoversTo trees o
