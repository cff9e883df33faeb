-- The office that a database shows: what its statements can see, which the hidden numbers of rows
-- are not.
use Rattle.std.specs.Prelude.{◌≡◌, ◌≤◌, ℕ, Bool, true, false, List, map, drop}
use Rattle.std.specs.List.{AllByRecursion}
use Rattle.sqlite.specs.Effect.{Database, IsDatabase}
use Rattle.sqlite.specs.Order.{Row}
use Rattle.sqlite_trees.specs.Tree.{Trees}
use Rattle.office_rules.specs.Office.{IsOffice, Office, empty_office}
use Rattle.book_tables.specs.Holds.{HasOfficeOf, rows_in}
use Rattle.book_tables.specs.Kept.{Kept, upto}
use Rattle.book_tables.specs.Stands.{AreMembersOf, IsOfFormat}
use Rattle.book_tables.specs.row.Rows.{Rows, present_format}

-- the rows are these, or these after hidden numbers, whatever those are
abbrev pub AreShownRows : Bool → List Row → List Row → Type 0
AreShownRows true rows stored = rows ≡ stored
AreShownRows false rows stored = map (drop 1) rows ≡ stored

-- the table shows what is stored of these rows in a format
abbrev pub ShowsTable : Database → ℕ → Rows → Kept → Type 0
ShowsTable db n rows k = AreShownRows k.is_numbered (rows_in db k.table.name) (k.stored n rows)

-- the database has the tables of a format, which show these rows
pub record ShowsTables (n : ℕ) (db : Database) (rows : Rows) : Type 0 where
  pub has : HasOfficeOf n db.schema
  pub are : AllByRecursion (ShowsTable db n rows) (upto n)
  pub of_format : IsOfFormat n rows

-- The database shows the members of the office in the tables of a format, and where that has none
-- the office is empty. It stands for the office if the rows are in the order of their numbers too.
pub record ShowsOffice (db : Database) (o : Office) : Type 0 where
  pub office : IsOffice o
  pub format : ℕ
  pub known : format ≤ present_format
  pub rows : Rows
  pub shown : ShowsTables format db rows
  pub members : AreMembersOf rows o
  pub empty : format ≡ 0 → o ≡ empty_office

-- what an opening finds shows the office: a database of these trees does
abbrev pub FindsOffice : Trees → Office → Type 0
FindsOffice trees o = (db : Database) × IsDatabase db × (trees ≡ db.trees) × ShowsOffice db o
