-- A database that shows an office stands for it, if its tables are in order.
use Rattle.std.proofs.Common.{ℕ, Bool, true, false, List, [], ◌∷◌}
use Rattle.std.specs.List.{AllByRecursion}
use Rattle.sqlite.specs.Effect.{Database}
use Rattle.sqlite.specs.Order.{Row}
use Rattle.sqlite.specs.Table.{Table}
use Rattle.one_table.specs.Numbered.{IsInOrder}
use Rattle.one_table.specs.Standing.{Stands}
use Rattle.office_rules.specs.Office.{Office}
use Rattle.book_tables.specs.Holds.{AreStoredRows, HoldsRows, IsKept, StandsFor, rows_in}
use Rattle.book_tables.specs.Kept.{Kept, upto}
use Rattle.book_tables.specs.row.Rows.{Rows}
use Rattle.books.specs.Found.{AreShownRows, ShowsOffice, ShowsTable}

stored_if_ordered : (numbered : Bool) (rows stored : List Row) → IsInOrder rows → AreShownRows numbered rows stored → AreStoredRows numbered rows stored
stored_if_ordered true rows stored order same = same
stored_if_ordered false rows stored order same = (same, order)

shown_if_stored : (numbered : Bool) (rows stored : List Row) → AreStoredRows numbered rows stored → AreShownRows numbered rows stored
shown_if_stored true rows stored same = same
shown_if_stored false rows stored both = both.0

module _ (db : Database) where
  -- the rows of each table stand in the order of their numbers
  abbrev pub AreTablesInOrder : Type 0
  AreTablesInOrder = (t : Table) → Stands db.schema t → IsInOrder (rows_in db t.name)

  each_stored : AreTablesInOrder → (n : ℕ) (rows : Rows) (ks : List Kept) → AllByRecursion (IsKept db.schema) ks
      → AllByRecursion (ShowsTable db n rows) ks → AllByRecursion (HoldsRows db n rows) ks
  each_stored ordered n rows [] has shown = tt
  each_stored ordered n rows (k ∷ ks) has shown = (
    stored_if_ordered k.is_numbered _ _ (ordered k.table has.0.0) shown.0,
    each_stored ordered n rows ks has.1 shown.1,
  )

  each_shown : (n : ℕ) (rows : Rows) (ks : List Kept) → AllByRecursion (HoldsRows db n rows) ks → AllByRecursion (ShowsTable db n rows) ks
  each_shown n rows [] held = tt
  each_shown n rows (k ∷ ks) held = (shown_if_stored k.is_numbered _ _ held.0, each_shown n rows ks held.1)

  module _ (o : Office) where
    -- a database that shows an office stands for it, where its tables are in order
    pub stands_if_ordered : AreTablesInOrder → ShowsOffice db o → StandsFor db o
    stands_if_ordered ordered it = record {
      office = it.office;
      format = it.format;
      known = it.known;
      held = (
        it.rows,
        record {
          has = it.shown.has;
          are = each_stored ordered it.format it.rows (upto it.format) it.shown.has.tables it.shown.are;
          of_format = it.shown.of_format;
        },
        it.members,
      );
      empty = it.empty;
    }

    -- and one that stands for an office shows it
    pub shows_if_stands : StandsFor db o → ShowsOffice db o
    shows_if_stands it = record {
      office = it.office;
      format = it.format;
      known = it.known;
      rows = it.held.0;
      shown = record {
        has = it.held.1.has;
        are = each_shown it.format it.held.0 (upto it.format) it.held.1.are;
        of_format = it.held.1.of_format;
      };
      members = it.held.2;
      empty = it.empty;
    }
