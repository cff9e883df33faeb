use Rattle.std.proofs.Common.{◌≡◌, ◌∷◌, Ok, take}
use Rattle.std.specs.List.{flat_map}
use Rattle.sqlite.specs.State.{HasCleanDisk}
use Rattle.sqlite.specs.Held.{state}
use Rattle.office_rules.specs.declared.office.row.Row.{Row}
use Rattle.one_table.specs.InTransaction.{IsUnderWay, KeepsTransaction}
use Rattle.book_tables.specs.writing.Writes.{AreCarriedOut, row_writes}
use Rattle.book_tables.specs.reading.Reading.{HasAllTables}
use Rattle.book_tables.specs.declared.error.TableError.{TableError}
use Rattle.book_states.specs.Changing.{MakesRows}
use Rattle.book_edits.proofs.changing.rows.add_rows.Given as goal

abbrev pub invariant-others : goal.invariant-others
invariant-others g l =
    let old = state g.S.Store l.fn.tx.conn.now in
    let now = state g.S.Store l.tx.conn.now in
    record {
      same : l.tx.conn.ghost_name ≡ l.fn.tx.conn.ghost_name;
      transaction : KeepsTransaction {T = Unit {0}} {E = TableError} old now (Ok tt);
      added : HasCleanDisk now → IsUnderWay old → HasAllTables old → (first : Row) × (l.rows ≡ first ∷ l.others)
          × MakesRows (first ∷ take l.row-index l.others) old.now now.now;
      written : HasCleanDisk now → IsUnderWay old → HasAllTables old → (first : Row) × (l.rows ≡ first ∷ l.others)
          × AreCarriedOut (flat_map row_writes (first ∷ take l.row-index l.others)) old now;
    }
