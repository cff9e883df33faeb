use Rattle.std.proofs.Common.{◌≡◌, Ok, take}
use Rattle.sqlite.specs.Held.{state}
use Rattle.sqlite.specs.State.{HasCleanDisk}
use Rattle.one_table.specs.InTransaction.{KeepsTransaction}
use Rattle.book_tables.specs.reading.Reading.{HasAllTables}
use Rattle.book_tables.specs.writing.Writes.{AreCarriedOut, tariff_writes}
use Rattle.book_tables.specs.writing.Writing.{AddsTariff}
use Rattle.book_tables.specs.declared.error.TableError.{TableError}
use Rattle.book_tables.proofs.writing.additions.add_tariff.Given as goal

abbrev pub invariant-steps : goal.invariant-steps
invariant-steps g l =
    let old = state g.S.Store l.fn.tx.conn.now in
    let now = state g.S.Store l.tx.conn.now in
    record {
      same : l.tx.conn.ghost_name ≡ l.fn.tx.conn.ghost_name;
      place : l.place ≡ l.step-index;
      transaction : KeepsTransaction {T = Unit {0}} {E = TableError} old now (Ok tt);
      added : HasCleanDisk now → HasAllTables old → AddsTariff l.name (take l.step-index l.steps) old now;
      written : HasCleanDisk now → HasAllTables old → AreCarriedOut (tariff_writes l.name (take l.step-index l.steps)) old now;
    }
