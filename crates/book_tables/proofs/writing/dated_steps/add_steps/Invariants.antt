use Rattle.std.proofs.Common.{◌≡◌, ◌+◌, ◌∷◌, Ok, take}
use Rattle.sqlite.specs.Held.{state}
use Rattle.sqlite.specs.State.{HasCleanDisk}
use Rattle.tariff.specs.declared.step.Step.{Step}
use Rattle.one_table.specs.InTransaction.{KeepsTransaction}
use Rattle.book_tables.specs.reading.Reading.{HasAllTables}
use Rattle.book_tables.specs.writing.Writes.{AreCarriedOut, steps_writes}
use Rattle.book_tables.specs.writing.Writing.{AddsSteps}
use Rattle.book_tables.specs.declared.error.TableError.{TableError}
use Rattle.book_tables.proofs.writing.dated_steps.add_steps.Given as goal

abbrev pub invariant-others : goal.invariant-others
invariant-others g l =
    let old = state g.S.Store l.fn.tx.conn.now in
    let now = state g.S.Store l.tx.conn.now in
    record {
      same : l.tx.conn.ghost_name ≡ l.fn.tx.conn.ghost_name;
      place : l.place ≡ l.step-index + 1;
      transaction : KeepsTransaction {T = Unit {0}} {E = TableError} old now (Ok tt);
      added : HasCleanDisk now → HasAllTables old → (first : Step) × (l.steps ≡ first ∷ l.others)
          × AddsSteps l.name l.day (first ∷ take l.step-index l.others) old now;
      written : HasCleanDisk now → HasAllTables old → (first : Step) × (l.steps ≡ first ∷ l.others)
          × AreCarriedOut (steps_writes l.name l.day (first ∷ take l.step-index l.others)) old now;
    }
