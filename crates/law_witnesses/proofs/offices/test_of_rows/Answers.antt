use Rattle.std.proofs.Common.{◌≡◌, arith, subst, sym}
use Rattle.sqlite.proofs.Callers.{memory_is_clean}
use Rattle.sqlite.specs.Held.{Held, state}
use Rattle.sqlite.specs.State.{HasCleanDisk}
use Rattle.sqlite.specs.Steps.{over_memory}
use Rattle.sqlite_trees.specs.declared.memory.MemStore.{MemStore}
use Rattle.audit_lists.specs.Told.{BreaksOffice}
use Rattle.audit_lists.specs.Ties.{Says}
use Rattle.book_tables.specs.reading.Reading.{HasAllTables}
use Rattle.vend_core.specs.Law.Life.{present}
use Rattle.law_witnesses.specs.Offices.{life_of}
use Rattle.law_witnesses.proofs.OfficeLemmas.{memory_alone}
use Rattle.law_witnesses.proofs.offices.test_of_rows.Goals as goal

pub returns-in-Ok : goal.returns-in-Ok
returns-in-Ok c =
    let it = c.in-Some.ensures {u = tt} in
    let life = life_of it.forward c.args.ats.now c.in-Some._replies.items in
    let conn = c.into_connection-conn.result in
    let s = state over_memory conn in
    let holds = c.into_connection-conn.ensures.holds life it.keeps.kept (memory_is_clean conn) it.running in
    let Has : Held MemStore → Type 0 = λ k. HasAllTables (state over_memory k) in
    let tables : HasAllTables s = subst Has (sym c.into_connection-conn.ensures.same) (it.tables it.keeps.clean it.running) in
    let after = memory_is_clean c.read_office_rows.new.conn in
    let read = c.in-Ok.ensures {u = tt} in
    let was_open = (read.reads.same after tables).0.was_open in
    memory_alone (Says (BreaksOffice 4 c.in-Ok.rows)) c.test_office.result c.test_office.ensures.found
    (λ f breaks. c.office_law.ensures.none 4 s.now c.in-Ok.rows f (present life) (omega arith) (omega arith) (tables was_open)
    (read.given after tables) breaks (holds.now was_open))
