use Rattle.std.proofs.Common.{◌≡◌, [], ◌∷◌, refl, subst, sym}
use Rattle.sqlite.proofs.Callers.{memory_is_clean}
use Rattle.sqlite.specs.Held.{Held, state}
use Rattle.sqlite.specs.Steps.{over_memory}
use Rattle.sqlite_trees.specs.declared.memory.MemStore.{MemStore}
use Rattle.audit_lists.specs.Tokens.{TellsUnwritten}
use Rattle.book_tables.specs.format.Making.{IsSoundOfFormat}
use Rattle.book_tables.specs.reading.Reading.{HasAllTables}
use Rattle.books.specs.Keeps.{seen}
use Rattle.vend_core.specs.Law.Life.{present}
use Rattle.law_witnesses.specs.Offices.{life_of}
use Rattle.law_witnesses.proofs.OfficeLemmas.{found_nothing, leads, sells_under}
use Rattle.law_witnesses.proofs.offices.test_of_tokens.Goals as goal

pub returns-in-Ok-meter_places : goal.returns-in-Ok-meter_places
returns-in-Ok-meter_places c =
    let it = c.in-Some.ensures {u = tt} in
    let life = life_of it.forward c.args.ats.now c.in-Some._replies.items in
    let o = present life in
    let conn = c.into_connection-conn.result in
    let s = state over_memory conn in
    let holds = c.into_connection-conn.ensures.holds life it.keeps.kept (memory_is_clean conn) it.running in
    let Has : Held MemStore → Type 0 = λ k. HasAllTables (state over_memory k) in
    let tables : HasAllTables s = subst Has (sym c.into_connection-conn.ensures.same) (it.tables it.keeps.clean it.running) in
    let sound : IsSoundOfFormat 4 s = λ opens. ((c.schema-live.ensures.live opens).0, tables opens) in
    let after = memory_is_clean c.office_rows.new.conn in
    let read = c.in-Ok.ensures {u = tt} in
    let was_open = (read.reads.same after sound).0.was_open in
    let rows = read.given after sound in
    let kept = it.keeps.kept it.keeps.clean in
    let led = leads life kept.is_life refl in
    let forward = (seen c.in-Some.books).forward in
    found_nothing (TellsUnwritten forward c.in-Ok.rows) c.test_tokens.result c.test_tokens.ensures.found
    (λ f tells. c.tokens_law.ensures.lives forward (life ∷ []) o f led (sells_under life forward kept.forward)
    (tells o (rows.only o (holds.now was_open))))
