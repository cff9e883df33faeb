use Rattle.std.proofs.Common.{rules, Err, IsTrue, arith, refl, sym, ◌∙◌}
use Rattle.sqlite.specs.Held.{state}
use Rattle.sqlite.specs.Effect.{Database, IsDatabase}
use Rattle.sqlite.specs.State.{HasCleanDisk, IsUnchanged}
use Rattle.one_table.proofs.ReadsOnlyLemmas.{fail_as}
use Rattle.book_tables.specs.Holds.{HasOfficeOf}
use Rattle.audit.specs.Fails.{IsNoOffices}
use Rattle.audit.specs.Shown.{AreOfficeRows}
use Rattle.book_opening.proofs.BringingLemmas.{audit_tells, none_of, rows_after, rows_there, sold_of_rows, sound_with}
use Rattle.book_opening.specs.NoOffice.IsNoOffice.{by_audit}
use Rattle.book_opening.proofs.CauseLemmas.{fails_after, fails_audit, fails_bringing}
use Rattle.book_opening.proofs.EndingLemmas.{ends_after, ends_brought, ends_looked, ends_unbrought, known_after}
use Rattle.book_opening.proofs.opening.next_of_older.Goals as goal

pub returns-in-Err-clause-ends : goal.returns-in-Err-clause-ends
returns-in-Err-clause-ends g c has =
    let old = state g.S.Store c.args.conn.now in
    let new = state g.S.Store c.office_rows.new.conn in
    let outside : IsTrue c.is_autocommit-outside.result = search rules in
    let fault = c.fault_of_audit.result in
    ends_looked old new {T = Unit {0}} fault (Err fault) refl has (c.is_autocommit-outside.ensures.settled outside)
    (fail_as fault (Err fault) refl c.in-Err.ensures.reads
    (audit_tells IsNoOffices old new c.args.from c.requires.some (omega (arith, c.requires.older)) has
    (λ there f found. (by_audit c.args.from c.requires.some c.requires.older there f found, none_of f old.now found))
    c.in-Err.fault fault c.fault_of_audit.ensures.kind c.fault_of_audit.ensures.value))

pub returns-clause-ends : goal.returns-clause-ends
returns-clause-ends g c has =
    let old = state g.S.Store c.args.conn.now in
    let mid = state g.S.Store c.office_rows.new.conn in
    let new = state g.S.Store c.bring_office.new.conn in
    let rows = c.in-Ok.rows in
    let reads = c.in-Ok.ensures.reads in
    let shut = g.met.S.Store.shut_if_dirty c.office_rows.new.conn.store in
    let same : HasCleanDisk mid → IsUnchanged old mid = λ clean. reads.same clean has in
    let given : HasCleanDisk mid → AreOfficeRows c.args.from old.now rows = λ clean. c.in-Ok.ensures.given clean has in
    let opens : HasCleanDisk mid → IsTrue mid.is_open = λ clean. (same clean).0.is_open in
    let after = rows_after c.args.from rows old mid shut same has given in
    let with = sound_with c.args.from rows old mid shut same has given c.deref.result.now c.deref-2.result.now c.deref.ensures.value c.deref-2.ensures.value in
    ends_after old mid new _ same (reads.survives has)
    (ends_brought c.args.from mid new c.requires.older opens (λ clean. rows_there c.args.from mid.now rows (after clean))
    (c.bring_office.ensures.survives opens with) c.of_sales.result (λ clean. sold_of_rows c.args.from rows mid c.of_sales.result
    (λ o is. c.of_sales.ensures o (is ∙ sym c.deref-3.ensures.value)) (opens clean) (after clean))
    (λ clean. c.in_ok-bring_office.ensures.brought clean with))

pub returns-in_err-bring_office-clause-ends : goal.returns-in_err-bring_office-clause-ends
returns-in_err-bring_office-clause-ends g c has =
    let old = state g.S.Store c.args.conn.now in
    let mid = state g.S.Store c.office_rows.new.conn in
    let new = state g.S.Store c.bring_office.new.conn in
    let rows = c.in-Ok.rows in
    let reads = c.in-Ok.ensures.reads in
    let shut = g.met.S.Store.shut_if_dirty c.office_rows.new.conn.store in
    let same : HasCleanDisk mid → IsUnchanged old mid = λ clean. reads.same clean has in
    let given : HasCleanDisk mid → AreOfficeRows c.args.from old.now rows = λ clean. c.in-Ok.ensures.given clean has in
    let opens : HasCleanDisk mid → IsTrue mid.is_open = λ clean. (same clean).0.is_open in
    let after = rows_after c.args.from rows old mid shut same has given in
    let there = known_after old mid shut same (λ (db : Database). IsDatabase db × HasOfficeOf c.args.from db.schema) (λ _. has) in
    let with = sound_with c.args.from rows old mid shut same has given c.deref.result.now c.deref-2.result.now c.deref.ensures.value c.deref-2.ensures.value in
    let told = c.in_err-bring_office.ensures in
    let survives = c.bring_office.ensures.survives opens with in
    ends_after old mid new c.from_residual.result same (reads.survives has)
    (ends_unbrought c.args.from mid new c.requires.older opens (λ clean. rows_there c.args.from mid.now rows (after clean)) survives
    c.in_err-bring_office.field-0.0 c.from_residual.result c.from_residual.ensures.1
    (λ clean. told.told clean (opens (omega (arith, survives.clean, clean))) there) told.undone (told.risks opens with))

pub returns-in-Err-clause-fails : goal.returns-in-Err-clause-fails
returns-in-Err-clause-fails g c opens has clean =
    let old = state g.S.Store c.args.conn.now in
    let new = state g.S.Store c.office_rows.new.conn in
    let reads = c.in-Err.ensures.reads in
    fails_audit g.S.Store old new IsNoOffices c.in-Err.fault c.fault_of_audit.result c.fault_of_audit.ensures.value
    (opens (omega (arith, (reads.survives has).clean, clean))) (reads.faults clean has)

pub returns-in_err-bring_office-clause-fails : goal.returns-in_err-bring_office-clause-fails
returns-in_err-bring_office-clause-fails g c _ has clean =
    let old = state g.S.Store c.args.conn.now in
    let mid = state g.S.Store c.office_rows.new.conn in
    let new = state g.S.Store c.bring_office.new.conn in
    let rows = c.in-Ok.rows in
    let reads = c.in-Ok.ensures.reads in
    let shut = g.met.S.Store.shut_if_dirty c.office_rows.new.conn.store in
    let same : HasCleanDisk mid → IsUnchanged old mid = λ clean. reads.same clean has in
    let given : HasCleanDisk mid → AreOfficeRows c.args.from old.now rows = λ clean. c.in-Ok.ensures.given clean has in
    let opens : HasCleanDisk mid → IsTrue mid.is_open = λ clean. (same clean).0.is_open in
    let there = known_after old mid shut same (λ (db : Database). IsDatabase db × HasOfficeOf c.args.from db.schema) (λ _. has) in
    let with = sound_with c.args.from rows old mid shut same has given c.deref.result.now c.deref-2.result.now c.deref.ensures.value c.deref-2.ensures.value in
    let early : HasCleanDisk mid = omega (arith, (c.bring_office.ensures.survives opens with).clean, clean) in
    let runs = opens early in
    fails_after g.S.Store old mid new (same early) (reads.survives has) c.from_residual.result
    (fails_bringing g.S.Store c.args.from c.office_rows.new.conn new c.in_err-bring_office.field-0.0 c.from_residual.result
    c.from_residual.ensures.1 c.requires.older runs (there runs).1
    (c.in_err-bring_office.ensures.fails clean with))
