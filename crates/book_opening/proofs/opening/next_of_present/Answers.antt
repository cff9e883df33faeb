use Rattle.std.proofs.Common.{rules, Err, IsTrue, arith, refl, subst, sym}
use Rattle.sqlite.specs.Held.{state}
use Rattle.sqlite.specs.Effect.{Database, IsDatabase}
use Rattle.sqlite.specs.State.{HasCleanDisk, IsUnchanged}
use Rattle.one_table.proofs.ReadsOnlyLemmas.{fail_as}
use Rattle.book_tables.specs.Holds.{HasOffice}
use Rattle.book_tables.specs.format.Format.{HasFormat}
use Rattle.book_tables.specs.row.Rows.{present_format}
use Rattle.book_opening.proofs.BringingLemmas.{audit_tells}
use Rattle.book_opening.proofs.CauseLemmas.{fails_after, fails_audit}
use Rattle.book_opening.proofs.EndingLemmas.{ends_after, ends_found, ends_looked, known_after, settled_after}
use Rattle.book_opening.proofs.opening.next_of_present.Goals as goal

pub returns-in-Ok-clause-ends : goal.returns-in-Ok-clause-ends
returns-in-Ok-clause-ends g c has =
    let old = state g.S.Store c.args.conn.now in
    let mid = state g.S.Store c.test_told.new.conn in
    let new = state g.S.Store c.next_by_sales.new.conn in
    let shut = g.met.S.Store.shut_if_dirty c.test_told.new.conn.store in
    let looks = c.in-Ok.ensures.reads in
    let same : HasCleanDisk mid → IsUnchanged old mid = λ clean. looks.same clean has in
    let outside : IsTrue c.is_autocommit-outside.result = search rules in
    ends_after old mid new c.next_by_sales.result same (looks.survives has)
    (ends_found mid new c.next_by_sales.result (known_after old mid shut same (λ (db : Database). IsDatabase db × HasOffice db.schema) (λ _. has))
    (settled_after old mid shut same (c.is_autocommit-outside.ensures.settled outside))
    (λ clean. subst (λ (db : Database). HasFormat db present_format) (sym (same clean).0.now_is) (c.in-Ok.ensures.tells clean has))
    c.next_by_sales.ensures.given c.next_by_sales.ensures.follows c.next_by_sales.ensures.looks)

pub returns-in-Err-clause-ends : goal.returns-in-Err-clause-ends
returns-in-Err-clause-ends g c has =
    let old = state g.S.Store c.args.conn.now in
    let new = state g.S.Store c.test_told.new.conn in
    let outside : IsTrue c.is_autocommit-outside.result = search rules in
    let fault = c.fault_of_audit.result in
    ends_looked old new {T = Unit {0}} fault (Err fault) refl has (c.is_autocommit-outside.ensures.settled outside)
    (fail_as fault (Err fault) refl c.in-Err.ensures.reads
    (audit_tells (λ _ _. ⊥) old new present_format (omega arith) (omega arith) has (λ _ f none. absurd none)
    c.in-Err.fault fault c.fault_of_audit.ensures.kind c.fault_of_audit.ensures.value))

pub returns-in-Ok-clause-fails : goal.returns-in-Ok-clause-fails
returns-in-Ok-clause-fails g c opens has clean =
    let old = state g.S.Store c.args.conn.now in
    let mid = state g.S.Store c.test_told.new.conn in
    let new = state g.S.Store c.next_by_sales.new.conn in
    let shut = g.met.S.Store.shut_if_dirty c.test_told.new.conn.store in
    let looks = c.in-Ok.ensures.reads in
    let there = known_after old mid shut (λ (k : HasCleanDisk mid). looks.same k has) (λ (db : Database). IsDatabase db × HasOffice db.schema) (λ _. has) in
    let same = looks.same (omega (arith, (c.next_by_sales.ensures.looks.survives there).clean, clean)) has in
    fails_after g.S.Store old mid new same (looks.survives has) c.next_by_sales.result (c.next_by_sales.ensures.fails clean same.0.is_open there)

pub returns-in-Err-clause-fails : goal.returns-in-Err-clause-fails
returns-in-Err-clause-fails g c opens has clean =
    let old = state g.S.Store c.args.conn.now in
    let new = state g.S.Store c.test_told.new.conn in
    let reads = c.in-Err.ensures.reads in
    fails_audit g.S.Store old new (λ _ _. ⊥) c.in-Err.fault c.fault_of_audit.result c.fault_of_audit.ensures.value
    (opens (omega (arith, (reads.survives has).clean, clean))) (reads.faults clean has)
