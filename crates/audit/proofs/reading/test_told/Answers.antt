use Rattle.std.proofs.Common.{sym, ◌∙◌, Ok, Err, refl}
use Rattle.sqlite.specs.Held.{state}
use Rattle.sqlite.specs.State.{IsUnchanged}
use Rattle.one_table.specs.ReadsOnly.{ReadsOnly}
use Rattle.one_table.proofs.ReadsOnlyLemmas.{read_so, stop_on}
use Rattle.book_tables.specs.format.Making.{IsSoundOfFormat}
use Rattle.audit_rows.specs.declared.finding.AuditFault.TheVariants.{NoOffice}
use Rattle.audit.specs.Fails.{StopsBy}
use Rattle.audit.proofs.ToldLemmas.{about_there, none_told, told_so, told_stops}
use Rattle.audit.proofs.reading.test_told.Goals as goal

pub returns-in-Err-clause-reads : goal.returns-in-Err-clause-reads
returns-in-Err-clause-reads g c = told_stops c.args.format c.requires.some c.requires.known
    c.rows_law.ensures.no_format (λ _ _. ⊥) c.in-Err.error c.cause_of.result c.cause_of.ensures c.in-Err.ensures.reads

pub returns-then-eq-clause-tells : goal.returns-then-eq-clause-tells
returns-then-eq-clause-tells g c clean has =
    let old = state g.S.Store c.args.conn.now in
    told_so c.args.format c.requires.some c.requires.known old.now c.in-Ok.told (sym c.eq.ensures ∙ c.if-eq.true)
    (c.in-Ok.ensures.given clean (about_there c.args.format c.requires.some c.requires.known old has) (λ runs. (has runs).0))

pub returns-then-eq-clause-reads : goal.returns-then-eq-clause-reads
returns-then-eq-clause-reads g c = read_so (about_there c.args.format c.requires.some c.requires.known (state g.S.Store c.args.conn.now)) c.in-Ok.ensures.reads

pub returns-else-eq-clause-reads : goal.returns-else-eq-clause-reads
returns-else-eq-clause-reads g c =
    let old = state g.S.Store c.args.conn.now in
    let there = about_there c.args.format c.requires.some c.requires.known old in
    let looks : ReadsOnly {T = Unit {0}} (IsSoundOfFormat c.args.format) IsUnchanged (StopsBy (λ _ _. ⊥)) old (state g.S.Store c.format_number.new.conn)
    (Ok tt) = read_so there c.in-Ok.ensures.reads in
    stop_on NoOffice (Err NoOffice) refl looks (λ clean has.
    let same = looks.same clean has in
    let none = none_told c.args.format c.requires.some c.requires.known old.now c.in-Ok.told (sym c.eq.ensures ∙ c.if-eq.false)
    (c.in-Ok.ensures.given clean (there has) (λ still. (has still).0)) (has same.0.was_open).1 in
    ((none, λ o. c.rows_law.ensures.no_format old.now o none), same))
