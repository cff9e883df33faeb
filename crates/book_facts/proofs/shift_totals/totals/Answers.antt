use Rattle.std.proofs.Common.{IsTrue, Ok, Err, refl, rules, subst}
use Rattle.sqlite.specs.Held.{state}
use Rattle.office_rules.specs.declared.decision.refusal.Refusal.TheVariants.{NoSuchShift}
use Rattle.book_states.proofs.StayLemmas.{unchanged_same}
use Rattle.book_facts.specs.Totals.{AreTotalsSeen}
use Rattle.book_facts.proofs.TellsLemmas.{no_totals, tells_failed, tells_read}
use Rattle.book_facts.proofs.shift_totals.totals.Goals as goal

pub returns-in-Ok-Some-clause-tells : goal.returns-in-Ok-Some-clause-tells
returns-in-Ok-Some-clause-tells g c =
    let old = state g.S.Store c.args.conn.now in
    let new = state g.S.Store c.totals_of.new.conn in
    let it = c.in-Ok-Some in
    tells_read (Ok it.totals) old new it.ensures.reads (unchanged_same old new) (g.met.S.Store.shut_if_dirty c.args.conn.now.store) c.requires
    (λ clean has. subst (AreTotalsSeen c.args.number old.now) it.field-0-is (it.ensures.shown clean has)) tt

pub returns-in-Ok-None-clause-tells : goal.returns-in-Ok-None-clause-tells
returns-in-Ok-None-clause-tells g c =
    let old = state g.S.Store c.args.conn.now in
    let new = state g.S.Store c.totals_of.new.conn in
    let it = c.in-Ok-None in
    tells_read (Err NoSuchShift) old new it.ensures.reads (unchanged_same old new) (g.met.S.Store.shut_if_dirty c.args.conn.now.store) c.requires
    (λ clean has. subst (AreTotalsSeen c.args.number old.now) it.field-0-is (it.ensures.shown clean has)) refl

pub returns-in-Err-clause-tells : goal.returns-in-Err-clause-tells
returns-in-Err-clause-tells g c =
    let old = state g.S.Store c.args.conn.now in
    let outside : IsTrue c.is_autocommit-settled.result = search rules in
    tells_failed old (state g.S.Store c.totals_of.new.conn) c.in-Err.error c.refusal_of.result c.refusal_of.ensures.value
    c.refusal_of.ensures.either c.in-Err.ensures.reads c.in-Err.ensures.spoilt (c.is_autocommit-settled.ensures.settled outside)
    (g.met.S.Store.shut_if_dirty c.args.conn.now.store) c.requires
    (no_totals c.args.number old.now c.refusal_of.result c.refusal_of.ensures.either)
