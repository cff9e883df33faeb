use Rattle.std.proofs.Common.{◌∙◌, inl, refl, subst, sym, None, Ok}
use Rattle.one_table.proofs.ChangeLemmas.{if_ok}
use Rattle.one_table.proofs.ReadsOnlyLemmas.{fail_on, read_on}
use Rattle.book_tables.specs.Kept.{dated_steps_kept}
use Rattle.book_tables.specs.reading.Reading.{IsFirstDay}
use Rattle.book_tables.proofs.ReadingLemmas.AfterLemmas.{has_after, read_after, rows_after, was_clean}
use Rattle.book_tables.proofs.ReadingLemmas.DatedDayLemmas.{latest_begun}
use Rattle.sqlite.specs.Held.{state}
use Rattle.book_tables.specs.reading.Questions.{the_first_day}
use Rattle.book_tables.specs.reading.Seen.{AreLatestSeen, HasSpoilt, HasSpoiltLatest, SeesFirst, ShowsFirst}
use Rattle.book_tables.proofs.ReadingLemmas.SeenLemmas.{sees_fault, sees_latest, sees_made}
use Rattle.book_tables.proofs.reading.dated_steps.latest_steps.Goals as goal

pub returns-in_err-begun-clause-reads : goal.returns-in_err-begun-clause-reads
returns-in_err-begun-clause-reads g c = fail_on c.from_residual.result c.from_residual.ensures.1 c.in_err-begun.ensures.reads

pub returns-in_default-clause-given : goal.returns-in_default-clause-given
returns-in_default-clause-given g c clean rows o has office are =
    let name = c.args.name.now in
    let day = c.args.day in
    let none = subst (IsFirstDay (o.dated_steps name) day) c.in_default.is (c.in_ok-begun.ensures.given clean rows o has office are) in
    sym ((c.store_law.ensures.no_latest_steps (o.dated_steps name) day).1 none)

pub returns-in_default-clause-reads : goal.returns-in_default-clause-reads
returns-in_default-clause-reads g c = read_on c.in_ok-begun.ensures.reads

pub returns-clause-given : goal.returns-clause-given
returns-clause-given g c clean rows o has office are =
    let name = c.args.name.now in
    let day = c.args.day in
    let shut = g.met.S.Store.shut_if_dirty c.first_day_until.new.conn.store in
    let before = was_clean dated_steps_kept c.in_ok-begun.ensures.reads shut c.steps_from.result c.steps_from.ensures.reads (λ runs. (has runs).0) clean in
    let begun = subst (IsFirstDay (o.dated_steps name) day) c.in-Some.is (c.in_ok-begun.ensures.given before rows o has office are) in
    let first = c.in-Some.first in
    let is = latest_begun (o.dated_steps name) day (c.store_law.ensures.latest_steps (o.dated_steps name) day) first begun in
    if_ok c.steps_from.result (λ found found_is. found_is ∙ is)
    (c.steps_from.ensures.given clean rows o (rows_after dated_steps_kept c.in_ok-begun.ensures.reads shut rows has) office are)

pub returns-clause-reads : goal.returns-clause-reads
returns-clause-reads g c =
    read_after dated_steps_kept c.in_ok-begun.ensures.reads (g.met.S.Store.shut_if_dirty c.first_day_until.new.conn.store)
    c.steps_from.result c.steps_from.ensures.reads

pub returns-in_err-begun-clause-sees : goal.returns-in_err-begun-clause-sees
returns-in_err-begun-clause-sees g c =
    let name = c.args.name.now in
    let day = c.args.day in
    let q = the_first_day name day in
    sees_fault dated_steps_kept (ShowsFirst q) (AreLatestSeen name day) (HasSpoilt q) (HasSpoiltLatest name day) (λ db spoilt. inl spoilt)
    (state g.S.Store c.args.conn.now) (state g.S.Store c.first_day_until.new.conn)
    c.in_err-begun.field-0.0 c.from_residual.result c.from_residual.ensures.1 c.in_err-begun.ensures.sees

pub returns-in_default-clause-sees : goal.returns-in_default-clause-sees
returns-in_default-clause-sees g c =
    let name = c.args.name.now in
    let day = c.args.day in
    let q = the_first_day name day in
    sees_made dated_steps_kept (ShowsFirst q) (AreLatestSeen name day) (HasSpoilt q) (HasSpoiltLatest name day)
    (state g.S.Store c.args.conn.now) (state g.S.Store c.first_day_until.new.conn) c.in_ok-begun.begun None
    (λ db shown. record { first = None; shown = subst (ShowsFirst q db) c.in_default.is shown; from = refl }) c.in_ok-begun.ensures.sees

pub returns-clause-sees : goal.returns-clause-sees
returns-clause-sees g c =
    let name = c.args.name.now in
    let day = c.args.day in
    let q = the_first_day name day in
    let old = state g.S.Store c.args.conn.now in
    let mid = state g.S.Store c.first_day_until.new.conn in
    let new = state g.S.Store c.steps_from.new.conn in
    let shut = g.met.S.Store.shut_if_dirty c.first_day_until.new.conn.store in
    sees_latest name day old mid new c.in-Some.first
    (λ clean has.
    let before = was_clean dated_steps_kept c.in_ok-begun.ensures.reads shut c.steps_from.result c.steps_from.ensures.reads has clean in
    ((c.in_ok-begun.ensures.reads.same before has).0.now_is, before, has_after dated_steps_kept c.in_ok-begun.ensures.reads shut has))
    (subst (λ begun. SeesFirst q old mid (Ok begun)) c.in-Some.is c.in_ok-begun.ensures.sees) c.steps_from.result c.steps_from.ensures.sees
