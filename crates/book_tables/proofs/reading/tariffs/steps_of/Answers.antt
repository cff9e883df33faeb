use Rattle.std.proofs.Common.{rules, subst, refl, ◌∙◌, inl, Err, IfOk, Ok}
use Rattle.std.specs.Prelude.{Vec}
use Rattle.std.specs.declared.alloc.Global.{Global}
use Rattle.tariff.specs.declared.step.Step.{Step}
use Rattle.sqlite.specs.Held.{state}
use Rattle.sqlite.specs.Values.{bound}
use Rattle.one_table.specs.Answer.{IsLeft}
use Rattle.book_tables.specs.Kept.{steps_kept}
use Rattle.book_tables.proofs.ReadingLemmas.ListingLemmas.{gives, only_asks, reads, sees}
use Rattle.one_table.proofs.ReadsOnlyLemmas.{fail_on}
use Rattle.book_tables.proofs.ReadingLemmas.StepListLemmas.{AreStepsOf, fails_to_make, makes, steps_of, tariff_keeps}
use Rattle.book_tables.specs.reading.Questions.{the_steps}
use Rattle.book_tables.specs.reading.Seen.{AreStepsSeen, HasSpoilt, HasSpoiltSteps, ShowsAll}
use Rattle.book_tables.proofs.ReadingLemmas.SeenLemmas.{sees_fault, sees_steps}
use Rattle.book_tables.proofs.reading.tariffs.steps_of.Goals as goal

pub returns-in_err-shown-clause-reads : goal.returns-in_err-shown-clause-reads
returns-in_err-shown-clause-reads g c =
    let this = c.in_err-shown.ensures.reads in
    fail_on c.from_residual.result c.from_residual.ensures.1
    (reads (steps_of c.args.name.now) (state g.S.Store c.args.conn.now) (state g.S.Store c.all_records.new.conn)
    (Err c.in_err-shown.field-0.0) (bound c.tariff_values.result) c.tariff_values.ensures this)

pub returns-clause-given : goal.returns-clause-given
returns-clause-given g c clean rows o has office are =
    let name = c.args.name.now in
    let old = state g.S.Store c.args.conn.now in
    let only = only_asks (steps_of name) old (λ runs. (has runs).0) in
    let found = gives (steps_of name) (λ found. found.items) old (state g.S.Store c.all_records.new.conn) rows has (o, office, are) c.all_records.result
    (bound c.tariff_values.result) c.tariff_values.ensures (c.all_records.ensures.reads.same clean only) (c.all_records.ensures.given clean only) in
    let here = subst (λ r. IfOk r (λ found. AreStepsOf name rows found.items)) c.in_ok-shown.was found in
    makes c.deref.result.now c.tariff_of.result c.tariff_of.ensures.steps c.tariff_of.ensures.kept (o.tariffs name)
    (tariff_keeps o office name (o.tariffs name) refl) (c.deref.ensures.value ∙ here o are)

pub returns-clause-reads : goal.returns-clause-reads
returns-clause-reads g c =
    let name = c.args.name.now in
    let old = state g.S.Store c.args.conn.now in
    let new = state g.S.Store c.all_records.new.conn in
    let asks = only_asks (steps_of name) old in
    record {
      same = λ clean has.
          let same = c.in_ok-shown.ensures.reads.same clean (asks has) in
          search (rules, same);
      kept = λ clean has.
          let left : IsLeft old new = inl (c.in_ok-shown.ensures.reads.same clean (asks has)) in
          search (rules, left);
      mode = c.in_ok-shown.ensures.reads.mode;
      faults = λ clean has.
          fails_to_make steps_kept (λ o. o.tariffs name) (λ o office. tariff_keeps o office name (o.tariffs name) refl) c.deref.result.now
          old new (c.in_ok-shown.ensures.reads.same clean (asks has))
          (λ rows held of_office.
          let found = gives (steps_of name) (λ found. found.items) old new rows (λ _. held) of_office c.all_records.result
          (bound c.tariff_values.result) c.tariff_values.ensures (c.all_records.ensures.reads.same clean (asks has))
          (c.all_records.ensures.given clean (asks has)) in
          let here = subst (λ r. IfOk r (λ found. AreStepsOf name rows found.items)) c.in_ok-shown.was found in
          λ o office are. c.deref.ensures.value ∙ here o are)
          c.tariff_of.result c.tariff_of.ensures.faults;
      survives = λ has. c.in_ok-shown.ensures.reads.survives (asks has);
    }

pub returns-in_err-shown-clause-sees : goal.returns-in_err-shown-clause-sees
returns-in_err-shown-clause-sees g c =
    let q = the_steps c.args.name.now in
    let old = state g.S.Store c.args.conn.now in
    let new = state g.S.Store c.all_records.new.conn in
    sees_fault steps_kept (λ db (found : Vec Step Global). ShowsAll q db found.items) (AreStepsSeen q) (HasSpoilt q) (HasSpoiltSteps q)
    (λ db spoilt. inl spoilt) old new c.in_err-shown.field-0.0 c.from_residual.result c.from_residual.ensures.1
    (sees (steps_of c.args.name.now) (λ (found : Vec Step Global). found.items) old new (Err c.in_err-shown.field-0.0)
    (bound c.tariff_values.result) c.tariff_values.ensures c.in_err-shown.ensures.reads (λ _ _. tt))

pub returns-clause-sees : goal.returns-clause-sees
returns-clause-sees g c =
    let q = the_steps c.args.name.now in
    let old = state g.S.Store c.args.conn.now in
    let new = state g.S.Store c.all_records.new.conn in
    sees_steps q old new c.in_ok-shown.shown c.deref.result.now c.deref.ensures.value c.tariff_of.result c.tariff_of.ensures.steps
    c.tariff_of.ensures.kept c.tariff_of.ensures.faults
    (sees (steps_of c.args.name.now) (λ (found : Vec Step Global). found.items) old new (Ok c.in_ok-shown.shown)
    (bound c.tariff_values.result) c.tariff_values.ensures c.in_ok-shown.ensures.reads c.in_ok-shown.ensures.given)
