use Rattle.std.proofs.Common.{rules, ◌≡◌, ◌++◌, [], ◌∷◌, inl, inr, refl, sym, ◌∙◌, append_assoc, append-nil, ◌<◌, subst}
use Rattle.std.specs.Prelude.{⊤}
use Rattle.std.proofs.lemmas.Map.Keys.{le_from_is_le}
use Rattle.sqlite.specs.Held.{state}
use Rattle.sqlite.specs.declared.error.Error.TheVariants.{SqliteFailure}
use Rattle.sqlite.specs.declared.error.ErrorCode.TheVariants.{OutOfMemory}
use Rattle.one_table.proofs.ReadsOnlyLemmas.{read_on}
use Rattle.office_rules.specs.Office.{Office}
use Rattle.book_tables.specs.declared.error.TableError.TheVariants.{Database, RowOfNoOffice}
use Rattle.book_tables.proofs.OfficeTableLemmas.{dated_steps_in, read_in_office}
use Rattle.book_tables.specs.reading.Questions.{the_steps_from}
use Rattle.book_tables.specs.reading.Seen.{AreStepsSeen, ShowsFirst}
use Rattle.book_lists.specs.Days.{IsNextDay}
use Rattle.book_lists.specs.Questions.{the_next_day}
use Rattle.book_facts.proofs.FactsLemmas.{of_no_office, office_says, office_told, tables_of}
use Rattle.book_facts.proofs.LaterLemmas.{has_next, never_before, until_found, until_itself, until_none}
use Rattle.book_facts.proofs.PassedLemmas.{clean_before, passed_after, passed_none, read_after, stops_on}
use Rattle.book_states.specs.declared.lookup.LaterSteps.{LaterSteps}
use Rattle.book_facts.specs.LookupsSeen.{AreLaterSeen}
use Rattle.book_facts.proofs.LooksLemmas.{looks_none, looks_on, table_shown, table_spoilt, after_from_not_le}
use Rattle.book_facts.proofs.looking.later_steps.later_steps.Goals as goal

pub loop-later-init : goal.loop-later-init
loop-later-init g c =
    record {
      passed = passed_none (state g.S.Store c.args.conn.now) (g.met.S.Store.shut_if_dirty c.args.conn.now.store);
      until = λ clean o office members. rw c.new-later.ensures.items (until_itself (o.dated_steps c.args.name.now) c.args.day);
      seen = λ clean has more seen. rw c.new-later.ensures.items seen;
      spoilt = λ clean has more spoilt. rw c.new-later.ensures.items spoilt;
    }

pub returns-in_err-from : goal.returns-in_err-from
returns-in_err-from g c =
    let before = c.loop-later.invariant.passed in
    let read = read_in_office dated_steps_in c.in_err-from.ensures.reads in
    looks_on c.from_residual.result c.from_residual.ensures.1 (read_after before read) (λ clean has row.
    let was = clean_before before read.survives has clean in
    let spoilt = table_spoilt before dated_steps_in c.in_err-from.ensures.reads c.in_err-from.ensures.sees clean has row in
    (c.loop-later.later.items ++ [], c.loop-later.invariant.spoilt was has [] (inl spoilt)))

pub returns-in_err-found : goal.returns-in_err-found
returns-in_err-found g c =
    let old = state g.S.Store c.args.conn.now in
    let before = c.loop-later.invariant.passed in
    let read_1 = read_in_office dated_steps_in c.in_ok-from.ensures.reads in
    let next = passed_after before read_1 (g.met.S.Store.shut_if_dirty c.first_day_after.new.conn.store) in
    let read_2 = read_in_office dated_steps_in c.in_err-found.ensures.reads in
    looks_on c.from_residual-in_err-found.result c.from_residual-in_err-found.ensures.1 (read_after next read_2) (λ clean has row.
    let was = clean_before next read_2.survives has clean in
    let was_1 = clean_before before read_1.survives has was in
    let day = subst (ShowsFirst (the_next_day c.args.name.now c.loop-later.last) old.now) c.in-Some.is
    (table_shown before dated_steps_in c.in_ok-from.ensures.reads c.in_ok-from.ensures.sees was has) in
    let spoilt = table_spoilt next dated_steps_in c.in_err-found.ensures.reads c.in_err-found.ensures.sees clean has row in
    (c.loop-later.later.items ++ [], c.loop-later.invariant.spoilt was_1 has [] (inr (c.in-Some.from, day, inl spoilt))))

pub returns-in_default-found : goal.returns-in_default-found
returns-in_default-found g c =
    let old = state g.S.Store c.args.conn.now in
    let before = c.loop-later.invariant.passed in
    let read_1 = read_in_office dated_steps_in c.in_ok-from.ensures.reads in
    let next = passed_after before read_1 (g.met.S.Store.shut_if_dirty c.first_day_after.new.conn.store) in
    let read_2 = read_in_office dated_steps_in c.in_ok-found.ensures.reads in
    let all = read_after next read_2 in
    let name = c.args.name.now in
    looks_none (stops_on RowOfNoOffice all (λ clean has. of_no_office all clean has (λ o office members.
    let was = clean_before next read_2.survives has clean in
    let next_is = office_says office members before read_1 was dated_steps_in
    (λ (o : Office). IsNextDay (o.dated_steps name) c.loop-later.last c.in_ok-from.field-0) (c.in_ok-from.ensures.given was) in
    let steps_are = office_told office members next read_2 clean dated_steps_in (λ (o : Office). o.dated_steps name c.in-Some.from)
    c.in_ok-found.found (c.in_ok-found.ensures.given clean) in
    has_next (o.dated_steps name) c.loop-later.last c.in_ok-from.field-0 c.in-Some.from c.in_ok-found.found next_is c.in-Some.is steps_are
    c.in_default-found.is))) (λ clean has row.
    let was = clean_before next read_2.survives has clean in
    let was_1 = clean_before before read_1.survives has was in
    let day = subst (ShowsFirst (the_next_day name c.loop-later.last) old.now) c.in-Some.is
    (table_shown before dated_steps_in c.in_ok-from.ensures.reads c.in_ok-from.ensures.sees was has) in
    let steps = subst (AreStepsSeen (the_steps_from name c.in-Some.from) old.now) c.in_default-found.is
    (table_shown next dated_steps_in c.in_ok-found.ensures.reads c.in_ok-found.ensures.sees clean has) in
    (c.loop-later.later.items ++ [], c.loop-later.invariant.spoilt was_1 has [] (inr (c.in-Some.from, day, inr (inl steps)))))

pub returns-then-le : goal.returns-then-le
returns-then-le g c =
    let old = state g.S.Store c.args.conn.now in
    let not_after = le_from_is_le c.in-Some.from c.loop-later.last (sym c.le.ensures ∙ c.if-le.true) in
    let before = c.loop-later.invariant.passed in
    let read_1 = read_in_office dated_steps_in c.in_ok-from.ensures.reads in
    let next = passed_after before read_1 (g.met.S.Store.shut_if_dirty c.first_day_after.new.conn.store) in
    let read_2 = read_in_office dated_steps_in c.in_ok-found.ensures.reads in
    let all = read_after next read_2 in
    let name = c.args.name.now in
    looks_none (stops_on RowOfNoOffice all (λ clean has. of_no_office all clean has (λ o office members.
    let was = clean_before next read_2.survives has clean in
    let next_is = office_says office members before read_1 was dated_steps_in
    (λ (o : Office). IsNextDay (o.dated_steps name) c.loop-later.last c.in_ok-from.field-0) (c.in_ok-from.ensures.given was) in
    never_before (o.dated_steps name) c.loop-later.last c.in_ok-from.field-0 c.in-Some.from next_is c.in-Some.is not_after))) (λ clean has row.
    let was = clean_before next read_2.survives has clean in
    let was_1 = clean_before before read_1.survives has was in
    let day = subst (ShowsFirst (the_next_day name c.loop-later.last) old.now) c.in-Some.is
    (table_shown before dated_steps_in c.in_ok-from.ensures.reads c.in_ok-from.ensures.sees was has) in
    (c.loop-later.later.items ++ [], c.loop-later.invariant.spoilt was_1 has [] (inr (c.in-Some.from, day, inr (inr not_after)))))

pub returns-in_err-map_err : goal.returns-in_err-map_err
returns-in_err-map_err g c =
    let next = passed_after c.loop-later.invariant.passed (read_in_office dated_steps_in c.in_ok-from.ensures.reads)
    (g.met.S.Store.shut_if_dirty c.first_day_after.new.conn.store) in
    let read = read_after next (read_in_office dated_steps_in c.in_ok-found.ensures.reads) in
    looks_on {U = ⊤} c.from_residual-in_err-map_err.result c.from_residual-in_err-map_err.ensures.1
    (stops_on (Database (SqliteFailure OutOfMemory)) read (λ clean has. inr (refl, read.same clean has))) (λ clean has row. absurd cc)

pub loop-later-preserved : goal.loop-later-preserved
loop-later-preserved g c =
    let before = c.loop-later.invariant.passed in
    let read_1 = read_in_office dated_steps_in c.in_ok-from.ensures.reads in
    let next = passed_after before read_1 (g.met.S.Store.shut_if_dirty c.first_day_after.new.conn.store) in
    let read_2 = read_in_office dated_steps_in c.in_ok-found.ensures.reads in
    let old = state g.S.Store c.args.conn.now in
    let name = c.args.name.now in
    let last = c.loop-later.last in
    let from = c.in-Some.from in
    let so_far = c.loop-later.later.items in
    let this : LaterSteps = record { from = from; steps = c.in-Some-found.steps } in
    let pushed : c.push.new.self.items ≡ so_far ++ this ∷ [] = search rules in
    record {
      passed = passed_after next read_2 (g.met.S.Store.shut_if_dirty c.steps_from.new.conn.store);
      until = λ clean o office members.
          let has = tables_of old o members in
          let was = clean_before next read_2.survives has clean in
          let was_1 = clean_before before read_1.survives has was in
          let next_is = office_says office members before read_1 was dated_steps_in
          (λ (o : Office). IsNextDay (o.dated_steps name) last c.in_ok-from.field-0) (c.in_ok-from.ensures.given was) in
          let steps_are = office_told office members next read_2 clean dated_steps_in (λ (o : Office). o.dated_steps name from)
          c.in_ok-found.found (c.in_ok-found.ensures.given clean) in
          rw pushed (until_found (o.dated_steps name) last c.in_ok-from.field-0 from c.args.day so_far c.in_ok-found.found
          c.in-Some-found.steps (c.loop-later.invariant.until was_1 o office members) next_is c.in-Some.is steps_are c.in-Some-found.is);
      seen = λ clean has more rest.
          let was = clean_before next read_2.survives has clean in
          let was_1 = clean_before before read_1.survives has was in
          let day = table_shown before dated_steps_in c.in_ok-from.ensures.reads c.in_ok-from.ensures.sees was has in
          let steps = table_shown next dated_steps_in c.in_ok-found.ensures.reads c.in_ok-found.ensures.sees clean has in
          let later : last < from = after_from_not_le from last (sym c.le.ensures ∙ c.if-le.false) in
          rw pushed (rw append_assoc (c.loop-later.invariant.seen was_1 has (this ∷ more) (
            subst (ShowsFirst (the_next_day name last) old.now) c.in-Some.is day,
            later,
            subst (AreStepsSeen (the_steps_from name from) old.now) c.in-Some-found.is steps,
            rest,
          )));
      spoilt = λ clean has more rest.
          let was = clean_before next read_2.survives has clean in
          let was_1 = clean_before before read_1.survives has was in
          let day = table_shown before dated_steps_in c.in_ok-from.ensures.reads c.in_ok-from.ensures.sees was has in
          let steps = table_shown next dated_steps_in c.in_ok-found.ensures.reads c.in_ok-found.ensures.sees clean has in
          let later : last < from = after_from_not_le from last (sym c.le.ensures ∙ c.if-le.false) in
          rw pushed (rw append_assoc (c.loop-later.invariant.spoilt was_1 has (this ∷ more) (
            subst (ShowsFirst (the_next_day name last) old.now) c.in-Some.is day,
            later,
            subst (AreStepsSeen (the_steps_from name from) old.now) c.in-Some-found.is steps,
            rest,
          )));
    }

pub returns : goal.returns
returns g c =
    let old = state g.S.Store c.args.conn.now in
    let before = c.loop-later.invariant.passed in
    let read = read_in_office dated_steps_in c.in_ok-from.ensures.reads in
    let name = c.args.name.now in
    let last = c.loop-later.last in
    let so_far = c.loop-later.later.items in
    record {
      facts = λ clean o office members.
          let was = clean_before before read.survives (tables_of old o members) clean in
          let next_is = office_says office members before read clean dated_steps_in
          (λ (o : Office). IsNextDay (o.dated_steps name) last c.in_ok-from.field-0) (c.in_ok-from.ensures.given clean) in
          until_none (o.dated_steps name) c.args.day last so_far c.in_ok-from.field-0 (c.loop-later.invariant.until was o office members)
          next_is c.in_default.is;
      shown = λ clean has.
          let was = clean_before before read.survives has clean in
          let day = table_shown before dated_steps_in c.in_ok-from.ensures.reads c.in_ok-from.ensures.sees clean has in
          let end = subst (ShowsFirst (the_next_day name last) old.now) c.in_default.is day in
          subst (AreLaterSeen name c.args.day old.now) (append-nil so_far) (c.loop-later.invariant.seen was has [] end);
      spoilt = λ clean has. tt;
      reads = read_on (read_after before read);
    }
