use Rattle.std.proofs.Common.{None, Some, inl, inr, rules, sym, ◌∙◌, ◌≡◌, subst}
use Rattle.sqlite.specs.Held.{state}
use Rattle.one_table.proofs.ReadsOnlyLemmas.{read_on}
use Rattle.sts_fields.specs.Day.{day_at}
use Rattle.book_tables.specs.declared.error.TableError.TheVariants.{RowOfNoOffice}
use Rattle.book_tables.proofs.OfficeTableLemmas.{meters_in, read_in_office}
use Rattle.book_tables.specs.reading.Questions.{the_meter}
use Rattle.book_tables.specs.reading.Seen.{ShowsFirst}
use Rattle.book_states.specs.FactsSeen.{AreStepsSeenOn}
use Rattle.book_states.specs.Spoilt.{AreStepsSpoiltOn}
use Rattle.book_facts.proofs.FactsLemmas.{account_is, has_steps, members_after, meter_told, of_no_office, was_clean}
use Rattle.book_facts.proofs.PassedLemmas.{passed, passed_after, passed_none, read_after, stops_on, clean_before}
use Rattle.book_facts.proofs.LooksLemmas.{looks_none, looks_on, looks_shown, looks_spoilt, account_seen, first_shown, first_spoilt}
use Rattle.book_facts.proofs.facts.accounts.account_numbered.Goals as goal

pub returns-in_err-there : goal.returns-in_err-there
returns-in_err-there g c = looks_on c.from_residual.result c.from_residual.ensures.1 (read_in_office meters_in c.in_err-there.ensures.reads)
    (λ clean has row. inl (first_spoilt meters_in c.in_err-there.ensures.sees clean has row))

pub returns-in_default : goal.returns-in_default
returns-in_default g c =
    let old = state g.S.Store c.args.conn.now in
    let none = passed_none old (g.met.S.Store.shut_if_dirty c.args.conn.now.store) in
    let read_1 = (read_in_office meters_in c.in_ok-there.ensures.reads) in
    record {
      facts = λ clean o office members.
          let meter_is = meter_told office members none read_1 clean c.members_law.ensures.meter c.args.number.now c.in_ok-there.there
          (c.in_ok-there.ensures.given clean) in
          search (rules, sym c.in_default.is ∙ meter_is);
      shown = λ clean has. subst (ShowsFirst (the_meter c.args.number.now) old.now) c.in_default.is
          (first_shown meters_in c.in_ok-there.ensures.sees clean has);
      spoilt = λ _ _. tt;
      reads = read_on (read_in_office meters_in c.in_ok-there.ensures.reads);
    }

pub returns-in_err-found : goal.returns-in_err-found
returns-in_err-found g c =
    let old = state g.S.Store c.args.conn.now in
    let first = passed (read_in_office meters_in c.in_ok-there.ensures.reads) (g.met.S.Store.shut_if_dirty c.meter_numbered.new.conn.store) in
    let read_2 = c.in_err-found.ensures.reads in
    let day_is : c.day_of.result ≡ day_at c.args.moment = search rules in
    looks_on c.from_residual-in_err-found.result c.from_residual-in_err-found.ensures.1 (read_after first read_2)
    (λ clean has row.
    let was = clean_before first read_2.survives has clean in
    let there = subst (ShowsFirst (the_meter c.args.number.now) old.now) c.in-Some.is (first_shown meters_in c.in_ok-there.ensures.sees was has) in
    inr (
      c.in-Some.meter,
      there,
      inl (subst (λ day. AreStepsSpoiltOn c.in-Some.meter.tariff day old.now) day_is
          (looks_spoilt first c.in_err-found.ensures clean has row)),
    ))

pub returns-in_default-found : goal.returns-in_default-found
returns-in_default-found g c =
    let old = state g.S.Store c.args.conn.now in
    let none = passed_none old (g.met.S.Store.shut_if_dirty c.args.conn.now.store) in
    let read_1 = (read_in_office meters_in c.in_ok-there.ensures.reads) in
    let first = passed read_1 (g.met.S.Store.shut_if_dirty c.meter_numbered.new.conn.store) in
    let read_2 = c.in_ok-found.ensures.reads in
    let both = read_after first read_2 in
    let day_is : c.day_of.result ≡ day_at c.args.moment = search rules in
    looks_none (stops_on RowOfNoOffice both (λ clean has. of_no_office both clean has (λ o office members.
    let was = was_clean office members first read_2 clean in
    let meter_is = meter_told office members none read_1 was c.members_law.ensures.meter c.args.number.now c.in_ok-there.there
    (c.in_ok-there.ensures.given was) in
    let steps_are = c.in_ok-found.ensures.facts clean o office (members_after o members first read_2.survives clean) in
    let day_is : c.day_of.result ≡ day_at c.args.moment = search rules in
    has_steps o office c.args.number.now (day_at c.args.moment) c.in_ok-there.there c.in-Some.meter c.in_ok-found.found meter_is
    c.in-Some.is (rw day_is at steps_are) c.in_default-found.is))) (λ clean has row.
    let was = clean_before first read_2.survives has clean in
    let there = subst (ShowsFirst (the_meter c.args.number.now) old.now) c.in-Some.is (first_shown meters_in c.in_ok-there.ensures.sees was has) in
    let gone = subst (λ day. AreStepsSeenOn c.in-Some.meter.tariff day old.now None) day_is
    (subst (AreStepsSeenOn c.in-Some.meter.tariff c.day_of.result old.now) c.in_default-found.is (looks_shown first c.in_ok-found.ensures clean has)) in
    inr (c.in-Some.meter, there, inr (inl gone)))

pub returns-in_err-account : goal.returns-in_err-account
returns-in_err-account g c =
    let old = state g.S.Store c.args.conn.now in
    let first = passed (read_in_office meters_in c.in_ok-there.ensures.reads) (g.met.S.Store.shut_if_dirty c.meter_numbered.new.conn.store) in
    let read_2 = c.in_ok-found.ensures.reads in
    let second = passed_after first read_2 (g.met.S.Store.shut_if_dirty c.steps_on.new.conn.store) in
    let read_3 = c.in_err-account.ensures.reads in
    let day_is : c.day_of.result ≡ day_at c.args.moment = search rules in
    looks_on c.from_residual-in_err-account.result c.from_residual-in_err-account.ensures.1 (read_after second read_3)
    (λ clean has row.
    let was_2 = clean_before second read_3.survives has clean in
    let was_1 = clean_before first read_2.survives has was_2 in
    let there = subst (ShowsFirst (the_meter c.args.number.now) old.now) c.in-Some.is (first_shown meters_in c.in_ok-there.ensures.sees was_1 has) in
    let steps = subst (λ day. AreStepsSeenOn c.in-Some.meter.tariff day old.now (Some c.in-Some-found.steps)) day_is
    (subst (AreStepsSeenOn c.in-Some.meter.tariff c.day_of.result old.now) c.in-Some-found.is (looks_shown first c.in_ok-found.ensures was_2 has)) in
    inr (c.in-Some.meter, there, inr (inr (c.in-Some-found.steps, steps, looks_spoilt second c.in_err-account.ensures clean has row))))

pub returns : goal.returns
returns g c =
    let old = state g.S.Store c.args.conn.now in
    let none = passed_none old (g.met.S.Store.shut_if_dirty c.args.conn.now.store) in
    let read_1 = (read_in_office meters_in c.in_ok-there.ensures.reads) in
    let first = passed read_1 (g.met.S.Store.shut_if_dirty c.meter_numbered.new.conn.store) in
    let read_2 = c.in_ok-found.ensures.reads in
    let second = passed_after first read_2 (g.met.S.Store.shut_if_dirty c.steps_on.new.conn.store) in
    let read_3 = c.in_ok-account.ensures.reads in
    let day_is : c.day_of.result ≡ day_at c.args.moment = search rules in
    record {
      facts = λ clean o office members.
          let was_2 = was_clean office members second read_3 clean in
          let was_1 = was_clean office members first read_2 was_2 in
          let meter_is = meter_told office members none read_1 was_1 c.members_law.ensures.meter c.args.number.now c.in_ok-there.there
          (c.in_ok-there.ensures.given was_1) in
          let steps_are = c.in_ok-found.ensures.facts was_2 o office (members_after o members first read_2.survives was_2) in
          let sold = c.in_ok-account.ensures.facts clean o office (members_after o members second c.in_ok-account.ensures.reads.survives clean) in
          account_is o c.args.number.now c.args.moment c.in_ok-there.there c.in-Some.meter c.in_ok-found.found c.in-Some-found.steps
          c.in_ok-account.account meter_is c.in-Some.is (rw day_is at steps_are) c.in-Some-found.is sold;
      shown = λ clean has.
          let was_2 = clean_before second read_3.survives has clean in
          let was_1 = clean_before first read_2.survives has was_2 in
          let day_is : c.day_of.result ≡ day_at c.args.moment = search rules in
          let there = subst (ShowsFirst (the_meter c.args.number.now) old.now) c.in-Some.is (first_shown meters_in c.in_ok-there.ensures.sees was_1 has) in
          let steps = subst (AreStepsSeenOn c.in-Some.meter.tariff c.day_of.result old.now) c.in-Some-found.is
          (looks_shown first c.in_ok-found.ensures was_2 has) in
          account_seen old.now c.args.number.now c.args.moment c.in-Some.meter c.in-Some-found.steps c.in_ok-account.account there
          (rw day_is at steps) (looks_shown second c.in_ok-account.ensures clean has);
      spoilt = λ _ _. tt;
      reads = read_on (read_after second c.in_ok-account.ensures.reads);
    }
