use Rattle.std.proofs.Common.{rules, IsSome, None, ◌≡◌, ◌++◌, [], ◌∷◌, inl, inr, refl, subst, sym, take_all, unwrap_or, ◌∙◌}
use Rattle.std.specs.Prelude.{⊤, Any}
use Rattle.std.specs.List.{AllZip}
use Rattle.sqlite.specs.Held.{state}
use Rattle.sqlite.specs.declared.error.Error.TheVariants.{SqliteFailure}
use Rattle.sqlite.specs.declared.error.ErrorCode.TheVariants.{OutOfMemory}
use Rattle.sts_fields.specs.Day.{day_at}
use Rattle.office_rules.specs.Office.{Office}
use Rattle.book_tables.specs.declared.error.TableError.TheVariants.{Database, RowOfNoOffice}
use Rattle.book_tables.proofs.OfficeTableLemmas.{tariffs_in, read_in_office}
use Rattle.book_tables.specs.reading.Seen.{HasSpoilt, ShowsAll}
use Rattle.book_lists.specs.Pages.{AreFirstAfter}
use Rattle.book_lists.specs.Questions.{the_tariffs_after}
use Rattle.book_facts.specs.Listing.{TellsOf}
use Rattle.book_facts.specs.Lookups.{AreTariffsAfter}
use Rattle.book_facts.proofs.FactsLemmas.{members_after, of_no_office, office_says, tables_of}
use Rattle.book_facts.proofs.ListedLemmas.{TellTariffs, never_none, tariffs_listed, tell_more, tell_none}
use Rattle.book_facts.proofs.PassedLemmas.{clean_before, passed, passed_after, passed_none, passed_reads, passed_then, read_after, same_on, stops_on, earlier, tables_after}
use Rattle.book_states.specs.FactsSeen.{AreStepsSeenOn}
use Rattle.book_facts.specs.LookupsSeen.{IsTariffListedSeen, IsTariffListedSpoilt, IsTariffNamedSeen, IsTariffNamedSpoilt}
use Rattle.book_facts.proofs.LooksLemmas.{by_rules_none, by_rules_on, looks_shown, looks_spoilt, first_shown, first_spoilt, zip_more}
use Rattle.book_facts.proofs.looking.tariff_page.tariff_page.Goals as goal

pub returns-in_err-names : goal.returns-in_err-names
returns-in_err-names g c =
    let old = state g.S.Store c.args.conn.now in
    by_rules_on c.from_residual.result c.from_residual.ensures.1 (same_on (read_in_office tariffs_in c.in_err-names.ensures.reads)) (λ clean has row.
    inl (subst (λ start. HasSpoilt (the_tariffs_after start) old.now) c.name_or_none.ensures
    (first_spoilt tariffs_in c.in_err-names.ensures.sees clean has row)))

pub loop-name-init : goal.loop-name-init
loop-name-init g c =
    record {
      passed = passed_none (state g.S.Store c.tariffs_after.new.conn) (g.met.S.Store.shut_if_dirty c.tariffs_after.new.conn.store);
      told = λ clean o office members. rw c.new-listed.ensures.items (tell_none o c.day_of-day.result);
      seen = λ clean has. rw c.new-listed.ensures.items tt;
    }

pub returns-in_err-found : goal.returns-in_err-found
returns-in_err-found g c =
    let old = state g.S.Store c.args.conn.now in
    let first = passed (read_in_office tariffs_in c.in_ok-names.ensures.reads) (g.met.S.Store.shut_if_dirty c.tariffs_after.new.conn.store) in
    let so_far = c.loop-name.invariant.passed in
    let before = passed_then first so_far in
    let read = c.in_err-found.ensures.reads in
    let day_is : c.day_of-day.result ≡ day_at c.args.moment = search rules in
    let items_are : c.deref-name-items.result.now ≡ c.in_ok-names.names.items = search rules in
    by_rules_on c.from_residual-in_err-found.result c.from_residual-in_err-found.ensures.1 (same_on (read_after before read)) (λ clean has row.
    let was = clean_before first so_far.survives has (clean_before before read.survives has clean) in
    let spoilt = subst (λ day. IsTariffNamedSpoilt day c.name-item.result old.now) day_is (looks_spoilt before c.in_err-found.ensures clean has row) in
    let any : Any (IsTariffListedSpoilt (day_at c.args.moment) old.now) c.deref-name-items.result.now =
    (c.loop-name.name-index, c.name-item.result, c.loop-name-test.true, sym c.name-item.is, inl spoilt) in
    inr (
      c.in_ok-names.names.items,
      subst (λ start. ShowsAll (the_tariffs_after start) old.now c.in_ok-names.names.items) c.name_or_none.ensures
          (first_shown tariffs_in c.in_ok-names.ensures.sees was has),
      subst (Any (IsTariffListedSpoilt (day_at c.args.moment) old.now)) items_are any,
    ))

pub returns-in_err-map_err : goal.returns-in_err-map_err
returns-in_err-map_err g c =
    let first = passed (read_in_office tariffs_in c.in_ok-names.ensures.reads) (g.met.S.Store.shut_if_dirty c.tariffs_after.new.conn.store) in
    let read = read_after (passed_then first c.loop-name.invariant.passed) c.in_ok-found.ensures.reads in
    by_rules_on {U = ⊤} c.from_residual-in_err-map_err.result c.from_residual-in_err-map_err.ensures.1
    (same_on (stops_on (Database (SqliteFailure OutOfMemory)) read (λ clean has. inr (refl, read.same clean has)))) (λ clean has row. absurd cc)

pub returns-in_default : goal.returns-in_default
returns-in_default g c =
    let old = state g.S.Store c.args.conn.now in
    let none = passed_none old (g.met.S.Store.shut_if_dirty c.args.conn.now.store) in
    let read_1 = read_in_office tariffs_in c.in_ok-names.ensures.reads in
    let first = passed read_1 (g.met.S.Store.shut_if_dirty c.tariffs_after.new.conn.store) in
    let so_far = c.loop-name.invariant.passed in
    let before = passed_then first so_far in
    let read = c.in_ok-found.ensures.reads in
    let all = read_after before read in
    let start = c.name_or_none.result.now in
    let name = c.name-item.result in
    by_rules_none (same_on (stops_on RowOfNoOffice all (λ clean has. of_no_office all clean has (λ o office members.
    let was = clean_before before read.survives has clean in
    let was_1 = clean_before first so_far.survives has was in
    let items = c.deref-name-items.result.now in
    let items_are : c.in_ok-names.names.items ≡ items = search rules in
    let page = subst (AreFirstAfter (λ name. IsSome (o.tariffs name)) start) items_are
    (office_says office members none read_1 was_1 tariffs_in
    (λ (o : Office). AreFirstAfter (λ name. IsSome (o.tariffs name)) start c.in_ok-names.names.items) (c.in_ok-names.ensures.given was_1)) in
    let told = c.in_ok-found.ensures.facts clean o office (members_after o members before read.survives clean) in
    never_none o c.day_of-day.result start items c.loop-name.name-index name c.in_ok-found.found page c.loop-name-test.true c.name-item.is
    told c.in_default.is)))) (λ clean has row.
    let was = clean_before first so_far.survives has (clean_before before read.survives has clean) in
    let items = c.deref-name-items.result.now in
    let items_are : items ≡ c.in_ok-names.names.items = search rules in
    let day_is : c.day_of-day.result ≡ day_at c.args.moment = search rules in
    let none_seen = subst (IsTariffNamedSeen c.day_of-day.result name old.now) c.in_default.is (looks_shown before c.in_ok-found.ensures clean has) in
    let any : Any (IsTariffListedSpoilt (day_at c.args.moment) old.now) items =
    (c.loop-name.name-index, name, c.loop-name-test.true, sym c.name-item.is, inr (subst (λ day. AreStepsSeenOn name day old.now None) day_is none_seen)) in
    inr (
      c.in_ok-names.names.items,
      subst (λ start. ShowsAll (the_tariffs_after start) old.now c.in_ok-names.names.items) c.name_or_none.ensures
          (first_shown tariffs_in c.in_ok-names.ensures.sees was has),
      subst (Any (IsTariffListedSpoilt (day_at c.args.moment) old.now)) items_are any,
    ))

pub loop-name-preserved : goal.loop-name-preserved
loop-name-preserved g c =
    let initial = state g.S.Store c.tariffs_after.new.conn in
    let before = c.loop-name.invariant.passed in
    let read = c.in_ok-found.ensures.reads in
    let items = c.deref-name-items.result.now in
    let i = c.loop-name.name-index in
    let name = c.name-item.result in
    let day = c.day_of-day.result in
    let listed = c.loop-name.listed.items in
    let pushed : c.push.new.self.items ≡ listed ++ c.in-Some.tariff ∷ [] = search rules in
    record {
      passed = passed_after before read (g.met.S.Store.shut_if_dirty c.tariff_named.new.conn.store);
      told = λ clean o office members.
          let was = clean_before before read.survives (tables_of initial o members) clean in
          let told = subst (TellsOf o day name) c.in-Some.is
          (c.in_ok-found.ensures.facts clean o office (members_after o members before read.survives clean)) in
          rw pushed (tell_more o day items i name listed c.in-Some.tariff c.loop-name-test.true c.name-item.is
          (c.loop-name.invariant.told was o office members) told);
      seen = λ clean has.
          let was = clean_before before read.survives has clean in
          let seen = subst (IsTariffNamedSeen day name initial.now) c.in-Some.is (looks_shown before c.in_ok-found.ensures clean has) in
          rw pushed (zip_more (IsTariffListedSeen day initial.now) items i listed name c.in-Some.tariff c.loop-name-test.true
          c.name-item.is (c.loop-name.invariant.seen was has) seen);
    }

pub returns : goal.returns
returns g c =
    let old = state g.S.Store c.args.conn.now in
    let initial = state g.S.Store c.tariffs_after.new.conn in
    let new = state g.S.Store c.loop-name.conn in
    let none = passed_none old (g.met.S.Store.shut_if_dirty c.args.conn.now.store) in
    let read = read_in_office tariffs_in c.in_ok-names.ensures.reads in
    let first = passed read (g.met.S.Store.shut_if_dirty c.tariffs_after.new.conn.store) in
    let so_far = c.loop-name.invariant.passed in
    let start = c.name_or_none.result.now in
    let names = c.in_ok-names.names.items in
    let items = c.deref-name-items.result.now in
    let listed = c.loop-name.listed.items in
    let items_are : items ≡ names = search rules in
    let day_is : c.day_of-day.result ≡ day_at c.args.moment = search rules in
    let all = take_all c.loop-name.name-index items c.loop-name-test.false ∙ items_are in
    record {
      looks = record {
        facts = λ clean o office members.
            let was = clean_before first so_far.survives (tables_of old o members) clean in
            let page = office_says office members none read was tariffs_in
            (λ (o : Office). AreFirstAfter (λ name. IsSome (o.tariffs name)) start names) (c.in_ok-names.ensures.given was) in
            let told = subst (λ ns. TellTariffs o c.day_of-day.result ns listed) all
            (c.loop-name.invariant.told clean o office (members_after o members first so_far.survives clean)) in
            subst (λ day. AreTariffsAfter o day (unwrap_or c.args.after.now []) listed) day_is
            (subst (λ start. AreTariffsAfter o c.day_of-day.result start listed) c.name_or_none.ensures
            (tariffs_listed o c.day_of-day.result start names listed page told));
        shown = λ clean has.
            let was = clean_before first so_far.survives has clean in
            let as_was = earlier old initial new first so_far.survives has clean in
            let seen = subst (λ ns. AllZip (IsTariffListedSeen c.day_of-day.result initial.now) ns listed) all
            (c.loop-name.invariant.seen clean (tables_after first has)) in (
              names,
              subst (λ start. ShowsAll (the_tariffs_after start) old.now names) c.name_or_none.ensures
                  (first_shown tariffs_in c.in_ok-names.ensures.sees was has),
              subst (λ day. AllZip (IsTariffListedSeen day old.now) names listed) day_is
                  (subst (λ db. AllZip (IsTariffListedSeen c.day_of-day.result db) names listed) as_was.now_is seen),
            );
        spoilt = λ clean has. tt;
        reads = passed_reads (passed_then first so_far);
      };
      rules = tt;
    }
