use Rattle.std.proofs.Common.{rules, subst, true, ◌≡◌, inl, inr}
use Rattle.sqlite.specs.Held.{state}
use Rattle.one_table.proofs.ReadsOnlyLemmas.{read_on}
use Rattle.office_rules.specs.Office.{Office}
use Rattle.book_tables.proofs.OfficeTableLemmas.{dated_steps_in, tariffs_in, read_in_office}
use Rattle.book_states.specs.FactsSeen.{IsTariffSeen}
use Rattle.book_facts.proofs.FactsLemmas.{office_told, tariff_told, was_clean}
use Rattle.book_facts.proofs.PassedLemmas.{passed, passed_none, read_after, clean_before}
use Rattle.book_facts.proofs.LooksLemmas.{looks_on, table_shown, table_spoilt, first_shown, first_spoilt}
use Rattle.book_facts.proofs.facts.steps.dated_facts.Goals as goal

pub returns-in_err-has_tariff : goal.returns-in_err-has_tariff
returns-in_err-has_tariff g c = looks_on c.from_residual.result c.from_residual.ensures.1 (read_in_office tariffs_in c.in_err-has_tariff.ensures.reads)
    (λ clean has row. inl (first_spoilt tariffs_in c.in_err-has_tariff.ensures.sees clean has row))

pub returns-then-not-has_tariff : goal.returns-then-not-has_tariff
returns-then-not-has_tariff g c =
    let old = state g.S.Store c.args.conn.now in
    let none = passed_none old (g.met.S.Store.shut_if_dirty c.args.conn.now.store) in
    let read = read_in_office tariffs_in c.in_ok-has_tariff.ensures.reads in
    record {
      facts = λ clean o office members.
          let tariff_is = tariff_told office members none read clean c.args.name.now c.in_ok-has_tariff.has_tariff (c.in_ok-has_tariff.ensures.given clean) in
          record {
            has_tariff = search (rules, tariff_is);
            dated_steps = search rules;
          };
      shown = λ clean has.
          let same : c.in_ok-has_tariff.has_tariff ≡ c.none.result.has_tariff = search rules in
          record {
            has_tariff = subst (IsTariffSeen c.args.name.now old.now) same
                (first_shown tariffs_in c.in_ok-has_tariff.ensures.sees clean has);
            dated_steps = search rules;
          };
      spoilt = λ _ _. tt;
      reads = read_on (read_in_office tariffs_in c.in_ok-has_tariff.ensures.reads);
    }

pub returns-in_err-dated_steps : goal.returns-in_err-dated_steps
returns-in_err-dated_steps g c =
    let old = state g.S.Store c.args.conn.now in
    let first = passed (read_in_office tariffs_in c.in_ok-has_tariff.ensures.reads) (g.met.S.Store.shut_if_dirty c.has_tariff.new.conn.store) in
    let read_2 = read_in_office dated_steps_in c.in_err-dated_steps.ensures.reads in
    let stands : c.in_ok-has_tariff.has_tariff ≡ true = search rules in
    looks_on c.from_residual-in_err-dated_steps.result c.from_residual-in_err-dated_steps.ensures.1 (read_after first read_2)
    (λ clean has row.
    let was = clean_before first read_2.survives has clean in
    let there = subst (IsTariffSeen c.args.name.now old.now) stands (first_shown tariffs_in c.in_ok-has_tariff.ensures.sees was has) in
    inr (there, table_spoilt first dated_steps_in c.in_err-dated_steps.ensures.reads c.in_err-dated_steps.ensures.sees clean has row))

pub returns : goal.returns
returns g c =
    let old = state g.S.Store c.args.conn.now in
    let none = passed_none old (g.met.S.Store.shut_if_dirty c.args.conn.now.store) in
    let name = c.args.name.now in
    let read_1 = read_in_office tariffs_in c.in_ok-has_tariff.ensures.reads in
    let first = passed read_1 (g.met.S.Store.shut_if_dirty c.has_tariff.new.conn.store) in
    let read_2 = read_in_office dated_steps_in c.in_ok-dated_steps.ensures.reads in
    record {
      facts = λ clean o office members.
          let was = was_clean office members first read_2 clean in
          record {
            has_tariff = tariff_told office members none read_1 was name c.in_ok-has_tariff.has_tariff (c.in_ok-has_tariff.ensures.given was);
            dated_steps = λ _. office_told office members first read_2 clean dated_steps_in (λ (o : Office). o.dated_steps name c.args.day)
                c.in_ok-dated_steps.dated_steps (c.in_ok-dated_steps.ensures.given clean);
          };
      shown = λ clean has.
          let was = clean_before first read_2.survives has clean in
          record {
            has_tariff = first_shown tariffs_in c.in_ok-has_tariff.ensures.sees was has;
            dated_steps = λ _. table_shown first dated_steps_in c.in_ok-dated_steps.ensures.reads c.in_ok-dated_steps.ensures.sees clean has;
          };
      spoilt = λ _ _. tt;
      reads = read_on (read_after first (read_in_office dated_steps_in c.in_ok-dated_steps.ensures.reads));
    }
