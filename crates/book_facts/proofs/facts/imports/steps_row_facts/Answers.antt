use Rattle.std.proofs.Common.{inl, inr}
use Rattle.sqlite.specs.Held.{state}
use Rattle.one_table.proofs.ReadsOnlyLemmas.{read_on}
use Rattle.office_rules.specs.Office.{Office}
use Rattle.book_tables.proofs.OfficeTableLemmas.{dated_steps_in, tariffs_in, read_in_office}
use Rattle.book_facts.proofs.FactsLemmas.{office_told, tariff_told, was_clean}
use Rattle.book_facts.proofs.PassedLemmas.{passed, passed_none, read_after, clean_before}
use Rattle.book_facts.proofs.LooksLemmas.{looks_on, table_shown, table_spoilt, first_shown, first_spoilt}
use Rattle.book_facts.proofs.facts.imports.steps_row_facts.Goals as goal

pub returns-in_err-has_tariff : goal.returns-in_err-has_tariff
returns-in_err-has_tariff g c = looks_on c.from_residual.result c.from_residual.ensures.1 (read_in_office tariffs_in c.in_err-has_tariff.ensures.reads)
    (λ clean has row. inl (first_spoilt tariffs_in c.in_err-has_tariff.ensures.sees clean has row))

pub returns-in_err-steps : goal.returns-in_err-steps
returns-in_err-steps g c =
    let first = passed (read_in_office tariffs_in c.in_ok-has_tariff.ensures.reads) (g.met.S.Store.shut_if_dirty c.has_tariff.new.conn.store) in
    looks_on c.from_residual-in_err-steps.result c.from_residual-in_err-steps.ensures.1
    (read_after first (read_in_office dated_steps_in c.in_err-steps.ensures.reads))
    (λ clean has row. inr (table_spoilt first dated_steps_in c.in_err-steps.ensures.reads c.in_err-steps.ensures.sees clean has row))

pub returns : goal.returns
returns g c =
    let old = state g.S.Store c.args.conn.now in
    let none = passed_none old (g.met.S.Store.shut_if_dirty c.args.conn.now.store) in
    let read_1 = read_in_office tariffs_in c.in_ok-has_tariff.ensures.reads in
    let first = passed read_1 (g.met.S.Store.shut_if_dirty c.has_tariff.new.conn.store) in
    let read_2 = read_in_office dated_steps_in c.in_ok-steps.ensures.reads in
    record {
      facts = λ clean o office members steps.
          let was = was_clean office members first read_2 clean in
          let tariff_is = tariff_told office members none read_1 was c.args.name.now c.in_ok-has_tariff.has_tariff (c.in_ok-has_tariff.ensures.given was) in
          let steps_are = office_told office members first read_2 clean dated_steps_in
          (λ (o : Office). o.dated_steps c.args.name.now c.args.day) c.in_ok-steps.steps (c.in_ok-steps.ensures.given clean) in
          cc;
      shown = λ clean has steps.
          let was = clean_before first read_2.survives has clean in (
            first_shown tariffs_in c.in_ok-has_tariff.ensures.sees was has,
            table_shown first dated_steps_in c.in_ok-steps.ensures.reads c.in_ok-steps.ensures.sees clean has,
          );
      spoilt = λ _ _. tt;
      reads = read_on (read_after first (read_in_office dated_steps_in c.in_ok-steps.ensures.reads));
    }
