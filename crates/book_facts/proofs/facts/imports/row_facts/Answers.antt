use Rattle.std.proofs.Common.{List, Option, ap}
use Rattle.std.proofs.lemmas.Result.{IfErr-weaker, IfOk-weaker}
use Rattle.sqlite.specs.Held.{state}
use Rattle.one_table.proofs.ReadsOnlyLemmas.{read_on}
use Rattle.tariff.specs.declared.step.Step.{Step}
use Rattle.office_rules.specs.Office.{Office}
use Rattle.office_rules.specs.declared.decision.row_facts.RowFacts.{RowFacts}
use Rattle.book_tables.proofs.OfficeTableLemmas.{steps_in, read_in_office}
use Rattle.book_facts.proofs.FactsLemmas.{office_told}
use Rattle.book_facts.proofs.PassedLemmas.{passed_none}
use Rattle.book_facts.proofs.LooksLemmas.{looks_on, first_shown, first_spoilt, looks_weaker}
use Rattle.office_rules.specs.declared.decision.row_facts.RowFacts.TheVariants as found
use Rattle.book_facts.proofs.facts.imports.row_facts.Goals as goal

pub returns-in_err-steps-in-Tariff : goal.returns-in_err-steps-in-Tariff
returns-in_err-steps-in-Tariff g c = looks_on c.from_residual.result c.from_residual.ensures.1 (read_in_office steps_in c.in_err-steps-in-Tariff.ensures.reads)
    (λ clean has row. let spoilt = first_spoilt steps_in c.in_err-steps-in-Tariff.ensures.sees clean has row in rw c.in-Tariff.is spoilt)

pub returns-in_ok-steps-in-Tariff : goal.returns-in_ok-steps-in-Tariff
returns-in_ok-steps-in-Tariff g c =
    let old = state g.S.Store c.args.conn.now in
    let none = passed_none old (g.met.S.Store.shut_if_dirty c.args.conn.now.store) in
    let read = read_in_office steps_in c.in_ok-steps-in-Tariff.ensures.reads in
    record {
      facts = λ clean o office members.
          let steps_are = office_told office members none read clean steps_in (λ (o : Office). o.tariffs c.in-Tariff.name)
          c.in_ok-steps-in-Tariff.steps (c.in_ok-steps-in-Tariff.ensures.given clean) in
          rw c.in-Tariff.is (ap (λ (s : Option (List Step)). let f : RowFacts = found.Tariff s in f) steps_are);
      shown = λ clean has. rw c.in-Tariff.is (first_shown steps_in c.in_ok-steps-in-Tariff.ensures.sees clean has);
      spoilt = λ _ _. tt;
      reads = read_on (read_in_office steps_in c.in_ok-steps-in-Tariff.ensures.reads);
    }

pub returns-in-Steps : goal.returns-in-Steps
returns-in-Steps g c =
    record {
      facts = λ clean o office members.
          IfOk-weaker c.steps_row_facts.result _ _ (λ found says. rw c.in-Steps.is (says c.in-Steps.field-2))
          (c.steps_row_facts.ensures.facts clean o office members);
      shown = λ clean has.
          IfOk-weaker c.steps_row_facts.result _ _ (λ found seen. rw c.in-Steps.is (seen c.in-Steps.field-2))
          (c.steps_row_facts.ensures.shown clean has);
      spoilt = λ clean has.
          IfErr-weaker c.steps_row_facts.result _ _ (λ e told row. rw c.in-Steps.is (told row))
          (c.steps_row_facts.ensures.spoilt clean has);
      reads = c.steps_row_facts.ensures.reads;
    }

pub returns-in-Meter : goal.returns-in-Meter
returns-in-Meter g c = looks_weaker (λ o found is. rw c.in-Meter.is is) (λ db found seen. rw c.in-Meter.is seen)
    (λ db spoilt. rw c.in-Meter.is spoilt) c.meter_row_facts.ensures
