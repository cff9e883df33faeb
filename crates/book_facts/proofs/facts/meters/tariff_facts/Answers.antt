use Rattle.sqlite.specs.Held.{state}
use Rattle.one_table.proofs.ReadsOnlyLemmas.{read_on}
use Rattle.office_rules.specs.Office.{Office}
use Rattle.book_tables.proofs.OfficeTableLemmas.{steps_in, read_in_office}
use Rattle.book_facts.proofs.FactsLemmas.{office_told}
use Rattle.book_facts.proofs.PassedLemmas.{passed_none}
use Rattle.book_facts.proofs.LooksLemmas.{looks_on, first_shown, first_spoilt}
use Rattle.book_facts.proofs.facts.meters.tariff_facts.Goals as goal

pub returns-in_err-steps : goal.returns-in_err-steps
returns-in_err-steps g c = looks_on c.from_residual.result c.from_residual.ensures.1 (read_in_office steps_in c.in_err-steps.ensures.reads)
    (λ clean has. first_spoilt steps_in c.in_err-steps.ensures.sees clean has)

pub returns : goal.returns
returns g c =
    let old = state g.S.Store c.args.conn.now in
    let none = passed_none old (g.met.S.Store.shut_if_dirty c.args.conn.now.store) in
    record {
      facts = λ clean o office members. office_told office members none (read_in_office steps_in c.in_ok-steps.ensures.reads) clean
          steps_in (λ (o : Office). o.tariffs c.args.name.now) c.in_ok-steps.steps (c.in_ok-steps.ensures.given clean);
      shown = λ clean has. first_shown steps_in c.in_ok-steps.ensures.sees clean has;
      spoilt = λ _ _. tt;
      reads = read_on (read_in_office steps_in c.in_ok-steps.ensures.reads);
    }
