use Rattle.sqlite.specs.Held.{state}
use Rattle.one_table.proofs.ReadsOnlyLemmas.{read_on}
use Rattle.book_tables.proofs.OfficeTableLemmas.{meters_in, read_in_office}
use Rattle.book_facts.proofs.FactsLemmas.{meter_told}
use Rattle.book_facts.proofs.PassedLemmas.{passed_none}
use Rattle.book_facts.proofs.LooksLemmas.{looks_on, first_shown, first_spoilt}
use Rattle.book_facts.proofs.facts.meters.moving_facts.Goals as goal

pub returns-in_err-there : goal.returns-in_err-there
returns-in_err-there g c = looks_on c.from_residual.result c.from_residual.ensures.1 (read_in_office meters_in c.in_err-there.ensures.reads)
    (λ clean has. first_spoilt meters_in c.in_err-there.ensures.sees clean has)

pub returns : goal.returns
returns g c =
    let old = state g.S.Store c.args.conn.now in
    let none = passed_none old (g.met.S.Store.shut_if_dirty c.args.conn.now.store) in
    record {
      facts = λ clean o office members. meter_told office members none (read_in_office meters_in c.in_ok-there.ensures.reads) clean
          c.members_law.ensures.meter c.args.number.now c.in_ok-there.there (c.in_ok-there.ensures.given clean);
      shown = λ clean has. first_shown meters_in c.in_ok-there.ensures.sees clean has;
      spoilt = λ _ _. tt;
      reads = read_on (read_in_office meters_in c.in_ok-there.ensures.reads);
    }
