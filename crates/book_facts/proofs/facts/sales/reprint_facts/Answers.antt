use Rattle.std.proofs.Common.{find, ◌==◌}
use Rattle.sqlite.specs.Held.{state}
use Rattle.one_table.proofs.ReadsOnlyLemmas.{read_on}
use Rattle.book_tables.proofs.OfficeTableLemmas.{sales_in, read_in_office}
use Rattle.book_facts.proofs.FactsLemmas.{sales_told}
use Rattle.book_facts.proofs.PassedLemmas.{passed_none}
use Rattle.book_facts.proofs.LooksLemmas.{looks_on, first_shown, first_spoilt}
use Rattle.book_facts.proofs.facts.sales.reprint_facts.Goals as goal

pub returns-in_err-sale : goal.returns-in_err-sale
returns-in_err-sale g c = looks_on c.from_residual.result c.from_residual.ensures.1 (read_in_office sales_in c.in_err-sale.ensures.reads)
    (λ clean has. first_spoilt sales_in c.in_err-sale.ensures.sees clean has)

pub returns : goal.returns
returns g c =
    let old = state g.S.Store c.args.conn.now in
    let none = passed_none old (g.met.S.Store.shut_if_dirty c.args.conn.now.store) in
    record {
      facts = λ clean o office members. sales_told office members none (read_in_office sales_in c.in_ok-sale.ensures.reads) clean sales_in
          (find (λ s. s.number == c.args.number)) c.in_ok-sale.sale (c.in_ok-sale.ensures.given clean);
      shown = λ clean has. first_shown sales_in c.in_ok-sale.ensures.sees clean has;
      spoilt = λ _ _. tt;
      reads = read_on (read_in_office sales_in c.in_ok-sale.ensures.reads);
    }
