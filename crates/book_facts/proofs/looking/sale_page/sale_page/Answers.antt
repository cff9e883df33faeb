use Rattle.std.proofs.Common.{List, filter, take}
use Rattle.std.specs.Prelude.{nat_lt}
use Rattle.sqlite.specs.Held.{state}
use Rattle.one_table.proofs.ReadsOnlyLemmas.{read_on}
use Rattle.office_rules.specs.declared.office.sale.Sale.{Sale}
use Rattle.book_tables.proofs.OfficeTableLemmas.{sales_in, read_in_office}
use Rattle.book_lists.specs.Pages.{page_size}
use Rattle.book_facts.proofs.FactsLemmas.{sales_told}
use Rattle.book_facts.proofs.PassedLemmas.{passed_none}
use Rattle.book_facts.proofs.LooksLemmas.{by_rules_on, first_shown, first_spoilt}
use Rattle.book_facts.proofs.looking.sale_page.sale_page.Goals as goal

pub returns-in_err-sales : goal.returns-in_err-sales
returns-in_err-sales g c = by_rules_on c.from_residual.result c.from_residual.ensures.1 (read_in_office sales_in c.in_err-sales.ensures.reads)
    (first_spoilt sales_in c.in_err-sales.ensures.sees)

pub returns : goal.returns
returns g c =
    let old = state g.S.Store c.args.conn.now in
    let none = passed_none old (g.met.S.Store.shut_if_dirty c.args.conn.now.store) in
    let after = c.args.after in
    record {
      looks = record {
        facts = λ clean o office members. sales_told office members none (read_in_office sales_in c.in_ok-sales.ensures.reads) clean sales_in
            (λ (sales : List Sale). take page_size (filter (λ s. nat_lt after s.number) sales)) c.in_ok-sales.sales.items (c.in_ok-sales.ensures.given clean);
        shown = λ clean has. first_shown sales_in c.in_ok-sales.ensures.sees clean has;
        spoilt = λ clean has. tt;
        reads = read_on (read_in_office sales_in c.in_ok-sales.ensures.reads);
      };
      rules = tt;
    }
