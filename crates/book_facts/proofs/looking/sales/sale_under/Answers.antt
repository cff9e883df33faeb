use Rattle.std.proofs.Common.{Option, ap, find, ◌&&◌, ◌∙◌}
use Rattle.std.specs.Prelude.{bytes_eq}
use Rattle.sqlite.specs.Held.{state}
use Rattle.one_table.proofs.ReadsOnlyLemmas.{read_on}
use Rattle.office_rules.specs.declared.office.sale.Sale.{Sale}
use Rattle.book_tables.proofs.OfficeTableLemmas.{sales_in, read_in_office}
use Rattle.book_facts.specs.Lookups.{sale_found}
use Rattle.book_facts.proofs.FactsLemmas.{sales_told}
use Rattle.book_facts.proofs.PassedLemmas.{passed_none}
use Rattle.book_facts.proofs.LooksLemmas.{by_rules_on, first_shown, first_spoilt}
use Rattle.book_facts.proofs.looking.sales.sale_under.Goals as goal

pub returns-in_err-there : goal.returns-in_err-there
returns-in_err-there g c = by_rules_on c.from_residual.result c.from_residual.ensures.1 (read_in_office sales_in c.in_err-there.ensures.reads)
    (first_spoilt sales_in c.in_err-there.ensures.sees)

pub returns : goal.returns
returns g c =
    let old = state g.S.Store c.args.conn.now in
    let none = passed_none old (g.met.S.Store.shut_if_dirty c.args.conn.now.store) in
    record {
      looks = record {
        facts = λ clean o office members.
            let there_is = sales_told office members none (read_in_office sales_in c.in_ok-there.ensures.reads) clean sales_in
            (find (λ s. bytes_eq s.operator c.args.operator.now && bytes_eq s.order_ref c.args.order_ref.now)) c.in_ok-there.there
            (c.in_ok-there.ensures.given clean) in
            c.sale_or_none.ensures.value ∙ ap (λ (there : Option Sale). sale_found there) there_is;
        shown = λ clean has. (c.in_ok-there.there, first_shown sales_in c.in_ok-there.ensures.sees clean has, c.sale_or_none.ensures.value);
        spoilt = λ clean has. tt;
        reads = read_on (read_in_office sales_in c.in_ok-there.ensures.reads);
      };
      rules = c.sale_or_none.ensures.rules;
    }
