use Rattle.std.proofs.Common.{refl}
use Rattle.sqlite.specs.Held.{state}
use Rattle.book_facts.proofs.LooksLemmas.{by_rules_same, by_rules_weaker}
use Rattle.book_facts.proofs.PassedLemmas.{passed_none, passed_reads}
use Rattle.book_facts.proofs.looking.found_of.Goals as goal

pub returns-in-Health-clause-finds : goal.returns-in-Health-clause-finds
returns-in-Health-clause-finds g c =
    record {
      looks = record {
        facts = λ clean o office members told. rw c.in-Health.is told;
        shown = λ clean has. rw c.in-Health.is refl;
        spoilt = λ clean has. tt;
        reads = passed_reads (passed_none (state g.S.Store c.args.conn.now) (g.met.S.Store.shut_if_dirty c.args.conn.now.store));
      };
      rules = tt;
    }

pub returns-in-Meter-clause-finds : goal.returns-in-Meter-clause-finds
returns-in-Meter-clause-finds g c = by_rules_weaker (λ o found is told. rw c.in-Meter.is is) (λ db found seen. rw c.in-Meter.is seen) (λ db spoilt. rw c.in-Meter.is spoilt)
    (by_rules_same c.meter_of.ensures)

pub returns-in-LastSale-clause-finds : goal.returns-in-LastSale-clause-finds
returns-in-LastSale-clause-finds g c = by_rules_weaker (λ o found is told. rw c.in-LastSale.is is)
    (λ db found seen. rw c.in-LastSale.is seen) (λ db spoilt. rw c.in-LastSale.is spoilt) (by_rules_same c.last_sale_of.ensures)

pub returns-in-SaleOfRef-clause-finds : goal.returns-in-SaleOfRef-clause-finds
returns-in-SaleOfRef-clause-finds g c = by_rules_weaker (λ o found is told. rw c.in-SaleOfRef.is is)
    (λ db found seen. rw c.in-SaleOfRef.is seen) (λ db spoilt. rw c.in-SaleOfRef.is spoilt) (by_rules_same c.sale_under.ensures)

pub returns-in-Quote-clause-finds : goal.returns-in-Quote-clause-finds
returns-in-Quote-clause-finds g c = by_rules_weaker (λ o found is told. rw c.in-Quote.is (is told.sales))
    (λ db found seen. rw c.in-Quote.is seen) (λ db spoilt. rw c.in-Quote.is spoilt) (by_rules_same c.quote_of.ensures)

pub returns-in-ShiftTotals-clause-finds : goal.returns-in-ShiftTotals-clause-finds
returns-in-ShiftTotals-clause-finds g c = by_rules_weaker (λ o found is told. rw c.in-ShiftTotals.is is)
    (λ db found seen. rw c.in-ShiftTotals.is seen) (λ db spoilt. rw c.in-ShiftTotals.is spoilt) (by_rules_same c.totals_under.ensures)

pub returns-in-Tariffs-clause-finds : goal.returns-in-Tariffs-clause-finds
returns-in-Tariffs-clause-finds g c = by_rules_weaker (λ o found is told. rw c.in-Tariffs.is is) (λ db found seen. rw c.in-Tariffs.is seen) (λ db spoilt. rw c.in-Tariffs.is spoilt)
    c.tariff_page.ensures

pub returns-in-Meters-clause-finds : goal.returns-in-Meters-clause-finds
returns-in-Meters-clause-finds g c = by_rules_weaker (λ o found is told. rw c.in-Meters.is is) (λ db found seen. rw c.in-Meters.is seen) (λ db spoilt. rw c.in-Meters.is spoilt)
    (by_rules_same c.meter_page.ensures)

pub returns-in-Shifts-clause-finds : goal.returns-in-Shifts-clause-finds
returns-in-Shifts-clause-finds g c = by_rules_weaker (λ o found is told. rw c.in-Shifts.is is) (λ db found seen. rw c.in-Shifts.is seen) (λ db spoilt. rw c.in-Shifts.is spoilt)
    c.shift_page.ensures

pub returns-in-Sales-clause-finds : goal.returns-in-Sales-clause-finds
returns-in-Sales-clause-finds g c = by_rules_weaker (λ o found is told. rw c.in-Sales.is is) (λ db found seen. rw c.in-Sales.is seen) (λ db spoilt. rw c.in-Sales.is spoilt)
    (by_rules_same c.sale_page.ensures)
