use Rattle.std.proofs.Common.{List, Option, Some, ap, filter, find, inl, inr, option_map, sym, ◌==◌, ◌∙◌, subst}
use Rattle.sqlite.specs.Held.{state}
use Rattle.one_table.proofs.ReadsOnlyLemmas.{read_on}
use Rattle.office_rules.specs.Office.Lookup.{sales_of_shift}
use Rattle.office_rules.specs.declared.decision.facts.Facts.{Facts}
use Rattle.office_rules.specs.declared.office.sale.Sale.{Sale}
use Rattle.office_rules.specs.declared.office.shift.Shift.{Shift}
use Rattle.book_tables.proofs.OfficeTableLemmas.{sales_in, shifts_in, read_in_office}
use Rattle.book_tables.specs.reading.Questions.{the_sales_of_shift, the_shift}
use Rattle.book_tables.specs.reading.Seen.{ShowsAll, ShowsFirst}
use Rattle.book_states.specs.FactsSeen.{IsReportSeen}
use Rattle.book_facts.proofs.FactsLemmas.{none_of, sales_told, shifts_told, was_clean}
use Rattle.book_facts.proofs.PassedLemmas.{passed, passed_none, read_after, clean_before}
use Rattle.book_facts.proofs.LooksLemmas.{looks_on, table_shown, table_spoilt, first_shown, first_spoilt}
use Rattle.book_facts.proofs.facts.shifts.report_facts.Goals as goal

pub returns-in_err-found : goal.returns-in_err-found
returns-in_err-found g c = looks_on c.from_residual.result c.from_residual.ensures.1 (read_in_office shifts_in c.in_err-found.ensures.reads)
    (λ clean has row. inl (first_spoilt shifts_in c.in_err-found.ensures.sees clean has row))

pub returns-in_default : goal.returns-in_default
returns-in_default g c =
    let old = state g.S.Store c.args.conn.now in
    let none = passed_none old (g.met.S.Store.shut_if_dirty c.args.conn.now.store) in
    let read = read_in_office shifts_in c.in_ok-found.ensures.reads in
    record {
      facts = λ clean o office members.
          let shift_is = shifts_told office members none read clean (find (λ s. s.number == c.args.number)) c.in_ok-found.found
          (c.in_ok-found.ensures.given clean) in
          ap (λ (f : Facts). f.report) c.none.ensures
          ∙ ap (option_map (λ (s : Shift). (s, sales_of_shift o c.args.number))) (sym (none_of c.in_ok-found.found c.in_default.not-Some) ∙ shift_is);
      shown = λ clean has.
          let shift = subst (ShowsFirst (the_shift c.args.number) old.now) (none_of c.in_ok-found.found c.in_default.not-Some)
          (first_shown shifts_in c.in_ok-found.ensures.sees clean has) in
          subst (IsReportSeen c.args.number old.now) (sym (ap (λ (f : Facts). f.report) c.none.ensures)) shift;
      spoilt = λ _ _. tt;
      reads = read_on (read_in_office shifts_in c.in_ok-found.ensures.reads);
    }

pub returns-in_err-sales : goal.returns-in_err-sales
returns-in_err-sales g c =
    let old = state g.S.Store c.args.conn.now in
    let first = passed (read_in_office shifts_in c.in_ok-found.ensures.reads) (g.met.S.Store.shut_if_dirty c.shift_numbered.new.conn.store) in
    let read_2 = read_in_office sales_in c.in_err-sales.ensures.reads in
    looks_on c.from_residual-in_err-sales.result c.from_residual-in_err-sales.ensures.1 (read_after first read_2)
    (λ clean has row.
    let was = clean_before first read_2.survives has clean in
    let there = subst (ShowsFirst (the_shift c.args.number) old.now) c.in-Some.is (first_shown shifts_in c.in_ok-found.ensures.sees was has) in
    inr (c.in-Some.shift, there, table_spoilt first sales_in c.in_err-sales.ensures.reads c.in_err-sales.ensures.sees clean has row))

pub returns : goal.returns
returns g c =
    let old = state g.S.Store c.args.conn.now in
    let none = passed_none old (g.met.S.Store.shut_if_dirty c.args.conn.now.store) in
    let read_1 = (read_in_office shifts_in c.in_ok-found.ensures.reads) in
    let first = passed read_1 (g.met.S.Store.shut_if_dirty c.shift_numbered.new.conn.store) in
    let read_2 = (read_in_office sales_in c.in_ok-sales.ensures.reads) in
    record {
      facts = λ clean o office members.
          let was = was_clean office members first read_2 clean in
          let shift_is = shifts_told office members none read_1 was (find (λ s. s.number == c.args.number)) c.in_ok-found.found
          (c.in_ok-found.ensures.given was) in
          let sales_are = sales_told office members first read_2 clean sales_in (filter (λ s. s.shift == c.args.number))
          c.in_ok-sales.sales.items (c.in_ok-sales.ensures.given clean) in
          ap (λ (sales : List Sale). let found : Option (Shift × List Sale) = Some (c.in-Some.shift, sales) in found) (c.of.ensures ∙ sales_are)
          ∙ ap (option_map (λ (s : Shift). (s, sales_of_shift o c.args.number))) (sym c.in-Some.is ∙ shift_is);
      shown = λ clean has.
          let was = clean_before first read_2.survives has clean in
          let sales = table_shown first sales_in c.in_ok-sales.ensures.reads c.in_ok-sales.ensures.sees clean has in (
            subst (ShowsFirst (the_shift c.args.number) old.now) c.in-Some.is (first_shown shifts_in c.in_ok-found.ensures.sees was has),
            subst (ShowsAll (the_sales_of_shift c.args.number) old.now) (sym c.of.ensures) sales,
          );
      spoilt = λ _ _. tt;
      reads = read_on (read_after first (read_in_office sales_in c.in_ok-sales.ensures.reads));
    }
