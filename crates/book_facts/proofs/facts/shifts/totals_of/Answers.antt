use Rattle.std.proofs.Common.{List, Option, Some, ap, false, find, inl, inr, is_none, option_map, rules, true, ◌==◌, ◌∙◌, ◌≡◌, subst, sym}
use Rattle.sqlite.specs.Held.{state}
use Rattle.one_table.proofs.ReadsOnlyLemmas.{read_on}
use Rattle.office_rules.specs.Office.Lookup.{sales_of_shift}
use Rattle.office_rules.specs.declared.office.sale.Sale.{Sale}
use Rattle.office_rules.specs.declared.office.shift.Shift.{Shift}
use Rattle.book_tables.specs.Stands.{all_totals, sales_in_shift}
use Rattle.book_tables.specs.declared.row.totals.Totals.{Totals}
use Rattle.book_tables.proofs.OfficeTableLemmas.{shift_totals_in, shifts_in, read_in_office}
use Rattle.book_tables.specs.reading.Questions.{the_shift}
use Rattle.book_tables.specs.reading.Seen.{ShowsFirst}
use Rattle.book_facts.proofs.FactsLemmas.{none_if, sales_told, shifts_told, told_there, was_clean}
use Rattle.book_facts.proofs.PassedLemmas.{passed, passed_none, read_after, clean_before}
use Rattle.book_facts.proofs.LooksLemmas.{looks_on, table_shown, table_spoilt, there_is_one, first_shown, first_spoilt}
use Rattle.book_facts.proofs.facts.shifts.totals_of.Goals as goal

pub returns-in_err-found : goal.returns-in_err-found
returns-in_err-found g c = looks_on c.from_residual.result c.from_residual.ensures.1 (read_in_office shifts_in c.in_err-found.ensures.reads)
    (λ clean has row. inl (first_spoilt shifts_in c.in_err-found.ensures.sees clean has row))

pub returns-then-is_none : goal.returns-then-is_none
returns-then-is_none g c =
    let old = state g.S.Store c.args.conn.now in
    let none = passed_none old (g.met.S.Store.shut_if_dirty c.args.conn.now.store) in
    let number = c.args.number in
    let read = read_in_office shifts_in c.in_ok-found.ensures.reads in
    let gone : is_none c.in_ok-found.found ≡ true = search rules in
    record {
      facts = λ clean o office members.
          let shift_is = shifts_told office members none read clean (find (λ s. s.number == number)) c.in_ok-found.found (c.in_ok-found.ensures.given clean) in
          ap (option_map (λ (s : Shift). all_totals (sales_of_shift o number))) (none_if c.in_ok-found.found gone ∙ shift_is);
      shown = λ clean has.
          let gone : is_none c.in_ok-found.found ≡ true = search rules in
          subst (ShowsFirst (the_shift c.args.number) old.now) (sym (none_if c.in_ok-found.found gone))
          (first_shown shifts_in c.in_ok-found.ensures.sees clean has);
      spoilt = λ _ _. tt;
      reads = read_on (read_in_office shifts_in c.in_ok-found.ensures.reads);
    }

pub returns-in_err-totals : goal.returns-in_err-totals
returns-in_err-totals g c =
    let old = state g.S.Store c.args.conn.now in
    let first = passed (read_in_office shifts_in c.in_ok-found.ensures.reads) (g.met.S.Store.shut_if_dirty c.shift_numbered.new.conn.store) in
    let read_2 = read_in_office shift_totals_in c.in_err-totals.ensures.reads in
    let some : is_none c.in_ok-found.found ≡ false = search rules in
    looks_on c.from_residual-in_err-totals.result c.from_residual-in_err-totals.ensures.1 (read_after first read_2)
    (λ clean has row.
    let was = clean_before first read_2.survives has clean in
    let there = there_is_one c.in_ok-found.found some (ShowsFirst (the_shift c.args.number) old.now)
    (first_shown shifts_in c.in_ok-found.ensures.sees was has) in
    inr (there.0, there.1, table_spoilt first shift_totals_in c.in_err-totals.ensures.reads c.in_err-totals.ensures.sees clean has row))

pub returns : goal.returns
returns g c =
    let old = state g.S.Store c.args.conn.now in
    let none = passed_none old (g.met.S.Store.shut_if_dirty c.args.conn.now.store) in
    let number = c.args.number in
    let found = c.in_ok-found.found in
    let read_1 = read_in_office shifts_in c.in_ok-found.ensures.reads in
    let first = passed read_1 (g.met.S.Store.shut_if_dirty c.shift_numbered.new.conn.store) in
    let read_2 = read_in_office shift_totals_in c.in_ok-totals.ensures.reads in
    let some : is_none found ≡ false = search rules in
    record {
      facts = λ clean o office members.
          let was = was_clean office members first read_2 clean in
          let shift_is = shifts_told office members none read_1 was (find (λ s. s.number == number)) found (c.in_ok-found.ensures.given was) in
          let totals_are = sales_told office members first read_2 clean shift_totals_in
          (λ (sales : List Sale). all_totals (sales_in_shift sales number)) c.in_ok-totals.totals (c.in_ok-totals.ensures.given clean) in
          ap (λ (totals : Totals). let given : Option Totals = Some totals in given) totals_are
          ∙ told_there found (all_totals (sales_of_shift o number)) some
          ∙ ap (option_map (λ (s : Shift). all_totals (sales_of_shift o number))) shift_is;
      shown = λ clean has.
          let was = clean_before first read_2.survives has clean in
          let some : is_none c.in_ok-found.found ≡ false = search rules in (
            there_is_one c.in_ok-found.found some (ShowsFirst (the_shift c.args.number) old.now) (first_shown shifts_in c.in_ok-found.ensures.sees was has),
            table_shown first shift_totals_in c.in_ok-totals.ensures.reads c.in_ok-totals.ensures.sees clean has,
          );
      spoilt = λ _ _. tt;
      reads = read_on (read_after first (read_in_office shift_totals_in c.in_ok-totals.ensures.reads));
    }
