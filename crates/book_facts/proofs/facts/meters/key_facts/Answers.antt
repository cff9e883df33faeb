use Rattle.std.specs.Prelude.{bytes_eq}
use Rattle.std.specs.List.{list_any}
use Rattle.office_rules.specs.Decision.Facts.{has_other_key}
use Rattle.office_rules.specs.declared.office.sale.Sale.{Sale}
use Rattle.std.proofs.Common.{rules, subst, ◌≡◌, true, inl, inr}
use Rattle.sqlite.specs.Held.{state}
use Rattle.one_table.proofs.ReadsOnlyLemmas.{read_on}
use Rattle.book_tables.proofs.OfficeTableLemmas.{last_ids_in, meters_in, read_in_office}
use Rattle.book_tables.specs.reading.Questions.{the_meter}
use Rattle.book_tables.specs.reading.Seen.{ShowsFirst}
use Rattle.book_facts.proofs.FactsLemmas.{meter_told, sales_told, was_clean}
use Rattle.book_facts.proofs.PassedLemmas.{passed, passed_none, read_after, clean_before}
use Rattle.book_facts.proofs.LooksLemmas.{looks_on, table_shown, table_spoilt, there_is_other, first_shown, first_spoilt}
use Rattle.book_facts.proofs.facts.meters.key_facts.Goals as goal

pub returns-in_err-there : goal.returns-in_err-there
returns-in_err-there g c = looks_on c.from_residual.result c.from_residual.ensures.1 (read_in_office meters_in c.in_err-there.ensures.reads)
    (λ clean has row. inl (first_spoilt meters_in c.in_err-there.ensures.sees clean has row))

pub returns-then-not-has_other_key : goal.returns-then-not-has_other_key
returns-then-not-has_other_key g c =
    let old = state g.S.Store c.args.conn.now in
    let none = passed_none old (g.met.S.Store.shut_if_dirty c.args.conn.now.store) in
    let read_1 = (read_in_office meters_in c.in_ok-there.ensures.reads) in
    record {
      facts = λ clean o office members.
          let meter_is = meter_told office members none read_1 clean c.members_law.ensures.meter c.args.number.now c.in_ok-there.there
          (c.in_ok-there.ensures.given clean) in
          record {
            meter = search (rules, meter_is);
            has_sales = search rules;
          };
      shown = λ clean has. record {
        meter = first_shown meters_in c.in_ok-there.ensures.sees clean has;
        has_sales = search rules;
      };
      spoilt = λ _ _. tt;
      reads = read_on (read_in_office meters_in c.in_ok-there.ensures.reads);
    }

pub returns-in_err-has_sales : goal.returns-in_err-has_sales
returns-in_err-has_sales g c =
    let old = state g.S.Store c.args.conn.now in
    let first = passed (read_in_office meters_in c.in_ok-there.ensures.reads) (g.met.S.Store.shut_if_dirty c.meter_numbered.new.conn.store) in
    let read_2 = read_in_office last_ids_in c.in_err-has_sales.ensures.reads in
    let other : has_other_key c.args.key c.in_ok-there.there ≡ true = search rules in
    looks_on c.from_residual-in_err-has_sales.result c.from_residual-in_err-has_sales.ensures.1 (read_after first read_2)
    (λ clean has row.
    let was = clean_before first read_2.survives has clean in
    let there = there_is_other c.args.key c.in_ok-there.there other (ShowsFirst (the_meter c.args.number.now) old.now)
    (first_shown meters_in c.in_ok-there.ensures.sees was has) in
    inr (there.0, there.1, (there.2, table_spoilt first last_ids_in c.in_err-has_sales.ensures.reads c.in_err-has_sales.ensures.sees clean has row)))

pub returns : goal.returns
returns g c =
    let old = state g.S.Store c.args.conn.now in
    let none = passed_none old (g.met.S.Store.shut_if_dirty c.args.conn.now.store) in
    let read_1 = (read_in_office meters_in c.in_ok-there.ensures.reads) in
    let first = passed read_1 (g.met.S.Store.shut_if_dirty c.meter_numbered.new.conn.store) in
    let read_2 = (read_in_office last_ids_in c.in_ok-has_sales.ensures.reads) in
    record {
      facts = λ clean o office members.
          let was = was_clean office members first read_2 clean in
          record {
            meter = meter_told office members none read_1 was c.members_law.ensures.meter c.args.number.now c.in_ok-there.there
                (c.in_ok-there.ensures.given was);
            has_sales = λ _. sales_told office members first read_2 clean last_ids_in (list_any (λ (s : Sale). bytes_eq s.meter c.args.number.now))
                c.in_ok-has_sales.has_sales (c.in_ok-has_sales.ensures.given clean);
          };
      shown = λ clean has.
          let was = clean_before first read_2.survives has clean in
          record {
            meter = first_shown meters_in c.in_ok-there.ensures.sees was has;
            has_sales = λ _. table_shown first last_ids_in c.in_ok-has_sales.ensures.reads c.in_ok-has_sales.ensures.sees clean has;
          };
      spoilt = λ _ _. tt;
      reads = read_on (read_after first (read_in_office last_ids_in c.in_ok-has_sales.ensures.reads));
    }
