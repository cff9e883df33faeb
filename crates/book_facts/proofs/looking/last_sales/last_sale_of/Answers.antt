use Rattle.std.proofs.Common.{Option, ap, inl, inr, rules, is_none, true, false, ◌∙◌, ◌≡◌, None}
use Rattle.sqlite.specs.Held.{state}
use Rattle.one_table.proofs.ReadsOnlyLemmas.{read_on}
use Rattle.office_rules.specs.declared.office.meter.Meter.{Meter}
use Rattle.office_rules.specs.declared.office.sale.Sale.{Sale}
use Rattle.book_tables.proofs.OfficeTableLemmas.{meters_in, read_in_office}
use Rattle.book_tables.specs.reading.Questions.{the_meter}
use Rattle.book_tables.specs.reading.Seen.{ShowsFirst}
use Rattle.book_facts.specs.Lookups.{last_found, last_sale, sale_found}
use Rattle.book_facts.proofs.FactsLemmas.{members_after, meter_told, none_if, was_clean}
use Rattle.book_facts.proofs.LookupLemmas.{last_there, no_meter}
use Rattle.book_facts.proofs.PassedLemmas.{passed, passed_none, read_after, clean_before}
use Rattle.book_facts.proofs.LooksLemmas.{by_rules_on, looks_shown, looks_spoilt, first_shown, first_spoilt, there_is_one}
use Rattle.book_facts.proofs.looking.last_sales.last_sale_of.Goals as goal

pub returns-in_err-there : goal.returns-in_err-there
returns-in_err-there g c = by_rules_on c.from_residual.result c.from_residual.ensures.1 (read_in_office meters_in c.in_err-there.ensures.reads)
    (λ clean has row. inl (first_spoilt meters_in c.in_err-there.ensures.sees clean has row))

pub returns-then-is_none : goal.returns-then-is_none
returns-then-is_none g c =
    let old = state g.S.Store c.args.conn.now in
    let none = passed_none old (g.met.S.Store.shut_if_dirty c.args.conn.now.store) in
    let read = read_in_office meters_in c.in_ok-there.ensures.reads in
    let gone : is_none c.in_ok-there.there ≡ true = search rules in
    record {
      looks = record {
        facts = λ clean o office members.
            let meter_is = meter_told office members none read clean c.members_law.ensures.meter c.args.number.now c.in_ok-there.there
            (c.in_ok-there.ensures.given clean) in
            ap (λ (there : Option Meter). last_found there (last_sale o c.args.number.now)) (none_if c.in_ok-there.there gone ∙ meter_is);
        shown = λ clean has.
            let gone : is_none c.in_ok-there.there ≡ true = search rules in
            record {
              there = c.in_ok-there.there;
              meter = first_shown meters_in c.in_ok-there.ensures.sees clean has;
              sale = None;
              last = search rules;
              told = ap (λ (there : Option Meter). last_found there None) (none_if c.in_ok-there.there gone);
            };
        spoilt = λ clean has. tt;
        reads = read_on (read_in_office meters_in c.in_ok-there.ensures.reads);
      };
      rules = no_meter;
    }

pub returns-in_err-last : goal.returns-in_err-last
returns-in_err-last g c =
    let first = passed (read_in_office meters_in c.in_ok-there.ensures.reads) (g.met.S.Store.shut_if_dirty c.meter_numbered.new.conn.store) in
    let read_2 = c.in_err-last.ensures.reads in
    let some : is_none c.in_ok-there.there ≡ false = search rules in
    by_rules_on c.from_residual-in_err-last.result c.from_residual-in_err-last.ensures.1 (read_after first read_2) (λ clean has row.
    let was = clean_before first read_2.survives has clean in
    let meter = there_is_one c.in_ok-there.there some (ShowsFirst (the_meter c.args.number.now) (state g.S.Store c.args.conn.now).now)
    (first_shown meters_in c.in_ok-there.ensures.sees was has) in
    inr (meter.0, meter.1, looks_spoilt first c.in_err-last.ensures clean has row))

pub returns : goal.returns
returns g c =
    let old = state g.S.Store c.args.conn.now in
    let none = passed_none old (g.met.S.Store.shut_if_dirty c.args.conn.now.store) in
    let read_1 = read_in_office meters_in c.in_ok-there.ensures.reads in
    let first = passed read_1 (g.met.S.Store.shut_if_dirty c.meter_numbered.new.conn.store) in
    let read_2 = c.in_ok-last.ensures.reads in
    let some : is_none c.in_ok-there.there ≡ false = search rules in
    record {
      looks = record {
        facts = λ clean o office members.
            let was = was_clean office members first read_2 clean in
            let meter_is = meter_told office members none read_1 was c.members_law.ensures.meter c.args.number.now c.in_ok-there.there
            (c.in_ok-there.ensures.given was) in
            let last_is = c.in_ok-last.ensures.facts clean o office (members_after o members first read_2.survives clean) in
            c.sale_or_none.ensures.value
            ∙ ap (λ (last : Option Sale). sale_found last) last_is
            ∙ last_there c.in_ok-there.there (last_sale o c.args.number.now) some
            ∙ ap (λ (there : Option Meter). last_found there (last_sale o c.args.number.now)) meter_is;
        shown = λ clean has.
            let was = clean_before first read_2.survives has clean in
            let some : is_none c.in_ok-there.there ≡ false = search rules in
            record {
              there = c.in_ok-there.there;
              meter = first_shown meters_in c.in_ok-there.ensures.sees was has;
              sale = c.in_ok-last.last;
              last = λ _. looks_shown first c.in_ok-last.ensures clean has;
              told = c.sale_or_none.ensures.value ∙ last_there c.in_ok-there.there c.in_ok-last.last some;
            };
        spoilt = λ clean has. tt;
        reads = read_on (read_after first c.in_ok-last.ensures.reads);
      };
      rules = c.sale_or_none.ensures.rules;
    }
