use Rattle.std.proofs.Common.{◌≡◌, false, inl, inr, is_some, rules}
use Rattle.sqlite.specs.Held.{state}
use Rattle.one_table.proofs.ReadsOnlyLemmas.{read_on}
use Rattle.book_tables.proofs.OfficeTableLemmas.{meters_in, tariffs_in, read_in_office}
use Rattle.book_tables.specs.reading.Questions.{the_meter}
use Rattle.book_tables.specs.reading.Seen.{ShowsFirst}
use Rattle.book_facts.proofs.FactsLemmas.{meter_told, tariff_told, was_clean}
use Rattle.book_facts.proofs.PassedLemmas.{passed, passed_none, read_after, clean_before}
use Rattle.book_facts.proofs.LooksLemmas.{looks_on, table_shown, table_spoilt, there_is_none, first_shown, first_spoilt}
use Rattle.book_facts.proofs.facts.meters.meter_facts.Goals as goal

pub returns-in_err-there : goal.returns-in_err-there
returns-in_err-there g c = looks_on c.from_residual.result c.from_residual.ensures.1 (read_in_office meters_in c.in_err-there.ensures.reads)
    (λ clean has row. inl (first_spoilt meters_in c.in_err-there.ensures.sees clean has row))

pub returns-then-is_some : goal.returns-then-is_some
returns-then-is_some g c =
    let old = state g.S.Store c.args.conn.now in
    let none = passed_none old (g.met.S.Store.shut_if_dirty c.args.conn.now.store) in
    let read_1 = (read_in_office meters_in c.in_ok-there.ensures.reads) in
    record {
      facts = λ clean o office members.
          record {
            meter = meter_told office members none read_1 clean c.members_law.ensures.meter c.args.number.now c.in_ok-there.there
                (c.in_ok-there.ensures.given clean);
            has_tariff = search rules;
          };
      shown = λ clean has. record { meter = first_shown meters_in c.in_ok-there.ensures.sees clean has; has_tariff = search rules };
      spoilt = λ _ _. tt;
      reads = read_on (read_in_office meters_in c.in_ok-there.ensures.reads);
    }

pub returns-in_err-has_tariff : goal.returns-in_err-has_tariff
returns-in_err-has_tariff g c =
    let old = state g.S.Store c.args.conn.now in
    let first = passed (read_in_office meters_in c.in_ok-there.ensures.reads) (g.met.S.Store.shut_if_dirty c.meter_numbered.new.conn.store) in
    let read_2 = read_in_office tariffs_in c.in_err-has_tariff.ensures.reads in
    let none : is_some c.in_ok-there.there ≡ false = search rules in
    looks_on c.from_residual-in_err-has_tariff.result c.from_residual-in_err-has_tariff.ensures.1 (read_after first read_2)
    (λ clean has row.
    let was = clean_before first read_2.survives has clean in
    let gone = there_is_none c.in_ok-there.there none (ShowsFirst (the_meter c.args.number.now) old.now)
    (first_shown meters_in c.in_ok-there.ensures.sees was has) in
    inr (gone, table_spoilt first tariffs_in c.in_err-has_tariff.ensures.reads c.in_err-has_tariff.ensures.sees clean has row))

pub returns : goal.returns
returns g c =
    let old = state g.S.Store c.args.conn.now in
    let none = passed_none old (g.met.S.Store.shut_if_dirty c.args.conn.now.store) in
    let read_1 = (read_in_office meters_in c.in_ok-there.ensures.reads) in
    let first = passed read_1 (g.met.S.Store.shut_if_dirty c.meter_numbered.new.conn.store) in
    let read_2 = (read_in_office tariffs_in c.in_ok-has_tariff.ensures.reads) in
    record {
      facts = λ clean o office members.
          let was = was_clean office members first read_2 clean in
          record {
            meter = meter_told office members none read_1 was c.members_law.ensures.meter c.args.number.now c.in_ok-there.there
                (c.in_ok-there.ensures.given was);
            has_tariff = λ _. tariff_told office members first read_2 clean c.args.meter.now.tariff c.in_ok-has_tariff.has_tariff
                (c.in_ok-has_tariff.ensures.given clean);
          };
      shown = λ clean has.
          let was = clean_before first read_2.survives has clean in
          record {
            meter = first_shown meters_in c.in_ok-there.ensures.sees was has;
            has_tariff = λ _. table_shown first tariffs_in c.in_ok-has_tariff.ensures.reads c.in_ok-has_tariff.ensures.sees clean has;
          };
      spoilt = λ _ _. tt;
      reads = read_on (read_after first (read_in_office tariffs_in c.in_ok-has_tariff.ensures.reads));
    }
