use Rattle.std.proofs.Common.{List, Option, ap, filter, inl, inr, rules, sym, ℕ, ◌&&◌, ◌==◌, ◌∙◌, ◌≡◌, subst, refl, Some, None}
use Rattle.std.specs.Prelude.{bytes_eq, sum_by}
use Rattle.std.proofs.lemmas.Bool.{false≢true}
use Rattle.sqlite.specs.Held.{state}
use Rattle.one_table.proofs.ReadsOnlyLemmas.{read_on}
use Rattle.sts_fields.specs.Calendar.{month_at}
use Rattle.office_rules.specs.Office.Lookup.{prior}
use Rattle.office_rules.specs.declared.office.meter.Meter.{Meter}
use Rattle.office_rules.specs.declared.office.sale.Sale.{Sale}
use Rattle.book_tables.proofs.OfficeTableLemmas.{meters_in, month_tenths_in, read_in_office}
use Rattle.book_tables.specs.reading.Questions.{the_meter, the_month_tenths}
use Rattle.book_tables.specs.reading.Seen.{HasSpoilt, ShowsFirst}
use Rattle.book_facts.specs.Lookups.{last_sale, meter_found}
use Rattle.book_facts.proofs.FactsLemmas.{members_after, meter_told, sales_told, was_clean}
use Rattle.book_facts.proofs.LookupLemmas.{meter_is_told, no_meter}
use Rattle.book_facts.proofs.PassedLemmas.{passed, passed_after, passed_none, read_after, clean_before}
use Rattle.book_facts.proofs.LooksLemmas.{by_rules_on, looks_shown, looks_spoilt, first_shown, first_spoilt, table_shown, table_spoilt}
use Rattle.book_facts.proofs.looking.meters.meter_of.Goals as goal

pub returns-in_err-there : goal.returns-in_err-there
returns-in_err-there g c = by_rules_on c.from_residual.result c.from_residual.ensures.1 (read_in_office meters_in c.in_err-there.ensures.reads)
    (λ clean has row. inl (first_spoilt meters_in c.in_err-there.ensures.sees clean has row))

pub returns-in_default : goal.returns-in_default
returns-in_default g c =
    let old = state g.S.Store c.args.conn.now in
    let none = passed_none old (g.met.S.Store.shut_if_dirty c.args.conn.now.store) in
    let number = c.args.number.now in
    let read = read_in_office meters_in c.in_ok-there.ensures.reads in
    record {
      looks = record {
        facts = λ clean o office members.
            let meter_is = meter_told office members none read clean c.members_law.ensures.meter number c.in_ok-there.there
            (c.in_ok-there.ensures.given clean) in
            ap (λ (there : Option Meter). meter_found number there (prior o number (month_at c.args.moment)) (last_sale o number))
            (sym c.in_default.is ∙ meter_is);
        shown = λ clean has.
            record {
              there = None;
              meter = subst (ShowsFirst (the_meter number) old.now) c.in_default.is (first_shown meters_in c.in_ok-there.ensures.sees clean has);
              tenths = 0;
              sold = λ some. absurd (false≢true some);
              sale = None;
              last = λ some. absurd (false≢true some);
              told = refl;
            };
        spoilt = λ clean has. tt;
        reads = read_on (read_in_office meters_in c.in_ok-there.ensures.reads);
      };
      rules = no_meter;
    }

pub returns-in_err-tenths : goal.returns-in_err-tenths
returns-in_err-tenths g c =
    let first = passed (read_in_office meters_in c.in_ok-there.ensures.reads) (g.met.S.Store.shut_if_dirty c.meter_numbered.new.conn.store) in
    let old = state g.S.Store c.args.conn.now in
    let number = c.args.number.now in
    let read_2 = read_in_office month_tenths_in c.in_err-tenths.ensures.reads in
    let month_is : c.unwrap-month.result ≡ month_at c.args.moment = search rules in
    by_rules_on c.from_residual-in_err-tenths.result c.from_residual-in_err-tenths.ensures.1 (read_after first read_2) (λ clean has row.
    let was = clean_before first read_2.survives has clean in
    inr (
      c.in-Some.meter,
      subst (ShowsFirst (the_meter number) old.now) c.in-Some.is (first_shown meters_in c.in_ok-there.ensures.sees was has),
      inl (subst (λ month. HasSpoilt (the_month_tenths number month) old.now) month_is
          (table_spoilt first month_tenths_in c.in_err-tenths.ensures.reads c.in_err-tenths.ensures.sees clean has row)),
    ))

pub returns-in_err-last : goal.returns-in_err-last
returns-in_err-last g c =
    let first = passed (read_in_office meters_in c.in_ok-there.ensures.reads) (g.met.S.Store.shut_if_dirty c.meter_numbered.new.conn.store) in
    let second = passed_after first (read_in_office month_tenths_in c.in_ok-tenths.ensures.reads)
    (g.met.S.Store.shut_if_dirty c.tenths_in_month.new.conn.store) in
    let old = state g.S.Store c.args.conn.now in
    let read_3 = c.in_err-last.ensures.reads in
    by_rules_on c.from_residual-in_err-last.result c.from_residual-in_err-last.ensures.1 (read_after second read_3) (λ clean has row.
    let was_2 = clean_before second read_3.survives has clean in
    let was_1 = clean_before first (read_in_office month_tenths_in c.in_ok-tenths.ensures.reads).survives has was_2 in
    inr (
      c.in-Some.meter,
      subst (ShowsFirst (the_meter c.args.number.now) old.now) c.in-Some.is (first_shown meters_in c.in_ok-there.ensures.sees was_1 has),
      inr (looks_spoilt second c.in_err-last.ensures clean has row),
    ))

pub returns : goal.returns
returns g c =
    let old = state g.S.Store c.args.conn.now in
    let none = passed_none old (g.met.S.Store.shut_if_dirty c.args.conn.now.store) in
    let number = c.args.number.now in
    let read_1 = read_in_office meters_in c.in_ok-there.ensures.reads in
    let first = passed read_1 (g.met.S.Store.shut_if_dirty c.meter_numbered.new.conn.store) in
    let read_2 = read_in_office month_tenths_in c.in_ok-tenths.ensures.reads in
    let second = passed_after first read_2 (g.met.S.Store.shut_if_dirty c.tenths_in_month.new.conn.store) in
    let read_3 = c.in_ok-last.ensures.reads in
    let month_is : c.unwrap-month.result ≡ month_at c.args.moment = search rules in
    record {
      looks = record {
        facts = λ clean o office members.
            let was_2 = was_clean office members second read_3 clean in
            let was_1 = was_clean office members first read_2 was_2 in
            let meter_is = meter_told office members none read_1 was_1 c.members_law.ensures.meter number c.in_ok-there.there
            (c.in_ok-there.ensures.given was_1) in
            let tenths_are = sales_told office members first read_2 was_2 month_tenths_in
            (λ (sales : List Sale). sum_by (λ s. s.tenths) (filter
            (λ s. bytes_eq s.meter number && (month_at s.moment == c.unwrap-month.result)) sales)) c.in_ok-tenths.tenths
            (c.in_ok-tenths.ensures.given was_2) in
            let last_is = c.in_ok-last.ensures.facts clean o office (members_after o members second read_3.survives clean) in
            let tenths_is : c.in_ok-tenths.tenths ≡ prior o number (month_at c.args.moment) = tenths_are ∙ ap (λ (month : ℕ). prior o number month) month_is in
            meter_is_told number c.in-Some.meter (o.meters number) c.in_ok-tenths.tenths (prior o number (month_at c.args.moment))
            c.in_ok-last.last (last_sale o number) c.number_of.result c.number_of.ensures tenths_is last_is (sym c.in-Some.is ∙ meter_is);
        shown = λ clean has.
            let was_2 = clean_before second read_3.survives has clean in
            let was_1 = clean_before first read_2.survives has was_2 in
            let month_is : c.unwrap-month.result ≡ month_at c.args.moment = search rules in
            let tenths = table_shown first month_tenths_in c.in_ok-tenths.ensures.reads c.in_ok-tenths.ensures.sees was_2 has in
            record {
              there = Some c.in-Some.meter;
              meter = subst (ShowsFirst (the_meter number) old.now) c.in-Some.is (first_shown meters_in c.in_ok-there.ensures.sees was_1 has);
              tenths = c.in_ok-tenths.tenths;
              sold = λ _. rw month_is at tenths;
              sale = c.in_ok-last.last;
              last = λ _. looks_shown second c.in_ok-last.ensures clean has;
              told = meter_is_told number c.in-Some.meter (Some c.in-Some.meter) c.in_ok-tenths.tenths c.in_ok-tenths.tenths
                  c.in_ok-last.last c.in_ok-last.last c.number_of.result c.number_of.ensures refl refl refl;
            };
        spoilt = λ clean has. tt;
        reads = read_on (read_after second c.in_ok-last.ensures.reads);
      };
      rules = tt;
    }
