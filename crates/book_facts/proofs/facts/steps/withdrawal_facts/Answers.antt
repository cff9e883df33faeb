use Rattle.std.specs.Prelude.{nat_le}
use Rattle.std.specs.List.{list_any}
use Rattle.std.proofs.Common.{rules, subst, true, false, ◌≡◌, inl, inr, is_none}
use Rattle.sqlite.specs.Held.{state}
use Rattle.one_table.proofs.ReadsOnlyLemmas.{read_on}
use Rattle.sts_fields.specs.Day.{day_at}
use Rattle.office_rules.specs.declared.office.sale.Sale.{Sale}
use Rattle.book_tables.proofs.OfficeTableLemmas.{read_in_office, sales_in}
use Rattle.book_tables.specs.reading.Questions.{the_steps_from}
use Rattle.book_tables.specs.reading.Seen.{AreStepsSeen}
use Rattle.book_states.specs.FactsSeen.{IsTariffSeen}
use Rattle.book_facts.proofs.FactsLemmas.{sales_told, was_clean}
use Rattle.book_facts.proofs.PassedLemmas.{passed, read_after, clean_before}
use Rattle.book_facts.proofs.LooksLemmas.{looks_on, table_shown, table_spoilt, there_is_one}
use Rattle.book_facts.proofs.facts.steps.withdrawal_facts.Goals as goal

pub returns-in_err-dated : goal.returns-in_err-dated
returns-in_err-dated g c = looks_on c.from_residual.result c.from_residual.ensures.1 c.in_err-dated.ensures.reads
    (λ clean has row. inl (c.in_err-dated.ensures.spoilt clean has row))

pub returns-then-not-dated : goal.returns-then-not-dated
returns-then-not-dated g c =
    let dated = c.in_ok-dated.ensures in
    record {
      facts = λ clean o office members.
          let f = dated.facts clean o office members in
          record {
            has_tariff = f.has_tariff;
            dated_steps = f.dated_steps;
            sold_since = search rules;
          };
      shown = λ clean has.
          let f = dated.shown clean has in
          record {
            has_tariff = f.has_tariff;
            dated_steps = f.dated_steps;
            sold_since = search rules;
          };
      spoilt = λ _ _. tt;
      reads = dated.reads;
    }

pub returns-then-is_none : goal.returns-then-is_none
returns-then-is_none g c =
    let dated = c.in_ok-dated.ensures in
    record {
      facts = λ clean o office members.
          let f = dated.facts clean o office members in
          record {
            has_tariff = f.has_tariff;
            dated_steps = f.dated_steps;
            sold_since = search rules;
          };
      shown = λ clean has.
          let f = dated.shown clean has in
          record {
            has_tariff = f.has_tariff;
            dated_steps = f.dated_steps;
            sold_since = search rules;
          };
      spoilt = λ _ _. tt;
      reads = dated.reads;
    }

pub returns-in_err-sold_since : goal.returns-in_err-sold_since
returns-in_err-sold_since g c =
    let old = state g.S.Store c.args.conn.now in
    let name = c.args.name.now in
    let dated = c.in_ok-dated.ensures in
    let first = passed dated.reads (g.met.S.Store.shut_if_dirty c.dated_facts.new.conn.store) in
    let read_2 = read_in_office sales_in c.in_err-sold_since.ensures.reads in
    let stands : c.in_ok-dated.dated.has_tariff ≡ true = search rules in
    let some : is_none c.in_ok-dated.dated.dated_steps ≡ false = search rules in
    looks_on c.from_residual-in_err-sold_since.result c.from_residual-in_err-sold_since.ensures.1 (read_after first read_2)
    (λ clean has row.
    let f = dated.shown (clean_before first read_2.survives has clean) has in
    inr (
      subst (IsTariffSeen name old.now) stands f.has_tariff,
      there_is_one c.in_ok-dated.dated.dated_steps some (AreStepsSeen (the_steps_from name c.args.day) old.now) (f.dated_steps stands),
      table_spoilt first sales_in c.in_err-sold_since.ensures.reads c.in_err-sold_since.ensures.sees clean has row,
    ))

pub returns : goal.returns
returns g c =
    let day = c.args.day in
    let dated = c.in_ok-dated.ensures in
    let first = passed dated.reads (g.met.S.Store.shut_if_dirty c.dated_facts.new.conn.store) in
    let read_2 = read_in_office sales_in c.in_ok-sold_since.ensures.reads in
    record {
      facts = λ clean o office members.
          let f = dated.facts (was_clean office members first read_2 clean) o office members in
          record {
            has_tariff = f.has_tariff;
            dated_steps = f.dated_steps;
            sold_since = λ _ _. sales_told office members first read_2 clean sales_in (list_any (λ (s : Sale). nat_le day (day_at s.moment)))
                c.in_ok-sold_since.sold_since (c.in_ok-sold_since.ensures.given clean);
          };
      shown = λ clean has.
          let f = dated.shown (clean_before first read_2.survives has clean) has in
          record {
            has_tariff = f.has_tariff;
            dated_steps = f.dated_steps;
            sold_since = λ _ _. table_shown first sales_in c.in_ok-sold_since.ensures.reads c.in_ok-sold_since.ensures.sees clean has;
          };
      spoilt = λ _ _. tt;
      reads = read_on (read_after first (read_in_office sales_in c.in_ok-sold_since.ensures.reads));
    }
