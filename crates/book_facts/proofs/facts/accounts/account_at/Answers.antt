use Rattle.std.proofs.Common.{List, Option, ap, arith, filter, inl, inr, map, rules, unwrap_or, ℕ, ◌&&◌, ◌==◌, ◌^◌, ◌∙◌, ◌≡◌, ◌≤◌, refl}
use Rattle.std.specs.Prelude.{bytes_eq, sum_by}
use Rattle.sqlite.specs.Held.{state}
use Rattle.one_table.proofs.ReadsOnlyLemmas.{read_on}
use Rattle.sts_fields.specs.Base.{base_eq}
use Rattle.sts_fields.specs.Calendar.{month_at}
use Rattle.sts_fields.specs.Tid.{last_tid}
use Rattle.office_rules.specs.Decision.{MeterAccount}
use Rattle.office_rules.specs.Office.Lookup.{greatest_of, prior, used}
use Rattle.office_rules.specs.declared.office.sale.Sale.{Sale}
use Rattle.book_tables.specs.declared.error.TableError.TheVariants.{RowOfNoOffice}
use Rattle.book_tables.proofs.OfficeTableLemmas.{last_ids_in, month_tenths_in, read_in_office}
use Rattle.book_facts.proofs.facts.accounts.account_at.Goals.{then-unwrap_or-gt-LAST_TID-via-then-unwrap_or-gt-LAST_TID, then-unwrap_or-gt-LAST_TID-via-else-unwrap_or-gt-LAST_TID+then-prior-gt-MAX_PRIOR}
use Rattle.book_facts.proofs.FactsLemmas.{last_within, of_no_office, sales_told, was_clean}
use Rattle.book_facts.proofs.PassedLemmas.{passed, passed_none, read_after, stops_on, clean_before}
use Rattle.book_facts.proofs.LooksLemmas.{looks_none, looks_on, table_shown, table_spoilt, first_shown, first_spoilt}
use Rattle.book_facts.proofs.facts.accounts.account_at.Goals as goal

pub returns-in_err-last : goal.returns-in_err-last
returns-in_err-last g c = looks_on c.from_residual.result c.from_residual.ensures.1 (read_in_office last_ids_in c.in_err-last.ensures.reads)
    (λ clean has row. inl (first_spoilt last_ids_in c.in_err-last.ensures.sees clean has row))

pub returns-in_err-prior : goal.returns-in_err-prior
returns-in_err-prior g c =
    let first = passed (read_in_office last_ids_in c.in_ok-last.ensures.reads) (g.met.S.Store.shut_if_dirty c.greatest_tid.new.conn.store) in
    let month_is : c.unwrap-month.result ≡ month_at c.args.moment = search rules in
    looks_on c.from_residual-in_err-prior.result c.from_residual-in_err-prior.ensures.1
    (read_after first (read_in_office month_tenths_in c.in_err-prior.ensures.reads))
    (λ clean has row.
    let spoilt = table_spoilt first month_tenths_in c.in_err-prior.ensures.reads c.in_err-prior.ensures.sees clean has row in
    inr (inl (rw month_is at spoilt)))

pub returns-then-unwrap_or-gt-LAST_TID : goal.returns-then-unwrap_or-gt-LAST_TID
returns-then-unwrap_or-gt-LAST_TID g c =
    let none = passed_none (state g.S.Store c.args.conn.now) (g.met.S.Store.shut_if_dirty c.args.conn.now.store) in
    let read_1 = (read_in_office last_ids_in c.in_ok-last.ensures.reads) in
    let first = passed read_1 (g.met.S.Store.shut_if_dirty c.greatest_tid.new.conn.store) in
    let read_2 = (read_in_office month_tenths_in c.in_ok-prior.ensures.reads) in
    let both = read_after first read_2 in
    looks_none (stops_on RowOfNoOffice both (λ clean has. of_no_office both clean has (λ o office members.
    let was = was_clean office members first read_2 clean in
    let last_is = sales_told office members none read_1 was last_ids_in
    (λ (sales : List Sale). greatest_of (map (λ s. s.tid)
    (filter (λ s. bytes_eq s.meter c.args.number.now && base_eq s.base c.args.meter.base) sales))) c.in_ok-last.last (c.in_ok-last.ensures.given was) in
    let prior_is = sales_told office members first read_2 clean month_tenths_in
    (λ (sales : List Sale). sum_by (λ s. s.tenths) (filter
    (λ s. bytes_eq s.meter c.args.number.now && (month_at s.moment == c.unwrap-month.result)) sales)) c.in_ok-prior.prior
    (c.in_ok-prior.ensures.given clean) in
    let low : unwrap_or c.in_ok-last.last 0 ≤ last_tid =
    last_within last_tid c.in_ok-last.last (used o c.args.number.now c.args.meter.base) last_is
    (c.store_law.ensures.used_range o c.args.number.now c.args.meter.base office) in
    let few : c.in_ok-prior.prior ≤ 10 ^ 17 = rw prior_is (c.store_law.ensures.prior_range o c.args.number.now c.unwrap-month.result office) in
    elim c.then-unwrap_or-gt-LAST_TID.branch [
      | then-unwrap_or-gt-LAST_TID-via-then-unwrap_or-gt-LAST_TID w ↦ omega (arith, w.if-unwrap_or-gt-LAST_TID.true)
      | then-unwrap_or-gt-LAST_TID-via-else-unwrap_or-gt-LAST_TID+then-prior-gt-MAX_PRIOR w ↦ omega (arith, w.if-prior-gt-MAX_PRIOR.true)
    ]))) (λ clean has row.
    let was = clean_before first read_2.survives has clean in
    let month_is : c.unwrap-month.result ≡ month_at c.args.moment = search rules in
    let tenths = table_shown first month_tenths_in c.in_ok-prior.ensures.reads c.in_ok-prior.ensures.sees clean has in
    inr (inr (record {
      last = c.in_ok-last.last;
      prior = c.in_ok-prior.prior;
      last_shown = first_shown last_ids_in c.in_ok-last.ensures.sees was has;
      prior_shown = rw month_is at tenths;
      beyond = elim c.then-unwrap_or-gt-LAST_TID.branch [
        | then-unwrap_or-gt-LAST_TID-via-then-unwrap_or-gt-LAST_TID w ↦ inl (omega (arith, w.if-unwrap_or-gt-LAST_TID.true))
        | then-unwrap_or-gt-LAST_TID-via-else-unwrap_or-gt-LAST_TID+then-prior-gt-MAX_PRIOR w ↦ inr (omega (arith, w.if-prior-gt-MAX_PRIOR.true))
      ];
    })))

pub returns : goal.returns
returns g c =
    let old = state g.S.Store c.args.conn.now in
    let none = passed_none old (g.met.S.Store.shut_if_dirty c.args.conn.now.store) in
    let read_1 = (read_in_office last_ids_in c.in_ok-last.ensures.reads) in
    let first = passed read_1 (g.met.S.Store.shut_if_dirty c.greatest_tid.new.conn.store) in
    let read_2 = (read_in_office month_tenths_in c.in_ok-prior.ensures.reads) in
    let month_is : c.unwrap-month.result ≡ month_at c.args.moment = search rules in
    record {
      facts = λ clean o office members.
          let was = was_clean office members first read_2 clean in
          let last_is = sales_told office members none read_1 was last_ids_in
          (λ (sales : List Sale). greatest_of (map (λ s. s.tid)
          (filter (λ s. bytes_eq s.meter c.args.number.now && base_eq s.base c.args.meter.base) sales))) c.in_ok-last.last
          (c.in_ok-last.ensures.given was) in
          let prior_is = sales_told office members first read_2 clean month_tenths_in
          (λ (sales : List Sale). sum_by (λ s. s.tenths) (filter
          (λ s. bytes_eq s.meter c.args.number.now && (month_at s.moment == c.unwrap-month.result)) sales)) c.in_ok-prior.prior
          (c.in_ok-prior.ensures.given clean) in
          ap (λ (last : Option ℕ). let b : MeterAccount = record
          { meter = c.args.meter; steps = c.args.steps; last = last; prior = c.in_ok-prior.prior } in b) last_is
          ∙ ap (λ (tenths : ℕ). let b : MeterAccount = record {
            meter = c.args.meter;
            steps = c.args.steps;
            last = greatest_of (used o c.args.number.now c.args.meter.base);
            prior = tenths;
          } in b) (prior_is ∙ ap (λ (month : ℕ). prior o c.args.number.now month) month_is);
      shown = λ clean has.
          let was = clean_before first read_2.survives has clean in
          let month_is : c.unwrap-month.result ≡ month_at c.args.moment = search rules in
          let tenths = table_shown first month_tenths_in c.in_ok-prior.ensures.reads c.in_ok-prior.ensures.sees clean has in
          (refl, refl, record { last = first_shown last_ids_in c.in_ok-last.ensures.sees was has; prior = rw month_is at tenths });
      spoilt = λ _ _. tt;
      reads = read_on (read_after first (read_in_office month_tenths_in c.in_ok-prior.ensures.reads));
    }
