use Rattle.std.proofs.Common.{◌≡◌, ◌∙◌, ap, option_map, refl, subst, unwrap_or, Err, IfOk, Ok, Option}
use Rattle.sqlite.specs.Held.{state}
use Rattle.sqlite.specs.Values.{bound}
use Rattle.one_table.proofs.ReadsOnlyLemmas.{fail_on, read_on}
use Rattle.book_tables.specs.Stands.{sales_in_month}
use Rattle.book_tables.specs.declared.row.total_records.Tenths.{Tenths}
use Rattle.book_tables.proofs.ReadingLemmas.FindLemmas.{asked, gives, only_asks, reads, sees}
use Rattle.book_tables.proofs.ReadingLemmas.TotalsReadLemmas.{found_tenths, month_found, tenths_back}
use Rattle.book_tables.specs.row.Values.{IsTotal}
use Rattle.book_tables.specs.row.Rows.{shown_number}
use Rattle.book_tables.specs.Kept.{month_tenths_kept}
use Rattle.book_tables.specs.reading.Questions.{the_month_tenths}
use Rattle.book_tables.specs.reading.Seen.{HasSpoilt, ShowsFirst, ShowsMade}
use Rattle.book_tables.proofs.ReadingLemmas.SeenLemmas.{part_first, part_spoilt, sees_fault, sees_made}
use Rattle.book_tables.proofs.reading.totals.tenths_in_month.Goals as goal

pub returns-in_err-found-clause-reads : goal.returns-in_err-found-clause-reads
returns-in_err-found-clause-reads g c =
    fail_on c.from_residual.result c.from_residual.ensures.1
    (reads (month_found c.amount_law.ensures.greatest c.args.meter.now c.args.month) (state g.S.Store c.args.conn.now)
    (state g.S.Store c.first_record.new.conn) (Err c.in_err-found.field-0.0) (bound c.month_values.result) c.month_values.ensures
    c.in_err-found.ensures.reads)

pub returns-clause-given : goal.returns-clause-given
returns-clause-given g c clean rows has of_office =
    let old = state g.S.Store c.args.conn.now in
    let meter = c.args.meter.now in
    let month = c.args.month in
    let greatest = c.amount_law.ensures.greatest in
    let only = only_asks (month_found greatest meter month) old (λ runs. (has runs).0) in
    let found = gives (month_found greatest meter month) old (state g.S.Store c.first_record.new.conn) rows has of_office c.first_record.result
    (bound c.month_values.result) c.month_values.ensures (c.first_record.ensures.reads.same clean only) (c.first_record.ensures.given clean only) in
    let is : c.in_ok-found.found ≡ found_tenths greatest meter month rows =
    subst (λ r. IfOk r (λ x. x ≡ found_tenths greatest meter month rows)) c.in_ok-found.was found in
    c.sum_of.ensures ∙ ap (λ (o : Option Tenths). unwrap_or (option_map (λ (t : Tenths). t.sum) o) 0) is
    ∙ tenths_back greatest meter month (sales_in_month rows.sales (meter, month))

pub returns-clause-reads : goal.returns-clause-reads
returns-clause-reads g c =
    read_on (reads (month_found c.amount_law.ensures.greatest c.args.meter.now c.args.month) (state g.S.Store c.args.conn.now)
    (state g.S.Store c.first_record.new.conn) (Ok c.in_ok-found.found) (bound c.month_values.result) c.month_values.ensures c.in_ok-found.ensures.reads)

pub returns-in_err-found-clause-sees : goal.returns-in_err-found-clause-sees
returns-in_err-found-clause-sees g c =
    let q = the_month_tenths c.args.meter.now c.args.month in
    let finds = month_found c.amount_law.ensures.greatest c.args.meter.now c.args.month in
    let old = state g.S.Store c.args.conn.now in
    let new = state g.S.Store c.first_record.new.conn in
    sees_fault month_tenths_kept (ShowsFirst (asked finds)) (ShowsMade q (λ o. unwrap_or o 0)) (HasSpoilt (asked finds)) (HasSpoilt q)
    (λ db. part_spoilt month_tenths_kept shown_number IsTotal q.text q.params (λ (t : Tenths). t.sum) db (λ n. record { sum = n })
    (λ n. refl)) old new c.in_err-found.field-0.0 c.from_residual.result c.from_residual.ensures.1
    (sees finds old new (Err c.in_err-found.field-0.0) (bound c.month_values.result) c.month_values.ensures c.in_err-found.ensures.reads (λ _ _. tt))

pub returns-clause-sees : goal.returns-clause-sees
returns-clause-sees g c =
    let q = the_month_tenths c.args.meter.now c.args.month in
    let finds = month_found c.amount_law.ensures.greatest c.args.meter.now c.args.month in
    let old = state g.S.Store c.args.conn.now in
    let new = state g.S.Store c.first_record.new.conn in
    sees_made month_tenths_kept (ShowsFirst (asked finds)) (ShowsMade q (λ o. unwrap_or o 0)) (HasSpoilt (asked finds)) (HasSpoilt q) old
    new c.in_ok-found.found c.sum_of.result (λ db shown. (
      option_map (λ (t : Tenths). t.sum) c.in_ok-found.found,
      part_first month_tenths_kept shown_number IsTotal q.text q.params (λ (t : Tenths). t.sum) db c.in_ok-found.found shown,
      c.sum_of.ensures,
    ))
    (sees finds old new (Ok c.in_ok-found.found) (bound c.month_values.result) c.month_values.ensures c.in_ok-found.ensures.reads c.in_ok-found.ensures.given)
