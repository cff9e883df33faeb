use Rattle.std.proofs.Common.{◌≡◌, ◌∙◌, ap, map, option_map, refl, subst, sym, Err, IfOk, Ok}
use Rattle.sqlite.specs.Held.{state}
use Rattle.sqlite.specs.Values.{bound}
use Rattle.office_rules.specs.Office.Lookup.{greatest_of}
use Rattle.office_rules.specs.declared.office.sale.Sale.{Sale}
use Rattle.one_table.proofs.ReadsOnlyLemmas.{fail_on, read_on}
use Rattle.book_tables.specs.Stands.{sales_under}
use Rattle.book_tables.specs.declared.row.total_records.Tid.{Tid}
use Rattle.book_tables.proofs.ReadingLemmas.FindLemmas.{asked, gives, only_asks, reads, sees}
use Rattle.book_tables.proofs.ReadingLemmas.TotalsReadLemmas.{found_tid, last_id_found, tid_back}
use Rattle.book_tables.specs.row.Values.{IsTid}
use Rattle.book_tables.specs.row.Rows.{shown_number}
use Rattle.book_tables.specs.Kept.{last_ids_kept}
use Rattle.book_tables.specs.reading.Questions.{the_last_id}
use Rattle.book_tables.specs.reading.Seen.{HasSpoilt, ShowsFirst}
use Rattle.book_tables.proofs.ReadingLemmas.SeenLemmas.{part_first, part_spoilt, sees_fault, sees_made}
use Rattle.book_tables.proofs.reading.totals.greatest_tid.Goals as goal

pub returns-in_err-found-clause-reads : goal.returns-in_err-found-clause-reads
returns-in_err-found-clause-reads g c =
    fail_on c.from_residual.result c.from_residual.ensures.1
    (reads (last_id_found c.args.meter.now c.args.base) (state g.S.Store c.args.conn.now) (state g.S.Store c.first_record.new.conn)
    (Err c.in_err-found.field-0.0) (bound c.base_values.result) c.base_values.ensures c.in_err-found.ensures.reads)

pub returns-clause-given : goal.returns-clause-given
returns-clause-given g c clean rows has of_office =
    let old = state g.S.Store c.args.conn.now in
    let meter = c.args.meter.now in
    let base = c.args.base in
    let only = only_asks (last_id_found meter base) old (λ runs. (has runs).0) in
    let found = gives (last_id_found meter base) old (state g.S.Store c.first_record.new.conn) rows has of_office c.first_record.result
    (bound c.base_values.result) c.base_values.ensures (c.first_record.ensures.reads.same clean only) (c.first_record.ensures.given clean only) in
    let is : c.in_ok-found.found ≡ found_tid meter base rows = subst (λ r. IfOk r (λ x. x ≡ found_tid meter base rows)) c.in_ok-found.was found in
    c.number_of.ensures ∙ ap (option_map (λ (t : Tid). t.number)) is
    ∙ tid_back meter base (greatest_of (map (λ (s : Sale). s.tid) (sales_under rows.sales (meter, base))))

pub returns-clause-reads : goal.returns-clause-reads
returns-clause-reads g c =
    read_on (reads (last_id_found c.args.meter.now c.args.base) (state g.S.Store c.args.conn.now) (state g.S.Store c.first_record.new.conn)
    (Ok c.in_ok-found.found) (bound c.base_values.result) c.base_values.ensures c.in_ok-found.ensures.reads)

pub returns-in_err-found-clause-sees : goal.returns-in_err-found-clause-sees
returns-in_err-found-clause-sees g c =
    let q = the_last_id c.args.meter.now c.args.base in
    let finds = last_id_found c.args.meter.now c.args.base in
    let old = state g.S.Store c.args.conn.now in
    let new = state g.S.Store c.first_record.new.conn in
    sees_fault last_ids_kept (ShowsFirst (asked finds)) (ShowsFirst q) (HasSpoilt (asked finds)) (HasSpoilt q)
    (λ db. part_spoilt last_ids_kept shown_number IsTid q.text q.params (λ (t : Tid). t.number) db (λ n. record { number = n })
    (λ n. refl)) old new c.in_err-found.field-0.0 c.from_residual.result c.from_residual.ensures.1
    (sees finds old new (Err c.in_err-found.field-0.0) (bound c.base_values.result) c.base_values.ensures c.in_err-found.ensures.reads (λ _ _. tt))

pub returns-clause-sees : goal.returns-clause-sees
returns-clause-sees g c =
    let q = the_last_id c.args.meter.now c.args.base in
    let finds = last_id_found c.args.meter.now c.args.base in
    let old = state g.S.Store c.args.conn.now in
    let new = state g.S.Store c.first_record.new.conn in
    sees_made last_ids_kept (ShowsFirst (asked finds)) (ShowsFirst q) (HasSpoilt (asked finds)) (HasSpoilt q) old new c.in_ok-found.found
    c.number_of.result (λ db shown. subst (ShowsFirst q db) (sym c.number_of.ensures)
    (part_first last_ids_kept shown_number IsTid q.text q.params (λ (t : Tid). t.number) db c.in_ok-found.found shown))
    (sees finds old new (Ok c.in_ok-found.found) (bound c.base_values.result) c.base_values.ensures c.in_ok-found.ensures.reads c.in_ok-found.ensures.given)
