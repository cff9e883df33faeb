use Rattle.std.proofs.Common.{◌≡◌, ◌∙◌, ap, option_map, refl, subst, sym, is_some, Err, IfOk, Ok}
use Rattle.sqlite.specs.Held.{state}
use Rattle.sqlite.specs.Values.{bound}
use Rattle.one_table.proofs.ReadsOnlyLemmas.{fail_on, read_on}
use Rattle.book_tables.specs.Kept.{last_ids_kept}
use Rattle.book_tables.specs.declared.row.total_records.Tid.{Tid}
use Rattle.book_tables.specs.reading.Questions.{the_last_id_of}
use Rattle.book_tables.specs.reading.Seen.{HasSpoilt, ShowsFirst, ShowsMade}
use Rattle.book_tables.specs.row.Rows.{shown_number}
use Rattle.book_tables.specs.row.Values.{IsTid}
use Rattle.book_tables.proofs.ReadingLemmas.FindLemmas.{asked, gives, only_asks, reads, sees}
use Rattle.book_tables.proofs.ReadingLemmas.SeenLemmas.{part_first, part_spoilt, sees_fault, sees_made}
use Rattle.book_tables.proofs.ReadingLemmas.SoldLemmas.{found_id, last_id_of, sold_is, some_mapped}
use Rattle.book_tables.proofs.reading.totals.has_sales.Goals as goal

pub returns-in_err-found-clause-reads : goal.returns-in_err-found-clause-reads
returns-in_err-found-clause-reads g c =
    fail_on c.from_residual.result c.from_residual.ensures.1
    (reads (last_id_of c.args.meter.now c.store_law.ensures.greatest) (state g.S.Store c.args.conn.now) (state g.S.Store c.first_record.new.conn)
    (Err c.in_err-found.field-0.0) (bound c.meter_no_values.result) c.meter_no_values.ensures c.in_err-found.ensures.reads)

pub returns-clause-given : goal.returns-clause-given
returns-clause-given g c clean rows has of_office =
    let old = state g.S.Store c.args.conn.now in
    let meter = c.args.meter.now in
    let finds = last_id_of meter c.store_law.ensures.greatest in
    let only = only_asks finds old (λ runs. (has runs).0) in
    let found = gives finds old (state g.S.Store c.first_record.new.conn) rows has of_office c.first_record.result
    (bound c.meter_no_values.result) c.meter_no_values.ensures (c.first_record.ensures.reads.same clean only) (c.first_record.ensures.given clean only) in
    let is : c.in_ok-found.found ≡ found_id meter rows = subst (λ r. IfOk r (λ x. x ≡ found_id meter rows)) c.in_ok-found.was found in
    c.is_some.ensures ∙ ap is_some is ∙ sold_is meter rows of_office

pub returns-clause-reads : goal.returns-clause-reads
returns-clause-reads g c =
    read_on (reads (last_id_of c.args.meter.now c.store_law.ensures.greatest) (state g.S.Store c.args.conn.now) (state g.S.Store c.first_record.new.conn)
    (Ok c.in_ok-found.found) (bound c.meter_no_values.result) c.meter_no_values.ensures c.in_ok-found.ensures.reads)

pub returns-in_err-found-clause-sees : goal.returns-in_err-found-clause-sees
returns-in_err-found-clause-sees g c =
    let q = the_last_id_of c.args.meter.now in
    let finds = last_id_of c.args.meter.now c.store_law.ensures.greatest in
    let old = state g.S.Store c.args.conn.now in
    let new = state g.S.Store c.first_record.new.conn in
    sees_fault last_ids_kept (ShowsFirst (asked finds)) (ShowsMade q is_some) (HasSpoilt (asked finds)) (HasSpoilt q)
    (λ db. part_spoilt last_ids_kept shown_number IsTid q.text q.params (λ (t : Tid). t.number) db (λ n. record { number = n })
    (λ n. refl)) old new c.in_err-found.field-0.0 c.from_residual.result c.from_residual.ensures.1
    (sees finds old new (Err c.in_err-found.field-0.0) (bound c.meter_no_values.result) c.meter_no_values.ensures c.in_err-found.ensures.reads (λ _ _. tt))

pub returns-clause-sees : goal.returns-clause-sees
returns-clause-sees g c =
    let q = the_last_id_of c.args.meter.now in
    let finds = last_id_of c.args.meter.now c.store_law.ensures.greatest in
    let old = state g.S.Store c.args.conn.now in
    let new = state g.S.Store c.first_record.new.conn in
    sees_made last_ids_kept (ShowsFirst (asked finds)) (ShowsMade q is_some) (HasSpoilt (asked finds)) (HasSpoilt q) old new c.in_ok-found.found
    c.is_some.result
    (λ db shown. (
      option_map (λ (t : Tid). t.number) c.in_ok-found.found,
      part_first last_ids_kept shown_number IsTid q.text q.params (λ (t : Tid). t.number) db c.in_ok-found.found shown,
      c.is_some.ensures ∙ sym (some_mapped (λ (t : Tid). t.number) c.in_ok-found.found),
    ))
    (sees finds old new (Ok c.in_ok-found.found) (bound c.meter_no_values.result) c.meter_no_values.ensures c.in_ok-found.ensures.reads c.in_ok-found.ensures.given)
