use Rattle.std.proofs.Common.{◌+◌, ◌∙◌, ap, ℕ, Ok, Err, Option, None, Some, unwrap_or, refl, subst, sym, inl, inr}
use Rattle.sqlite.specs.Effect.{Database}
use Rattle.sqlite.specs.Held.{state}
use Rattle.office_rules.specs.Office.{empty_office}
use Rattle.book_tables.specs.Kept.{sales_kept}
use Rattle.book_tables.specs.reading.Questions.{the_last_sale, the_sale}
use Rattle.book_tables.specs.reading.Reading.{TableHolds}
use Rattle.book_tables.specs.reading.Seen.{HasSpoilt, ShowsFirst}
use Rattle.book_tables.proofs.OfficeTableLemmas.{has_table, read_in_office, sales_in}
use Rattle.book_tables.proofs.ReadingLemmas.AfterLemmas.{has_after, read_after, rows_after, was_clean}
use Rattle.book_opening.proofs.CauseLemmas.{fails_table}
use Rattle.book_opening.proofs.LookingLemmas.{last_there, look_denies, look_fails, looks_on, nothing_sold, sold_up_to, tables}
use Rattle.book_opening.specs.NoOffice.IsNoOffice.{by_last_sale}
use Rattle.book_opening.specs.declared.sold_so_far.SoldSoFar.{SoldSoFar}
use Rattle.book_opening.proofs.opening.next_by_sales.Goals as goal

-- ---- the last number

pub returns-in-Err-clause-looks : goal.returns-in-Err-clause-looks
returns-in-Err-clause-looks g c =
    let old = state g.S.Store c.args.conn.now in
    look_fails c.in-Err.error c.fault_of_table.result c.fault_of_table.ensures.kind c.fault_of_table.ensures.value
    (λ clean has is. inl (c.in-Err.ensures.sees.spoilt clean (has_table sales_in old (tables old has)) is))
    (read_in_office sales_in c.in-Err.ensures.reads)

pub returns-in-Err-clause-fails : goal.returns-in-Err-clause-fails
returns-in-Err-clause-fails g c clean runs has =
    let old = state g.S.Store c.args.conn.now in
    fails_table g.S.Store old (state g.S.Store c.last_sale_number.new.conn) (TableHolds sales_kept) c.in-Err.error c.fault_of_table.result
    c.fault_of_table.ensures.value runs
    (c.in-Err.ensures.reads.faults clean (has_table sales_in old (tables old has)))

pub returns-in-Ok-None-clause-given : goal.returns-in-Ok-None-clause-given
returns-in-Ok-None-clause-given g c clean has o at =
    let old = state g.S.Store c.args.conn.now in
    let it = c.in-Ok-None in
    let runs = (it.ensures.reads.same clean (has_table sales_in old (tables old has))).0.was_open in
    nothing_sold old has runs o at c.of_sales.result c.of_sales.ensures
    (λ rows hold office. sym (ap (λ (x : Option ℕ). unwrap_or x 0) it.field-0-is) ∙ it.ensures.counted clean rows hold office)

pub returns-in-Ok-None-clause-follows : goal.returns-in-Ok-None-clause-follows
returns-in-Ok-None-clause-follows g c clean has =
    let old = state g.S.Store c.args.conn.now in
    let it = c.in-Ok-None in
    let is = c.of_sales.ensures empty_office refl in (
      None,
      subst (ShowsFirst the_last_sale old.now) it.field-0-is (it.ensures.sees.seen clean (has_table sales_in old (tables old has))),
      (ap (λ (s : SoldSoFar). s.next_number) is, ap (λ (s : SoldSoFar). s.last_moment) is),
    )

-- ---- its row

pub returns-in-Ok-Some-sale_numbered-clause-given : goal.returns-in-Ok-Some-sale_numbered-clause-given
returns-in-Ok-Some-sale_numbered-clause-given g c clean has o at =
    let old = state g.S.Store c.args.conn.now in
    let it = c.in-Ok-Some in
    let row = c.in-Ok-Some-sale_numbered in
    let there = has_table sales_in old (tables old has) in
    let shut = g.met.S.Store.shut_if_dirty c.last_sale_number.new.conn.store in
    let before = was_clean sales_kept it.ensures.reads shut c.sale_numbered.result c.sale_numbered.ensures.reads there clean in
    let runs = (it.ensures.reads.same before there).0.was_open in
    ap (λ n. record { next_number = n + 1; last_moment = Some row.sale.moment }) c.from.ensures
    ∙ sold_up_to old has runs o at it.last row.sale (λ number some. c.store_law.ensures.sale_at o number at.office some)
    (λ rows hold office. sym (ap (λ (x : Option ℕ). unwrap_or x 0) it.field-0-is) ∙ it.ensures.counted before rows hold office)
    (λ rows hold office. sym row.field-0-is ∙ row.ensures.given clean rows (rows_after sales_kept it.ensures.reads shut rows hold) office)

pub returns-in-Ok-Some-sale_numbered-clause-follows : goal.returns-in-Ok-Some-sale_numbered-clause-follows
returns-in-Ok-Some-sale_numbered-clause-follows g c clean has =
    let old = state g.S.Store c.args.conn.now in
    let mid = state g.S.Store c.last_sale_number.new.conn in
    let it = c.in-Ok-Some in
    let row = c.in-Ok-Some-sale_numbered in
    let there = has_table sales_in old (tables old has) in
    let shut = g.met.S.Store.shut_if_dirty c.last_sale_number.new.conn.store in
    let before = was_clean sales_kept it.ensures.reads shut c.sale_numbered.result c.sale_numbered.ensures.reads there clean in
    let same = it.ensures.reads.same before there in
    let seen = row.ensures.sees.seen clean (has_after sales_kept it.ensures.reads shut there) in
    let shown = subst (ShowsFirst (the_sale it.last) mid.now) row.field-0-is seen in (
      Some it.last,
      subst (ShowsFirst the_last_sale old.now) it.field-0-is (it.ensures.sees.seen before there),
      (
        row.sale,
        subst (λ (db : Database). ShowsFirst (the_sale it.last) db (Some row.sale)) same.0.now_is shown,
        ap (λ n. n + 1) c.from.ensures,
        refl,
      ),
    )

pub returns-in-Ok-Some-sale_numbered-clause-looks : goal.returns-in-Ok-Some-sale_numbered-clause-looks
returns-in-Ok-Some-sale_numbered-clause-looks g c =
    let row = c.in-Ok-Some-sale_numbered in
    let shut = g.met.S.Store.shut_if_dirty c.last_sale_number.new.conn.store in
    looks_on (read_in_office sales_in (read_after sales_kept c.in-Ok-Some.ensures.reads shut (Ok row.field-0) row.ensures.reads))

pub returns-in-Ok-None-sale_numbered-clause-looks : goal.returns-in-Ok-None-sale_numbered-clause-looks
returns-in-Ok-None-sale_numbered-clause-looks g c =
    let old = state g.S.Store c.args.conn.now in
    let it = c.in-Ok-Some in
    let row = c.in-Ok-None-sale_numbered in
    let shut = g.met.S.Store.shut_if_dirty c.last_sale_number.new.conn.store in
    look_denies (read_in_office sales_in (read_after sales_kept it.ensures.reads shut (Ok row.field-0) row.ensures.reads))
    (λ clean has.
    let there = has_table sales_in old (tables old has) in
    let before = was_clean sales_kept it.ensures.reads shut (Ok row.field-0) row.ensures.reads there clean in
    let same = it.ensures.reads.same before there in
    let runs = same.0.was_open in
    let seen = row.ensures.sees.seen clean (has_after sales_kept it.ensures.reads shut there) in
    let none = subst (ShowsFirst (the_sale it.last) (state g.S.Store c.last_sale_number.new.conn).now) row.field-0-is seen in
    record {
      is_open = runs;
      named = by_last_sale (has runs).1 (inr (
        it.last,
        subst (ShowsFirst the_last_sale old.now) it.field-0-is (it.ensures.sees.seen before there),
        inl (subst (λ (db : Database). ShowsFirst (the_sale it.last) db None) same.0.now_is none),
      ));
      none = λ o at. last_there old has runs o at it.last (λ rows hold office. sym it.field-0-is ∙ it.ensures.given before rows hold office)
          (λ rows hold office. sym row.field-0-is ∙ row.ensures.given clean rows (rows_after sales_kept it.ensures.reads shut rows hold) office);
    })

pub returns-in-Err-sale_numbered-clause-looks : goal.returns-in-Err-sale_numbered-clause-looks
returns-in-Err-sale_numbered-clause-looks g c =
    let old = state g.S.Store c.args.conn.now in
    let it = c.in-Ok-Some in
    let row = c.in-Err-sale_numbered in
    let told = c.fault_of_table-in-Err-sale_numbered in
    let shut = g.met.S.Store.shut_if_dirty c.last_sale_number.new.conn.store in
    look_fails row.error told.result told.ensures.kind told.ensures.value
    (λ clean has is.
    let there = has_table sales_in old (tables old has) in
    let before = was_clean sales_kept it.ensures.reads shut (Err row.error) row.ensures.reads there clean in
    let same = it.ensures.reads.same before there in
    let spoilt = row.ensures.sees.spoilt clean (has_after sales_kept it.ensures.reads shut there) is in
    inr (
      it.last,
      subst (ShowsFirst the_last_sale old.now) it.field-0-is (it.ensures.sees.seen before there),
      inr (subst (HasSpoilt (the_sale it.last)) same.0.now_is spoilt),
    ))
    (read_in_office sales_in (read_after sales_kept c.in-Ok-Some.ensures.reads shut (Err row.error) row.ensures.reads))

pub returns-in-Err-sale_numbered-clause-fails : goal.returns-in-Err-sale_numbered-clause-fails
returns-in-Err-sale_numbered-clause-fails g c clean runs has =
    let old = state g.S.Store c.args.conn.now in
    let row = c.in-Err-sale_numbered in
    let told = c.fault_of_table-in-Err-sale_numbered in
    let shut = g.met.S.Store.shut_if_dirty c.last_sale_number.new.conn.store in
    fails_table g.S.Store old (state g.S.Store c.sale_numbered.new.conn) (TableHolds sales_kept) row.error told.result told.ensures.value runs
    ((read_after sales_kept c.in-Ok-Some.ensures.reads shut (Err row.error) row.ensures.reads).faults clean (has_table sales_in old (tables old has)))
