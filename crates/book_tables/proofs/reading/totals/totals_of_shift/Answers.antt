use Rattle.std.proofs.Common.{◌≡◌, ◌∙◌, ap, subst, unwrap_or, Err, IfOk, Ok, Option}
use Rattle.sqlite.specs.Held.{state}
use Rattle.sqlite.specs.Values.{bound}
use Rattle.one_table.proofs.ReadsOnlyLemmas.{fail_on, read_on}
use Rattle.book_tables.specs.Stands.{sales_in_shift}
use Rattle.book_tables.specs.writing.Writing.{no_totals}
use Rattle.book_tables.specs.declared.row.totals.Totals.{Totals}
use Rattle.book_tables.proofs.ReadingLemmas.FindLemmas.{gives, only_asks, reads, sees}
use Rattle.book_tables.proofs.SalesOfLemmas.{totals_sum}
use Rattle.book_tables.proofs.ReadingLemmas.TotalsReadLemmas.{found_totals, totals_found}
use Rattle.book_tables.specs.Kept.{shift_totals_kept}
use Rattle.book_tables.specs.reading.Questions.{the_shift_totals}
use Rattle.book_tables.specs.reading.Seen.{HasSpoilt, ShowsFirst, ShowsMade}
use Rattle.book_tables.proofs.ReadingLemmas.SeenLemmas.{sees_fault, sees_made}
use Rattle.book_tables.proofs.reading.totals.totals_of_shift.Goals as goal

pub returns-in_err-found-clause-reads : goal.returns-in_err-found-clause-reads
returns-in_err-found-clause-reads g c =
    fail_on c.from_residual.result c.from_residual.ensures.1
    (reads (totals_found c.amount_law.ensures.greatest c.args.shift) (state g.S.Store c.args.conn.now)
    (state g.S.Store c.first_record.new.conn) (Err c.in_err-found.field-0.0) (bound c.number_values.result) c.number_values.ensures
    c.in_err-found.ensures.reads)

pub returns-clause-given : goal.returns-clause-given
returns-clause-given g c clean rows has of_office =
    let old = state g.S.Store c.args.conn.now in
    let shift = c.args.shift in
    let greatest = c.amount_law.ensures.greatest in
    let only = only_asks (totals_found greatest shift) old (λ runs. (has runs).0) in
    let found = gives (totals_found greatest shift) old (state g.S.Store c.first_record.new.conn) rows has of_office c.first_record.result
    (bound c.number_values.result) c.number_values.ensures (c.first_record.ensures.reads.same clean only) (c.first_record.ensures.given clean only) in
    let is : c.in_ok-found.found ≡ found_totals greatest shift rows = subst (λ r. IfOk r (λ x. x ≡ found_totals greatest shift rows)) c.in_ok-found.was found in
    c.totals_or_none.ensures ∙ ap (λ (o : Option Totals). unwrap_or o no_totals) is ∙ totals_sum (sales_in_shift rows.sales shift)

pub returns-clause-reads : goal.returns-clause-reads
returns-clause-reads g c =
    read_on (reads (totals_found c.amount_law.ensures.greatest c.args.shift) (state g.S.Store c.args.conn.now)
    (state g.S.Store c.first_record.new.conn) (Ok c.in_ok-found.found) (bound c.number_values.result) c.number_values.ensures c.in_ok-found.ensures.reads)

pub returns-in_err-found-clause-sees : goal.returns-in_err-found-clause-sees
returns-in_err-found-clause-sees g c =
    let q = the_shift_totals c.args.shift in
    let old = state g.S.Store c.args.conn.now in
    let new = state g.S.Store c.first_record.new.conn in
    sees_fault shift_totals_kept (ShowsFirst q) (ShowsMade q (λ o. unwrap_or o no_totals)) (HasSpoilt q) (HasSpoilt q)
    (λ db spoilt. spoilt) old new c.in_err-found.field-0.0 c.from_residual.result c.from_residual.ensures.1
    (sees (totals_found c.amount_law.ensures.greatest c.args.shift) old new (Err c.in_err-found.field-0.0) (bound c.number_values.result)
    c.number_values.ensures c.in_err-found.ensures.reads (λ _ _. tt))

pub returns-clause-sees : goal.returns-clause-sees
returns-clause-sees g c =
    let q = the_shift_totals c.args.shift in
    let old = state g.S.Store c.args.conn.now in
    let new = state g.S.Store c.first_record.new.conn in
    sees_made shift_totals_kept (ShowsFirst q) (ShowsMade q (λ o. unwrap_or o no_totals)) (HasSpoilt q) (HasSpoilt q) old new
    c.in_ok-found.found c.totals_or_none.result (λ db shown. (c.in_ok-found.found, shown, c.totals_or_none.ensures))
    (sees (totals_found c.amount_law.ensures.greatest c.args.shift) old new (Ok c.in_ok-found.found) (bound c.number_values.result)
    c.number_values.ensures c.in_ok-found.ensures.reads c.in_ok-found.ensures.given)
