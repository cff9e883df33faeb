use Rattle.std.proofs.Common.{◌≡◌, ◌∙◌, ap, subst, is_some, IfOk, Err, Ok}
use Rattle.sqlite.specs.Held.{state}
use Rattle.sqlite.specs.Values.{bound}
use Rattle.one_table.proofs.ReadsOnlyLemmas.{fail_on, read_on}
use Rattle.book_tables.specs.Kept.{sales_kept}
use Rattle.book_tables.specs.reading.Questions.{the_sale_since}
use Rattle.book_tables.specs.reading.Seen.{HasSpoilt, ShowsFirst, ShowsMade}
use Rattle.book_tables.proofs.ReadingLemmas.FindLemmas.{gives, only_asks, reads, sees}
use Rattle.book_tables.proofs.ReadingLemmas.SeenLemmas.{sees_fault, sees_made}
use Rattle.book_tables.proofs.ReadingLemmas.SoldLemmas.{last_since, since_is, sold_since}
use Rattle.book_tables.proofs.reading.sales.sold_since.Goals as goal

pub returns-in_err-found-clause-reads : goal.returns-in_err-found-clause-reads
returns-in_err-found-clause-reads g c =
    fail_on c.from_residual.result c.from_residual.ensures.1
    (reads (sold_since c.args.day) (state g.S.Store c.args.conn.now) (state g.S.Store c.first_record.new.conn)
    (Err c.in_err-found.field-0.0) (bound c.first_second_values.result) c.first_second_values.ensures c.in_err-found.ensures.reads)

pub returns-clause-given : goal.returns-clause-given
returns-clause-given g c clean rows has of_office =
    let old = state g.S.Store c.args.conn.now in
    let only = only_asks (sold_since c.args.day) old (λ runs. (has runs).0) in
    let found = gives (sold_since c.args.day) old (state g.S.Store c.first_record.new.conn) rows has of_office c.first_record.result
    (bound c.first_second_values.result) c.first_second_values.ensures (c.first_record.ensures.reads.same clean only)
    (c.first_record.ensures.given clean only) in
    let is : c.in_ok-found.found ≡ last_since c.args.day rows =
    subst (λ r. IfOk r (λ x. x ≡ last_since c.args.day rows)) c.in_ok-found.was found in
    c.is_some.ensures ∙ ap is_some is ∙ since_is c.args.day c.day_law.ensures.whole rows of_office

pub returns-clause-reads : goal.returns-clause-reads
returns-clause-reads g c =
    read_on (reads (sold_since c.args.day) (state g.S.Store c.args.conn.now) (state g.S.Store c.first_record.new.conn)
    (Ok c.in_ok-found.found) (bound c.first_second_values.result) c.first_second_values.ensures c.in_ok-found.ensures.reads)

pub returns-in_err-found-clause-sees : goal.returns-in_err-found-clause-sees
returns-in_err-found-clause-sees g c =
    let q = the_sale_since c.args.day in
    let old = state g.S.Store c.args.conn.now in
    let new = state g.S.Store c.first_record.new.conn in
    sees_fault sales_kept (ShowsFirst q) (ShowsMade q is_some) (HasSpoilt q) (HasSpoilt q) (λ db spoilt. spoilt) old new
    c.in_err-found.field-0.0 c.from_residual.result c.from_residual.ensures.1
    (sees (sold_since c.args.day) old new (Err c.in_err-found.field-0.0) (bound c.first_second_values.result) c.first_second_values.ensures
    c.in_err-found.ensures.reads (λ _ _. tt))

pub returns-clause-sees : goal.returns-clause-sees
returns-clause-sees g c =
    let q = the_sale_since c.args.day in
    let old = state g.S.Store c.args.conn.now in
    let new = state g.S.Store c.first_record.new.conn in
    sees_made sales_kept (ShowsFirst q) (ShowsMade q is_some) (HasSpoilt q) (HasSpoilt q) old new c.in_ok-found.found c.is_some.result
    (λ db shown. (c.in_ok-found.found, shown, c.is_some.ensures))
    (sees (sold_since c.args.day) old new (Ok c.in_ok-found.found) (bound c.first_second_values.result) c.first_second_values.ensures
    c.in_ok-found.ensures.reads c.in_ok-found.ensures.given)
