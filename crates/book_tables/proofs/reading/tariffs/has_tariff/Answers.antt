use Rattle.std.specs.Prelude.{Contains, bytes_eq, find}
use Rattle.std.proofs.Common.{◌≡◌, ◌↔◌, ◌∙◌, ap, subst, sym, IsTrue, is_some, IfOk, Err, Ok}
use Rattle.sqlite.specs.Held.{state}
use Rattle.sqlite.specs.Values.{bound}
use Rattle.book_tables.proofs.ReadingLemmas.FindLemmas.{gives, only_asks, reads, sees}
use Rattle.one_table.proofs.ReadsOnlyLemmas.{fail_on, read_on}
use Rattle.book_tables.proofs.ReadingLemmas.TariffLemmas.{tariff_named, there_is}
use Rattle.book_tables.specs.Kept.{tariffs_kept}
use Rattle.book_tables.specs.reading.Questions.{the_tariff}
use Rattle.book_tables.specs.reading.Seen.{HasSpoilt, ShowsFirst, ShowsMade}
use Rattle.book_tables.proofs.ReadingLemmas.SeenLemmas.{sees_fault, sees_made}
use Rattle.book_tables.proofs.reading.tariffs.has_tariff.Goals as goal

pub returns-in_err-found-clause-reads : goal.returns-in_err-found-clause-reads
returns-in_err-found-clause-reads g c =
    let this = c.in_err-found.ensures.reads in
    fail_on c.from_residual.result c.from_residual.ensures.1
    (reads (tariff_named c.args.name.now) (state g.S.Store c.args.conn.now) (state g.S.Store c.first_record.new.conn)
    (Err c.in_err-found.field-0.0) (bound c.tariff_values.result) c.tariff_values.ensures this)

pub returns-clause-given : goal.returns-clause-given
returns-clause-given g c clean rows has of_office =
    let old = state g.S.Store c.args.conn.now in
    let only = only_asks (tariff_named c.args.name.now) old (λ runs. (has runs).0) in
    let found = gives (tariff_named c.args.name.now) old (state g.S.Store c.first_record.new.conn) rows has of_office c.first_record.result
    (bound c.tariff_values.result) c.tariff_values.ensures (c.first_record.ensures.reads.same clean only) (c.first_record.ensures.given clean only) in
    let is : c.in_ok-found.found ≡ find (λ r. bytes_eq r c.args.name.now) rows.tariffs =
    subst (λ r. IfOk r (λ x. x ≡ find (λ r. bytes_eq r c.args.name.now) rows.tariffs)) c.in_ok-found.was found in
    subst (λ b. IsTrue b ↔ Contains rows.tariffs c.args.name.now) (sym (c.is_some.ensures ∙ ap is_some is)) (there_is c.args.name.now rows.tariffs)

pub returns-clause-reads : goal.returns-clause-reads
returns-clause-reads g c =
    let this = c.in_ok-found.ensures.reads in
    read_on (reads (tariff_named c.args.name.now) (state g.S.Store c.args.conn.now) (state g.S.Store c.first_record.new.conn)
    (Ok c.in_ok-found.found) (bound c.tariff_values.result) c.tariff_values.ensures this)

pub returns-in_err-found-clause-sees : goal.returns-in_err-found-clause-sees
returns-in_err-found-clause-sees g c =
    let q = the_tariff c.args.name.now in
    let old = state g.S.Store c.args.conn.now in
    let new = state g.S.Store c.first_record.new.conn in
    sees_fault tariffs_kept (ShowsFirst q) (ShowsMade q is_some) (HasSpoilt q) (HasSpoilt q) (λ db spoilt. spoilt) old new
    c.in_err-found.field-0.0 c.from_residual.result c.from_residual.ensures.1
    (sees (tariff_named c.args.name.now) old new (Err c.in_err-found.field-0.0) (bound c.tariff_values.result) c.tariff_values.ensures
    c.in_err-found.ensures.reads (λ _ _. tt))

pub returns-clause-sees : goal.returns-clause-sees
returns-clause-sees g c =
    let q = the_tariff c.args.name.now in
    let old = state g.S.Store c.args.conn.now in
    let new = state g.S.Store c.first_record.new.conn in
    sees_made tariffs_kept (ShowsFirst q) (ShowsMade q is_some) (HasSpoilt q) (HasSpoilt q) old new c.in_ok-found.found c.is_some.result
    (λ db shown. (c.in_ok-found.found, shown, c.is_some.ensures))
    (sees (tariff_named c.args.name.now) old new (Ok c.in_ok-found.found) (bound c.tariff_values.result) c.tariff_values.ensures
    c.in_ok-found.ensures.reads c.in_ok-found.ensures.given)
