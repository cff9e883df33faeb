use Rattle.std.proofs.Common.{rules, IsTrue, Ok}
use Rattle.sqlite.specs.Held.{state}
use Rattle.book_states.proofs.StayLemmas.{has_tables, unchanged_same}
use Rattle.book_tables.proofs.OfficeTableLemmas.{read_in_office, sales_in}
use Rattle.book_facts.proofs.LooksLemmas.{first_shown, first_spoilt}
use Rattle.book_facts.proofs.PageLemmas.{page_of}
use Rattle.book_facts.proofs.TellsLemmas.{tells_failed, tells_read}
use Rattle.book_facts.proofs.pages.page.Goals as goal

pub returns-in-Ok-clause-given : goal.returns-in-Ok-clause-given
returns-in-Ok-clause-given g c clean o at =
    let old = state g.S.Store c.args.conn.now in
    let same = (read_in_office sales_in c.in-Ok.ensures.reads).same clean (has_tables o old at) in
    page_of o old c.args.number c.args.limit c.in-Ok.sales.items at same.0.was_open (c.in-Ok.ensures.given clean)

pub returns-in-Ok-clause-tells : goal.returns-in-Ok-clause-tells
returns-in-Ok-clause-tells g c =
    let old = state g.S.Store c.args.conn.now in
    let new = state g.S.Store c.sales_after.new.conn in
    tells_read (Ok c.in-Ok.sales) old new (read_in_office sales_in c.in-Ok.ensures.reads) (unchanged_same old new)
    (g.met.S.Store.shut_if_dirty c.args.conn.now.store) c.requires
    (λ clean has. first_shown sales_in c.in-Ok.ensures.sees clean has) tt

pub returns-in-Err-clause-tells : goal.returns-in-Err-clause-tells
returns-in-Err-clause-tells g c =
    let outside : IsTrue c.is_autocommit-settled.result = search rules in
    tells_failed (state g.S.Store c.args.conn.now) (state g.S.Store c.sales_after.new.conn) c.in-Err.error c.refusal_of.result
    c.refusal_of.ensures.value c.refusal_of.ensures.either (read_in_office sales_in c.in-Err.ensures.reads)
    (first_spoilt sales_in c.in-Err.ensures.sees) (c.is_autocommit-settled.ensures.settled outside) (g.met.S.Store.shut_if_dirty c.args.conn.now.store) c.requires tt
