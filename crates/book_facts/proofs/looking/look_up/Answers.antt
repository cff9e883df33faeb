use Rattle.std.proofs.Common.{rules, IsTrue, ap, inl, inr, Err}
use Rattle.sqlite.specs.Held.{state}
use Rattle.book_facts.proofs.TellsLemmas.{tells_failed, tells_read}
use Rattle.book_facts.proofs.looking.look_up.Goals as goal

pub returns-in-Ok-clause-found : goal.returns-in-Ok-clause-found
returns-in-Ok-clause-found g c clean o at told = inl (c.in-Ok.ensures.finds.looks.facts clean o at.office at.members told)

pub returns-in-Err-clause-found : goal.returns-in-Err-clause-found
returns-in-Err-clause-found g c clean o at told =
    inr (elim c.refusal_of.ensures.either [ inl memory ↦ inl (ap (λ r. Err r) memory) | inr failed ↦ inr (ap (λ r. Err r) failed) ])

pub returns-in-Ok-clause-tells : goal.returns-in-Ok-clause-tells
returns-in-Ok-clause-tells g c =
    let old = state g.S.Store c.args.conn.now in
    tells_read c.in-Ok.found old (state g.S.Store c.found_of.new.conn) c.in-Ok.ensures.finds.looks.reads (λ same. same)
    (g.met.S.Store.shut_if_dirty c.args.conn.now.store) c.requires
    (λ clean has. inl (c.in-Ok.ensures.finds.looks.shown clean has)) c.in-Ok.ensures.finds.rules

pub returns-in-Err-clause-tells : goal.returns-in-Err-clause-tells
returns-in-Err-clause-tells g c =
    let outside : IsTrue c.is_autocommit-settled.result = search rules in
    tells_failed (state g.S.Store c.args.conn.now) (state g.S.Store c.found_of.new.conn) c.in-Err.error c.refusal_of.result
    c.refusal_of.ensures.value c.refusal_of.ensures.either c.in-Err.ensures.finds.looks.reads c.in-Err.ensures.finds.looks.spoilt
    (c.is_autocommit-settled.ensures.settled outside)
    (g.met.S.Store.shut_if_dirty c.args.conn.now.store) c.requires
    (inr (elim c.refusal_of.ensures.either [ inl memory ↦ inl (ap (λ r. Err r) memory) | inr failed ↦ inr (ap (λ r. Err r) failed) ]))
