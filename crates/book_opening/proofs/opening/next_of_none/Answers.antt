use Rattle.std.proofs.Common.{[], arith}
use Rattle.sqlite.specs.Held.{state}
use Rattle.book_opening.specs.Opening.{IsSoundWith}
use Rattle.book_opening.proofs.BringingLemmas.{hands_none, none_sold}
use Rattle.book_opening.proofs.CauseLemmas.{fails_bringing}
use Rattle.book_opening.proofs.EndingLemmas.{ends_brought, ends_unbrought}
use Rattle.book_opening.proofs.opening.next_of_none.Goals as goal

pub returns-clause-ends : goal.returns-clause-ends
returns-clause-ends g c opens has =
    let old = state g.S.Store c.args.conn.now in
    let new = state g.S.Store c.bring_office.new.conn in
    let with : IsSoundWith 0 [] [] old = λ runs. ((has runs).0, (has runs).1, hands_none old.now (has runs).1) in
    ends_brought 0 old new (omega arith) opens (λ _. tt) (c.bring_office.ensures.survives opens with) c.of_sales.result
    (λ clean. none_sold old c.of_sales.result c.of_sales.ensures (opens clean) (has (opens clean)).1)
    (λ clean. c.in_ok-bring_office.ensures.brought clean with)

pub returns-in_err-bring_office-clause-ends : goal.returns-in_err-bring_office-clause-ends
returns-in_err-bring_office-clause-ends g c opens has =
    let old = state g.S.Store c.args.conn.now in
    let new = state g.S.Store c.bring_office.new.conn in
    let told = c.in_err-bring_office.ensures in
    let with : IsSoundWith 0 [] [] old = λ runs. ((has runs).0, (has runs).1, hands_none old.now (has runs).1) in
    let survives = c.bring_office.ensures.survives opens with in
    ends_unbrought 0 old new (omega arith) opens (λ _. tt) survives c.in_err-bring_office.field-0.0 c.from_residual.result c.from_residual.ensures.1
    (λ clean. told.told clean (opens (omega (arith, survives.clean, clean))) has) told.undone (told.risks opens with)

pub returns-in_err-bring_office-clause-fails : goal.returns-in_err-bring_office-clause-fails
returns-in_err-bring_office-clause-fails g c opens has clean =
    let old = state g.S.Store c.args.conn.now in
    let new = state g.S.Store c.bring_office.new.conn in
    let with : IsSoundWith 0 [] [] old = λ runs. ((has runs).0, (has runs).1, hands_none old.now (has runs).1) in
    let runs = opens (omega (arith, (c.bring_office.ensures.survives opens with).clean, clean)) in
    fails_bringing g.S.Store 0 c.args.conn.now new c.in_err-bring_office.field-0.0 c.from_residual.result c.from_residual.ensures.1
    (omega arith) runs (has runs).1
    (c.in_err-bring_office.ensures.fails clean with)
