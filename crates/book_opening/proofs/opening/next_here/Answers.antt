use Rattle.std.proofs.Common.{rules, IsTrue, arith}
use Rattle.sqlite.specs.Held.{state}
use Rattle.sqlite.specs.State.{HasCleanDisk}
use Rattle.book_opening.proofs.CauseLemmas.{fails_after}
use Rattle.book_opening.proofs.EndingLemmas.{ends_after, ends_looked}
use Rattle.book_opening.proofs.opening.next_here.Goals as goal

pub returns-clause-ends : goal.returns-clause-ends
returns-clause-ends g c =
    let old = state g.S.Store c.args.conn.now in
    let mid = state g.S.Store c.test_open.new.conn in
    let new = state g.S.Store c.next_by_schema.new.conn in
    let looks = c.in_ok-test_open.ensures.looks in
    ends_after old mid new c.next_by_schema.result (λ clean. looks.same clean tt) (looks.survives tt)
    (c.next_by_schema.ensures.ends (λ clean. (looks.same clean tt).0.is_open))

pub returns-in_err-test_open-clause-ends : goal.returns-in_err-test_open-clause-ends
returns-in_err-test_open-clause-ends g c =
    let old = state g.S.Store c.args.conn.now in
    let new = state g.S.Store c.test_open.new.conn in
    let outside : IsTrue c.is_autocommit-outside.result = search rules in
    ends_looked old new c.in_err-test_open.field-0.0 c.from_residual.result c.from_residual.ensures.1 tt
    (c.is_autocommit-outside.ensures.settled outside) c.in_err-test_open.ensures.looks

pub returns-clause-fails : goal.returns-clause-fails
returns-clause-fails g c clean =
    let old = state g.S.Store c.args.conn.now in
    let mid = state g.S.Store c.test_open.new.conn in
    let new = state g.S.Store c.next_by_schema.new.conn in
    let looks = c.in_ok-test_open.ensures.looks in
    let opens = λ (k : HasCleanDisk mid). (looks.same k tt).0.is_open in
    let early : HasCleanDisk mid = omega (arith, (c.next_by_schema.ensures.ends opens).survives.clean, clean) in
    fails_after g.S.Store old mid new (looks.same early tt) (looks.survives tt) c.next_by_schema.result (c.next_by_schema.ensures.fails opens clean)
