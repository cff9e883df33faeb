use Rattle.std.proofs.Common.{rules, IsTrue, inl, inr, refl, sym, ◌∙◌}
use Rattle.sqlite.specs.Held.{state}
use Rattle.book_edits.proofs.CommitLemmas.{doubts_edit, has_edit, nothing_undone}
use Rattle.book_states.proofs.FailingLemmas.{edit_failed}
use Rattle.book_edits.proofs.transaction.commit.Goals as goal

pub returns-in-Ok-clause-commits : goal.returns-in-Ok-clause-commits
returns-in-Ok-clause-commits g c clean tables =
    let old = state g.S.Store c.args.conn.now in
    let new = state g.S.Store c.change_once.new.conn in
    let outside : IsTrue c.is_autocommit-settled.result = search rules in
    let made = c.in-Ok.ensures.committed clean in
    record {
      done = has_edit c.args.edit.now c.args.prior old new tables (c.is_autocommit-settled.ensures.settled outside) made.0 made.1 made.2
          c.change_once.ensures.exact c.change_once.ensures.crash.limit;
      counted = (made.1 (tables made.2.was_open)).1;
      failed = tt;
    }

pub returns-in-Err-Unmade-clause-commits : goal.returns-in-Err-Unmade-clause-commits
returns-in-Err-Unmade-clause-commits g c clean tables =
    let old = state g.S.Store c.args.conn.now in
    let new = state g.S.Store c.change_once.new.conn in
    let outside : IsTrue c.is_autocommit-settled.result = search rules in
    let survives = rw c.in-Err-Unmade.field-0-is at c.in-Err-Unmade.ensures.risks in
    let told = rw c.in-Err-Unmade.field-0-is at c.in-Err-Unmade.ensures.refused clean in
    record {
      done = tt;
      counted = tt;
      failed = inl (record {
        error = c.in-Err-Unmade.error;
        answered = c.refusal_of.ensures.value;
        either = c.refusal_of.ensures.either;
        nothing = nothing_undone c.args.edit.now c.args.prior old new tables (c.is_autocommit-settled.ensures.settled outside)
            (c.in-Err-Unmade.ensures.undone clean) survives;
        failed = λ is. edit_failed g.S.Store c.args.edit.now c.args.prior c.args.conn.now told.0 new told.2 c.in-Err-Unmade.error
            (sym c.refusal_of.ensures.value ∙ is) tables told.1;
      });
    }

pub returns-in-Err-InDoubt-clause-commits : goal.returns-in-Err-InDoubt-clause-commits
returns-in-Err-InDoubt-clause-commits g c clean tables =
    let old = state g.S.Store c.args.conn.now in
    let new = state g.S.Store c.change_once.new.conn in
    let outside : IsTrue c.is_autocommit-settled.result = search rules in
    let made = rw c.in-Err-InDoubt.field-0-is at c.in-Err-InDoubt.ensures.doubted clean in
    let survives = rw c.in-Err-InDoubt.field-0-is at c.in-Err-InDoubt.ensures.risks in
    let doubts = doubts_edit c.args.edit.now c.args.prior old new tables (c.is_autocommit-settled.ensures.settled outside) g.S.Store _ made
    (c.in-Err-InDoubt.ensures.undone clean) survives in
    record { done = tt; counted = tt; failed = inr (refl, doubts) }
