use Rattle.sqlite.specs.Held.{state}
use Rattle.book_opening.proofs.CauseLemmas.{fails_open}
use Rattle.book_opening.proofs.LookingLemmas.{of_failure}
use Rattle.book_opening.proofs.opening.test_open.Goals as goal

pub returns-in-Ok : goal.returns-in-Ok
returns-in-Ok g c = record {
  looks = record {
    same = λ clean _. c.in-Ok.ensures.same clean;
    kept = λ _ _. tt;
    mode = c.test_open.ensures.mode;
    faults = λ _ _. tt;
    survives = λ _. c.test_open.ensures.survives;
  };
  fails = λ _. tt;
}

pub returns-in-Err : goal.returns-in-Err
returns-in-Err g c = record {
  looks = record {
    same = λ _ _. tt;
    kept = λ clean _. c.in-Err.ensures.kept clean;
    mode = c.test_open.ensures.mode;
    faults = λ _ _. of_failure (state g.S.Store c.args.conn.now) c.fault_of.result c.fault_of.ensures.kind;
    survives = λ _. c.test_open.ensures.survives;
  };
  fails = λ clean. fails_open g.S.Store (state g.S.Store c.args.conn.now) (state g.S.Store c.test_open.new.conn) c.in-Err.error
      c.fault_of.result c.fault_of.ensures.value (c.in-Err.ensures.faults clean);
}
