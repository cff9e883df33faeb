use Rattle.std.proofs.Common.{refl}
use Rattle.law_witnesses.proofs.older.taken_back.Goals as goal

pub returns-in-Some-clause-one : goal.returns-in-Some-clause-one
returns-in-Some-clause-one c =
    let copied = (c.in-Some.ensures {u = tt}).copied refl in
    record { trees = _; seen = copied.seen; left = copied.left }
