use Rattle.std.proofs.lemmas.Slice.Eq.{slice_eq-Decides}
use Rattle.tariff.proofs.SameLemmas.{step_eq-Decides}
use Rattle.tariff.proofs.steps.StepsPartialEq.eq.Goals as goal

pub returns-clause-same : goal.returns-clause-same
returns-clause-same c =
    rw (← c.as_slice.ensures.view, ← c.as_slice-2.ensures.view)
    (slice_eq-Decides step_eq-Decides c.as_slice.result.now c.as_slice-2.result.now c.eq.result c.eq.ensures)
