use Rattle.vend_ports.proofs.trials.identifier.Goals as goal

pub returns-clause-outcome : goal.returns-clause-outcome
returns-clause-outcome c = λ used last. rw (← c.in_ok-now.ensures.value) (c.next_tid.ensures.outcome used last)
