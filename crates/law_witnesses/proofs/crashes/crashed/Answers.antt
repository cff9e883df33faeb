use Rattle.law_witnesses.proofs.crashes.crashed.Goals as goal

pub returns-clause-left : goal.returns-clause-left
returns-clause-left c = record { left = c.crash.ensures.left; no_more = c.crash.ensures.crash }
