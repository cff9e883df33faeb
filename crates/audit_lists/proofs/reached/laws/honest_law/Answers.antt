use Rattle.audit_lists.proofs.ReachedLemmas.PlausibleLemmas.{none_found}
use Rattle.audit_lists.proofs.reached.laws.honest_law.Goals as goal

pub returns-clause-none : goal.returns-clause-none
returns-clause-none c = none_found

pub returns-clause-lives : goal.returns-clause-lives
returns-clause-lives c lives o f are = none_found o f (c.reached_law.ensures.lives lives o are)
