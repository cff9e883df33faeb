use Rattle.audit_lists.proofs.TokenLemmas.{none_unwritten}
use Rattle.audit_lists.proofs.tokens.tokens_law.Goals as goal

pub returns-clause-none : goal.returns-clause-none
returns-clause-none c = none_unwritten

pub returns-clause-lives : goal.returns-clause-lives
returns-clause-lives c forward lives o f are one = none_unwritten forward o f (c.reached_law.ensures.tokens_of_lives forward lives o are one)
