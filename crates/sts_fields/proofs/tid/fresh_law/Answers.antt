use Rattle.sts_fields.proofs.TidLemmas.{fresh_after_is}
use Rattle.sts_fields.proofs.tid.fresh_law.Goals as goal

pub returns-clause-computed : goal.returns-clause-computed
returns-clause-computed c = fresh_after_is
