use Rattle.office_decisions.proofs.OverFactsLemmas.{decides_by_facts}
use Rattle.office_decisions.proofs.law.facts_law.Goals as goal

pub returns : goal.returns
returns c = decides_by_facts
