use Rattle.asks.proofs.LawLemmas.{asks_one, asks_own}
use Rattle.asks.proofs.law.ask_law.Goals as goal

pub returns-clause-one : goal.returns-clause-one
returns-clause-one c =
    asks_one c.days_law.ensures
    (record { reads = c.steps_text_law.ensures.each_list; one_list = c.steps_text_law.ensures.one_list })

pub returns-clause-own : goal.returns-clause-own
returns-clause-own c = asks_own c.days_law.ensures c.record_law.ensures.json
