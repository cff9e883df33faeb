use Rattle.asks.specs.Examples.{sale_ask, sale_message}
use Rattle.asks.proofs.WitnessLemmas.{sale_askable}
use Rattle.asks.proofs.tests.asks_for_sale.Goals as goal

pub returns-clause-asks : goal.returns-clause-asks
returns-clause-asks c = c.ask_law.ensures.own sale_ask sale_askable

pub returns-clause-alone : goal.returns-clause-alone
returns-clause-alone c = λ other asks.
    c.ask_law.ensures.one sale_message other sale_ask asks (c.ask_law.ensures.own sale_ask sale_askable)
