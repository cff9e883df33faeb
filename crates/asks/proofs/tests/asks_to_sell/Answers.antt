use Rattle.asks.specs.Examples.{order_ask, order_message}
use Rattle.asks.proofs.WitnessLemmas.{order_askable}
use Rattle.asks.proofs.tests.asks_to_sell.Goals as goal

pub returns-clause-asks : goal.returns-clause-asks
returns-clause-asks c = c.ask_law.ensures.own order_ask order_askable

pub returns-clause-alone : goal.returns-clause-alone
returns-clause-alone c = λ other asks.
    c.ask_law.ensures.one order_message other order_ask asks (c.ask_law.ensures.own order_ask order_askable)
