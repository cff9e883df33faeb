use Rattle.std.proofs.Common.{sym}
use Rattle.one_table.proofs.KeyLemmas.{past_orders}
use Rattle.one_table.proofs.inspect.order_of_key.Goals as goal

pub returns-in-None : goal.returns-in-None
returns-in-None c = sym (past_orders c.args.table.now.orders c.args.number c.in-None.ensures.value)
