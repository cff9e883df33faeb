use Rattle.std.proofs.Common.{arith, append_assoc}
use Rattle.sts_fields.specs.Day.{iso_date}
use Rattle.asks.proofs.texts.put_day.Goals as goal

pub returns-clause-text : goal.returns-clause-text
unfolding iso_date
returns-clause-text c = grind (arith, append_assoc)
