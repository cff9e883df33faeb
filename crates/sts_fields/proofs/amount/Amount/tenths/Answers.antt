use Rattle.sts_fields.proofs.AmountLemmas.{representable_bound}
use Rattle.sts_fields.proofs.amount.Amount.tenths.Goals as goal

pub returns-clause-within : goal.returns-clause-within
returns-clause-within c = representable_bound _ _ _ c.self.invariant.2
