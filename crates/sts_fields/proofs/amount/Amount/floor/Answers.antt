use Rattle.sts_fields.proofs.AmountLemmas.{floor_is}
use Rattle.sts_fields.proofs.amount.Amount.floor.Goals as goal

pub invariant_of-result : goal.invariant_of-result
invariant_of-result c =
    rw (c.start.ensures, c.step.ensures) (floor_is c.args.tenths c.exponent-exponent.result c.exponent-exponent.ensures.range c.requires).representable

pub returns : goal.returns
returns c =
    rw (c.start.ensures, c.step.ensures)
    (floor_is c.args.tenths c.exponent-exponent.result c.exponent-exponent.ensures.range c.requires)
