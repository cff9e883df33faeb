use Rattle.std.proofs.Common.{refl, arith}
use Rattle.sts_fields.proofs.AmountLemmas.{parts_in_range}
use Rattle.sts_fields.proofs.amount.Amount.code.Goals as goal

pub overflow_cast-result : goal.overflow_cast-result
overflow_cast-result c =
    let parts = parts_in_range _ _ c.exponent-exponent.ensures.range c.self.invariant in
    rw (c.start.ensures, c.step.ensures) (omega (arith, parts.exponent, parts.mantissa))

pub returns-clause-code : goal.returns-clause-code
returns-clause-code c =
    rw (c.start.ensures, c.step.ensures, ← c.self.view_is)
    (_, _, parts_in_range _ _ c.exponent-exponent.ensures.range c.self.invariant, refl)
