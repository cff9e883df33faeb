use Rattle.std.proofs.Common.{refl, arith}
use Rattle.sts_fields.proofs.AmountLemmas.{representable_bound}
use Rattle.sts_fields.proofs.amount.Amount.of_code.Goals as goal

pub overflow_add-result : goal.overflow_add-result
overflow_add-result c =
    rw (c.start.ensures, c.step.ensures)
    (omega (
      arith,
      representable_bound _ c.from-exponent.result c.from-mantissa.result
          (record { exponent = omega arith; mantissa = omega arith; gives = refl }),
    ))
