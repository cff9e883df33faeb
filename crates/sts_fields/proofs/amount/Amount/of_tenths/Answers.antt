use Rattle.std.proofs.Common.{arith}
use Rattle.sts_fields.proofs.AmountLemmas.{no_rest_from_representable, representable_bound}
use Rattle.sts_fields.proofs.amount.Amount.of_tenths.Goals as goal
use Rattle.sts_fields.proofs.amount.Amount.of_tenths.Goals.{else-tenths-le-MAX_TENTHS-via-then-tenths-le-MAX_TENTHS+else-tenths-start-eq0, else-tenths-le-MAX_TENTHS-via-else-tenths-le-MAX_TENTHS}

pub returns-else-tenths-le-MAX_TENTHS-clause-representable :
    goal.returns-else-tenths-le-MAX_TENTHS-clause-representable
returns-else-tenths-le-MAX_TENTHS-clause-representable c = (
  λ e. cc,
  λ carried.
      let range = c.exponent-exponent.ensures.range in
      let bound = representable_bound _ _ _ carried.2 in
      let no_rest = no_rest_from_representable _ _ range carried in
      absurd
      (elim c.else-tenths-le-MAX_TENTHS.branch [
        | else-tenths-le-MAX_TENTHS-via-then-tenths-le-MAX_TENTHS+else-tenths-start-eq0 w ↦
            w.if-tenths-start-eq0.false (rw (w.start.ensures, w.step.ensures) no_rest)
        | else-tenths-le-MAX_TENTHS-via-else-tenths-le-MAX_TENTHS w ↦ omega (arith, bound)
      ]),
)
