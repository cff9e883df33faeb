use Rattle.std.proofs.Common.{sym, arith}
use Rattle.sts_token.proofs.KeyLemmas.{key_room, turn_digits, turn_fits, turn_number}
use Rattle.sts_token.proofs.key.read_key.Goals as goal

pub overflow_mul-key : goal.overflow_mul-key
overflow_mul-key c = omega (
  arith,
  key_room c.loop-digit.digit-index c.loop-digit.key
      (omega arith) c.loop-digit.invariant.fits,
)

pub overflow_add-key : goal.overflow_add-key
overflow_add-key c =
    omega (
      arith,
      key_room c.loop-digit.digit-index c.loop-digit.key
          (omega arith) c.loop-digit.invariant.fits,
      c.in_ok-hexdigit.ensures.value,
    )

pub loop-digit-preserved : goal.loop-digit-preserved
loop-digit-preserved c =
    let l = c.loop-digit in
    let hexdigit = c.in_ok-hexdigit.ensures in
    record {
      digits = turn_digits c.args.text.now l.digit-index c.loop-digit-test.true l.invariant.digits
          (sym hexdigit.known);
      number = rw c.from.ensures (turn_number c.args.text.now l.digit-index l.key _ c.loop-digit-test.true l.invariant.number hexdigit.value.1);
      fits = rw c.from.ensures (turn_fits l.digit-index l.key _ l.invariant.fits hexdigit.value.0);
    }
