use Rattle.std.proofs.Common.{sym, subst, take, List, ℕ, arith, ◌≡◌}
use Rattle.std.proofs.lemmas.List.{take_all}
use Rattle.std.specs.Char.{is_ascii_digit}
use Rattle.std.specs.List.{AllPass}
use Rattle.std.specs.Str.Parse.{digits_value}
use Rattle.sts_token.proofs.DecimalLemmas.{decimal_all, more_digits, more_fits, more_number}
use Rattle.sts_token.proofs.reading.decimal.Goals as goal

pub loop-digit-preserved : goal.loop-digit-preserved
loop-digit-preserved c =
    let l = c.loop-digit in
    let text = c.args.text.now in
    let here = sym c.if-not-is_ascii_digit.ensures.value in
    record {
      digits = more_digits text l.digit-index c.loop-digit-test.true l.invariant.digits here;
      number = rw c.from.ensures
          (more_number text l.digit-index l.number c.loop-digit-test.true l.invariant.number here);
      fits = rw c.from.ensures (more_fits l.digit-index l.number _ l.invariant.fits here);
    }

pub returns : goal.returns
returns c =
    let l = c.loop-digit in
    let text = c.args.text.now in
    let whole : take l.digit-index text ≡ text = take_all l.digit-index text (omega arith) in
    decimal_all text l.number
    (record { twenty = omega arith; digits = subst (λ (xs : List ℕ). AllPass is_ascii_digit xs) whole l.invariant.digits })
    (subst (λ (xs : List ℕ). digits_value 10 xs ≡ l.number) whole l.invariant.number)
