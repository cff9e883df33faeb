use Rattle.std.proofs.Common.{◌≡◌, ℕ, ◌-◌, length, get_or, true, ◌∙◌, ap, arith}
use Rattle.std.proofs.lemmas.List.{length-take-le}
use Rattle.std.proofs.lemmas.List.Elements.{All-take}
use Rattle.std.specs.Char.{digit_value, is_ascii_digit}
use Rattle.office_rules.specs.Name.{doubled}
use Rattle.office_rules.proofs.NameLemmas.LuhnLemmas.{luhn_sum-two_last}
use Rattle.office_rules.proofs.name.meter_no.luhn_sum.Goals as goal

pub loop-rest-preserved : goal.loop-rest-preserved
loop-rest-preserved c =
    let ds = c.loop-rest.rest.now in
    let n = length ds - 2 in
    let sum = luhn_sum-two_last ds n (length ds - 1) (omega arith) (omega arith) in
    let twice : c.doubled.result ≡ doubled (digit_value (get_or ds n 0)) =
    c.doubled.ensures.value ∙ ap doubled c.digit-in-len2-up.ensures.value in
    record {
      summed = omega (arith, sum, twice);
      digits = All-take (λ (byte : ℕ). is_ascii_digit byte ≡ true) n ds c.loop-rest.invariant.digits;
      bound = omega (arith, length-take-le n ds (omega arith));
    }
