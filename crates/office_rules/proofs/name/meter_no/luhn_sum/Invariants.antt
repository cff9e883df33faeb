use Rattle.std.proofs.Common.{◌≡◌, ◌≤◌, ◌+◌, ◌*◌, length, reverse}
use Rattle.std.specs.Char.{is_ascii_digit}
use Rattle.std.specs.List.{AllPass}
use Rattle.office_rules.specs.Name.{luhn_sum}
use Rattle.office_rules.proofs.name.meter_no.luhn_sum.Given as goal

abbrev pub invariant-loop-rest : goal.invariant-loop-rest
invariant-loop-rest l = record {
  summed : l.sum + luhn_sum (reverse l.rest) ≡ luhn_sum (reverse l.digits);
  digits : AllPass is_ascii_digit l.rest;
  bound : l.sum + 9 * length l.rest ≤ 99;
}

abbrev pub decreases-loop-rest : goal.decreases-loop-rest
decreases-loop-rest l = length l.rest
