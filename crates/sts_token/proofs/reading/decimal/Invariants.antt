use Rattle.std.proofs.Common.{◌≡◌, ◌<◌, ◌^◌, take}
use Rattle.std.specs.Char.{is_ascii_digit}
use Rattle.std.specs.List.{AllPass}
use Rattle.std.specs.Str.Parse.{digits_value}
use Rattle.sts_token.proofs.reading.decimal.Given as goal

-- the digits so far, their number, and that one more fits
abbrev pub invariant-loop-digit : goal.invariant-loop-digit
invariant-loop-digit l =
    record {
      digits : AllPass is_ascii_digit (take l.digit-index l.text);
      number : digits_value 10 (take l.digit-index l.text) ≡ l.number;
      fits : l.number < 10 ^ l.digit-index;
    }
