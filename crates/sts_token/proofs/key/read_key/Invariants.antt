use Rattle.std.proofs.Common.{◌≡◌, ◌<◌, ◌^◌, take}
use Rattle.std.specs.List.{AllPass}
use Rattle.std.specs.Str.Parse.{digits_value}
use Rattle.sts_token.specs.Key.{is_lower_hexdigit}
use Rattle.sts_token.proofs.key.read_key.Given as goal

-- the digits so far, their worth, and that one more fits
abbrev pub invariant-loop-digit : goal.invariant-loop-digit
invariant-loop-digit l =
    record {
      digits : AllPass is_lower_hexdigit (take l.digit-index l.text);
      number : digits_value 16 (take l.digit-index l.text) ≡ l.key;
      fits : l.key < 16 ^ l.digit-index;
    }
