use Rattle.std.proofs.Common.{◌≡◌, ◌-◌, length}
use Rattle.sts_token.specs.Digits.{digits_text}
use Rattle.sts_token.proofs.DigitsLemmas.{written_digits}
use Rattle.sts_token.proofs.digits.digits.Given as goal

-- the digits written so far, behind those of the rest, are the number's
abbrev pub invariant-loop-written : goal.invariant-loop-written
invariant-loop-written g l =
    (length l.text ≡ g.row.N)
    × (written_digits l.base l.rest l.text (g.row.N - l.written)
    ≡ digits_text l.base g.row.N l.number)
