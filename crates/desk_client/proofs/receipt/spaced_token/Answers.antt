use Rattle.std.proofs.Common.{◌≡◌, ◌∙◌, refl, sym, subst, arith}
use Rattle.std.proofs.lemmas.Bool.{false≢true}
use Rattle.std.specs.Char.{is_ascii_digit}
use Rattle.std.specs.List.{AllPass}
use Rattle.desk_client.proofs.ReceiptLemmas.{picked, picked-is, spaced-back}
use Rattle.desk_client.proofs.receipt.spaced_token.Goals as goal

pub returns-else-are_digits : goal.returns-else-are_digits
returns-else-are_digits c = λ digits found.
    let pass : AllPass is_ascii_digit (picked c.args.value.now) =
    subst (AllPass is_ascii_digit) (picked-is c.args.value.now digits found.0.twenty found.1) found.0.digits in
    false≢true (sym c.if-are_digits.false ∙ c.are_digits.ensures.1 pass)

pub returns-then-are_digits : goal.returns-then-are_digits
returns-then-are_digits c = (record { twenty = refl; digits = c.are_digits.ensures.0 c.if-are_digits.true }, spaced-back c.args.value.now (omega (arith, c.in-len24.len_at_least, c.in-len24.len_below)) c.if-first-ne32.false c.if-second-ne32.false c.if-third-ne32.false c.if-fourth-ne32.false)
