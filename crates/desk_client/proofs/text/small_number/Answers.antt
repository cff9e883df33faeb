use Rattle.std.proofs.Common.{◌∙◌, sym, arith}
use Rattle.std.proofs.lemmas.Fmt.{decimal_injective}
use Rattle.desk_client.proofs.text.small_number.Goals as goal

pub returns-in_default : goal.returns-in_default
returns-in_default c = λ n is.
    let same = decimal_injective c.in-Some.number n c.in-Some.ensures.0 (omega (arith, is.0)) (sym c.in-Some.ensures.1 ∙ is.1) in
    omega (arith, same, is.0, c.if-number-from.false, c.from.ensures)
