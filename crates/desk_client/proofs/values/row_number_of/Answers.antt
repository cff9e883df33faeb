use Rattle.std.proofs.Common.{◌∙◌, sym, arith}
use Rattle.desk_client.proofs.NumberLemmas.{same_number}
use Rattle.desk_client.proofs.values.row_number_of.Goals as goal

pub returns-in_default : goal.returns-in_default
returns-in_default c = λ n is.
    let same = same_number _ c.in-Some.number n (omega (arith, c.in-Some.ensures.0)) (omega (arith, is.0.most)) c.in-Some.ensures.1 is.1 in
    grind (arith, same, is.0.from_one, is.0.most, c.if-contains.false, c.contains.ensures.value, c.if-contains.ensures.value)
