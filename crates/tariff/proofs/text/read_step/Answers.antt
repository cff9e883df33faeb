use Rattle.std.proofs.Common.{◌<◌, Some, None, length, lit<, rules}
use Rattle.std.proofs.lemmas.Str.Pattern.{split_once_first}
use Rattle.tariff.proofs.TextLemmas.{no_colon, no_end, no_price}
use Rattle.tariff.proofs.text.read_step.Goals as goal

pub returns-in_err-ends : goal.returns-in_err-ends
returns-in_err-ends c = rw c.from_residual.ensures
    (no_colon c.args.piece.now
    (split_once_first 58 c.args.piece.now None c.in_err-ends.ensures.cases (lit< tt)))

pub returns-in_err-read_number : goal.returns-in_err-read_number
returns-in_err-read_number c =
    let parts = split_once_first 58 c.args.piece.now (Some (c.in_ok-ends.ends, c.in_ok-ends.price)) c.in_ok-ends.ensures.cases (lit< tt) in
    let some : 0 < length c.in_ok-ends.ends.now = search rules in
    rw c.from_residual-in_err-read_number.ensures
    (no_end c.args.piece.now c.in_ok-ends.ends.now parts.1 some c.in_err-read_number.ensures)

pub returns-in_err-price : goal.returns-in_err-price
returns-in_err-price c =
    let parts = split_once_first 58 c.args.piece.now (Some (c.in_ok-ends.ends, c.in_ok-ends.price)) c.in_ok-ends.ensures.cases (lit< tt) in
    rw c.from_residual-in_err-price.ensures
    (no_price c.args.piece.now c.in_ok-ends.price.now parts.2 c.in_err-price.ensures)
