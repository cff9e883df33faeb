use Rattle.asks.proofs.ValueLemmas.{number_piece}
use Rattle.asks.proofs.value.Value.of_piece.Goals as goal

pub returns-in-Some : goal.returns-in-Some
returns-in-Some c =
    number_piece c.args.kind c.args.piece.now c.in-Some.number c.of_number.result c.in-Base.is c.in-Some.ensures.0 c.in-Some.ensures.1 c.of_number.ensures
