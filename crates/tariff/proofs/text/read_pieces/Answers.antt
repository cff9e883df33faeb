use Rattle.tariff.proofs.PiecesLemmas.{IsUtf8-text}
use Rattle.tariff.proofs.text.read_pieces.Goals as goal

pub returns-in-Err : goal.returns-in-Err
returns-in-Err c = λ steps t. c.in-Err.ensures.cases.0 (IsUtf8-text c.args.text.now steps t)
