use Rattle.records.specs.Cell.{text}
use Rattle.tariff.specs.StepsText.{steps_text}
use Rattle.asks.proofs.reading.steps_in.Goals as goal

pub returns-in_default : goal.returns-in_default
returns-in_default c = λ steps are. c.in_default.ensures (text (steps_text steps)) are.told
