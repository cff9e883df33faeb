use Rattle.std.proofs.Common.{◌∙◌, sym}
use Rattle.records.specs.Cell.{cell_text}
use Rattle.records.proofs.FrontLemmas.{lacks_stop, one_word}
use Rattle.records.proofs.reading.bare_at.Goals as goal

pub returns-in_default : goal.returns-in_default
returns-in_default c = λ cell rest is bare begins. c.in_default.ensures (cell_text cell) rest (lacks_stop cell is bare) begins

pub returns-in-None : goal.returns-in-None
returns-in-None c = λ cell rest is bare begins e.
    let found = c.in-Some.ensures in
    let same = one_word c.in-Some.word.now (cell_text cell) c.in-Some.rest.now rest found.0 (lacks_stop cell is bare) found.1 begins (sym found.2 ∙ e) in
    c.in-None.ensures cell is bare same.0
