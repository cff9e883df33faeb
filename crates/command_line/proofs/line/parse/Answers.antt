use Rattle.command_line.proofs.LineLemmas.{parsed}
use Rattle.command_line.proofs.line.parse.Goals as goal

pub returns : goal.returns
returns c = λ words is.
    let parse = c.try_get_matches_from in
    parsed parse.result _ _ words is c.in_ok-describe.ensures parse.ensures.kinds parse.ensures.matches
