use Rattle.std.proofs.Common.{List, Option, None, Some, All, IfSome, arith}
use Rattle.sqlite.specs.Files.{file_state}
use Rattle.sqlite.specs.State.{HasCleanDisk}
use Rattle.sts_token.specs.Token.{BlockFunction}
use Rattle.vend_core.specs.Law.Life.{AreLives, Life, SellsUnder}
use Rattle.vend_core.specs.Law.Reached.{HasTokensOf}
use Rattle.office_rules.specs.Office.{Office}
use Rattle.audit.specs.Fails.{AreWritten}
use Rattle.program_laws.proofs.laws.broken_law.Goals as goal

-- lives that sell under the transform that is given wrote all tokens by it
all_written : (lives : List Life) (office : Office) → AreLives lives office
    → ((forward : BlockFunction) → All (SellsUnder forward) lives → HasTokensOf forward office)
    → (given : Option BlockFunction) → IfSome given (λ forward. All (SellsUnder forward) lives) → AreWritten given office
all_written lives office are law None by = tt
all_written lives office are law (Some forward) by = law forward by

pub returns : goal.returns
returns g c = λ image back given answer lives office are by stands audit clean.
    let before : HasCleanDisk (file_state audit.first) = omega (arith, audit.audited.survives.clean, clean) in
    let at = audit.connected before in
    let first = file_state audit.first in
    let shows = c.found_law.ensures.opens audit.first office at.opens at.live (stands first.committed.trees at.found) in
    audit.audited.honest clean office (shows.now at.opens.is_open) (c.reached_law.ensures.lives lives office are)
    (all_written lives office are (λ forward. c.reached_law.ensures.tokens_of_lives forward lives office are) given by)
