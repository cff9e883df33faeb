use Rattle.std.proofs.Common.{arith}
use Rattle.papers.proofs.TextLemmas.{kwh-parts}
use Rattle.papers.proofs.room.kwh_text.Goals as goal

pub returns : goal.returns
returns c =
    let parts = kwh-parts c.args.tenths in
    grind arith
