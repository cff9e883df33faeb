use Rattle.std.proofs.Common.{arith}
use Rattle.papers.proofs.TextLemmas.{same-value, time-parts}
use Rattle.papers.proofs.room.time_text.Goals as goal

pub returns : goal.returns
returns c =
    let shown = same-value _ _ _ c.unwrap-shown.ensures c.civil.ensures.value in
    let parts = time-parts c.args.moment c.unwrap-shown.result shown in
    grind arith
