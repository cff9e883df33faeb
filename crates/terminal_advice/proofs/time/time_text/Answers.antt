use Rattle.std.proofs.Common.{arith}
use Rattle.terminal_advice.proofs.TimeLemmas.{same-value, time-parts}
use Rattle.terminal_advice.proofs.time.time_text.Goals as goal

pub returns-clause-items : goal.returns-clause-items
returns-clause-items c =
    let shown = same-value _ _ _ c.unwrap-shown.ensures c.civil.ensures.value in
    let parts = time-parts c.args.moment c.unwrap-shown.result shown in
    grind arith
