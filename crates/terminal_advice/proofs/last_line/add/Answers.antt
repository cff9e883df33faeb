use Rattle.std.proofs.Common.{◌∙◌, arith}
use Rattle.terminal_advice.proofs.LastLineLemmas.{full_kept, push_kept}
use Rattle.terminal_advice.proofs.last_line.add.Goals as goal

pub returns-then-len-lt-LINE_ROOM : goal.returns-then-len-lt-LINE_ROOM
returns-then-len-lt-LINE_ROOM c = λ whole is.
    c.push.ensures.items ∙ push_kept 128 c.args.line.now.items whole c.args.byte is
    (omega (arith, c.if-len-lt-LINE_ROOM.true, c.len.ensures.value))

pub returns-else-len-lt-LINE_ROOM : goal.returns-else-len-lt-LINE_ROOM
returns-else-len-lt-LINE_ROOM c = λ whole is.
    full_kept 128 c.args.line.now.items whole c.args.byte is
    (omega (arith, c.if-len-lt-LINE_ROOM.false, c.len.ensures.value))
