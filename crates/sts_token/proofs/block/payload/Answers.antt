use Rattle.std.proofs.Common.{◌∙◌, arith}
use Rattle.sts_token.proofs.BlockLemmas.{joined_payload}
use Rattle.sts_token.proofs.block.payload.Goals as goal

pub returns-clause-value : goal.returns-clause-value
returns-clause-value c =
    joined_payload c.from-rnd.result c.from-tid.result c.from-code.result (omega arith)
    (omega arith) (omega arith)
    ∙ rw (← c.fields.view_is) (omega (arith, c.code.ensures.value))

pub returns-clause-bits : goal.returns-clause-bits
returns-clause-bits c =
    rw (joined_payload c.from-rnd.result c.from-tid.result c.from-code.result (omega arith)
    (omega arith) (omega arith)) (omega arith)
