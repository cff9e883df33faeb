use Rattle.std.proofs.Common.{arith}
use Rattle.sts_token.specs.Block.{block_of}
use Rattle.sts_token.specs.Token.{token_of}
use Rattle.sts_token.proofs.TokenLemmas.{block_of-lt, number_of-lt, one_token, written_token}
use Rattle.sts_token.proofs.token.token_law.Goals as goal

pub returns-clause-has_text : goal.returns-clause-has_text
unfolding token_of
returns-clause-has_text c = λ forward key f range k fields.
    let code = c.amount_law.ensures.sixteen_bits _ _ (c.amount_law.ensures.each_amount f.tenths fields.tenths) in
    let block = block_of-lt 0 f (omega arith) fields.rnd fields.tid code in
    written_token forward key f
    (omega (arith, number_of-lt (forward key (block_of 0 f)) (range key (block_of 0 f) k block)))

pub returns-clause-one_text : goal.returns-clause-one_text
returns-clause-one_text c = one_token
