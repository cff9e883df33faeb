use Rattle.std.proofs.Common.{ap, sym, ◌∙◌, subst, arith}
use Rattle.sts_token.specs.Block.{number_of}
use Rattle.sts_token.specs.Digits.{digits_text}
use Rattle.sts_token.specs.Token.{IsToken, token_of}
use Rattle.sts_token.proofs.TokenLemmas.{written_token}
use Rattle.sts_token.proofs.token.write.Goals as goal

pub returns-clause-token : goal.returns-clause-token
returns-clause-token g c =
    let forward = g.T.BlockTransform.forwards c.args.transform.now in
    let number =
    c.number.ensures.value
    ∙ ap number_of (c.forward.ensures ∙ ap (forward c.args.key) c.block.ensures) in
    let written = c.digits.ensures ∙ ap (digits_text 10 20) number in
    subst (IsToken forward c.args.key c.args.fields) (sym written)
    (written_token forward c.args.key c.args.fields (omega (arith, number, c.number.ensures.bits)))

pub returns-clause-value : goal.returns-clause-value
unfolding token_of
returns-clause-value g c =
    let forward = g.T.BlockTransform.forwards c.args.transform.now in
    let number =
    c.number.ensures.value
    ∙ ap number_of (c.forward.ensures ∙ ap (forward c.args.key) c.block.ensures) in
    c.digits.ensures ∙ ap (digits_text 10 20) number
