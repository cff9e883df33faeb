use Rattle.std.proofs.Common.{arith}
use Rattle.sts_token.proofs.KeyLemmas.{written_key}
use Rattle.sts_token.proofs.key.key_text.Goals as goal

pub returns : goal.returns
returns c = rw (c.digits.ensures, c.from.ensures) (written_key c.args.key (omega arith))
