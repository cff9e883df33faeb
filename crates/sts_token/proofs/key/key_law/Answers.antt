use Rattle.sts_token.proofs.KeyLemmas.{key_within, one_key_text}
use Rattle.sts_token.proofs.key.key_law.Goals as goal

pub returns-clause-one_text : goal.returns-clause-one_text
returns-clause-one_text c = one_key_text

pub returns-clause-within : goal.returns-clause-within
returns-clause-within c = key_within
