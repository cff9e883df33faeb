use Rattle.std.proofs.Common.{[]}
use Rattle.records.proofs.FrontLemmas.{text_found}
use Rattle.records.proofs.reading.text_at.Goals as goal

pub returns-in-None : goal.returns-in-None
returns-in-None c =
    text_found c.args.quoted.now c.split_at.result.1.now [] c.plain_len.result c.plain_len.ensures.before c.plain_len.ensures.found c.split_at.ensures.back
    c.in-None.ensures
