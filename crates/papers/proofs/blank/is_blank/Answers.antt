use Rattle.papers.proofs.BlankLemmas.{blank-file}
use Rattle.papers.proofs.blank.is_blank.Goals as goal

pub returns : goal.returns
returns c = blank-file c.args.bytes.now c.without_mark.result.now c.are_line_ends.result c.without_mark.ensures c.are_line_ends.ensures
