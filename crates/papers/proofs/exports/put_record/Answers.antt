use Rattle.std.proofs.Common.{arith}
use Rattle.papers.specs.Export.{record_text}
use Rattle.papers.proofs.exports.put_record.Goals as goal

pub returns : goal.returns
unfolding record_text
returns c = grind arith
