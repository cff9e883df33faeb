use Rattle.std.proofs.Common.{arith}
use Rattle.papers.specs.Receipt.{receipt_of}
use Rattle.papers.proofs.receipts.receipt_in_place.Goals as goal

pub returns : goal.returns
unfolding receipt_of
returns c = grind arith
