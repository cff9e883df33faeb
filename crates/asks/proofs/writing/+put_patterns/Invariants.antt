use Rattle.std.proofs.Common.{length}
use Rattle.asks.proofs.writing.+put_patterns.Given as goal

abbrev pub decreases-put_patterns : goal.decreases-put_patterns
decreases-put_patterns l = length l.slots.now
