use Rattle.std.proofs.Common.{length}
use Rattle.asks.proofs.reading.+read_places.Given as goal

abbrev pub decreases-read_places : goal.decreases-read_places
decreases-read_places l = length l.slots.now
