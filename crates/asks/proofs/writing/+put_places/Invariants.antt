use Rattle.std.proofs.Common.{length}
use Rattle.asks.proofs.writing.+put_places.Given as goal

abbrev pub decreases-put_places : goal.decreases-put_places
decreases-put_places l = length l.slots.now
