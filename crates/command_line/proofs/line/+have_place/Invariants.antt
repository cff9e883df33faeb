use Rattle.std.proofs.Common.{length}
use Rattle.command_line.proofs.line.+have_place.Given as goal

abbrev pub decreases-have_place : goal.decreases-have_place
decreases-have_place l = length l.words.now
