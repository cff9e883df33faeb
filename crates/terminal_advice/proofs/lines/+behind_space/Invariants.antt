use Rattle.std.proofs.Common.{length}
use Rattle.terminal_advice.proofs.lines.+behind_space.Given as goal

abbrev pub decreases-behind_space : goal.decreases-behind_space
decreases-behind_space l = length l.text.now
