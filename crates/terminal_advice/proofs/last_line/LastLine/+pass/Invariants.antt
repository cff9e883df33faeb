use Rattle.std.proofs.Common.{length}
use Rattle.terminal_advice.proofs.last_line.LastLine.+pass.Given as goal

abbrev pub decreases-pass : goal.decreases-pass
decreases-pass l = length l.text.now
