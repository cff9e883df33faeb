use Rattle.std.proofs.Common.{refl}
use Rattle.terminal_advice.proofs.last_line.LastLine.new.Goals as goal

pub returns : goal.returns
returns c = record { bytes = c.new.ensures; ended = refl }
