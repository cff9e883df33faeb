use Rattle.std.proofs.Common.{rules}
use Rattle.vend_ports.specs.print.Printed.{pair_text}
use Rattle.vend_ports.proofs.print.lines.pair_text.Goals as goal

pub returns : goal.returns
unfolding pair_text
returns c = search rules
