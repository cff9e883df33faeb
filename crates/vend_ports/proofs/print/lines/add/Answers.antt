use Rattle.vend_ports.proofs.TakeLemmas.{puts_all}
use Rattle.vend_ports.proofs.print.lines.add.Goals as goal

pub returns-in-Err : goal.returns-in-Err
returns-in-Err g c =
    puts_all _ _ _ _ c.args.piece.now c.args.line.now.items c.clear.new.self.items (rw c.in-Err.ensures.err at c.deref.ensures.0)
    c.put.ensures c.put-in-Err.ensures c.clear.ensures
