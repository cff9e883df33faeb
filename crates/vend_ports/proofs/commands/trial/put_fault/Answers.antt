use Rattle.std.proofs.Common.{subst, sym}
use Rattle.vend_ports.specs.print.Told.{Takes}
use Rattle.vend_ports.specs.commands.Tried.{trial_fault_line}
use Rattle.vend_ports.proofs.commands.trial.put_fault.Goals as goal

pub returns-in-Amount : goal.returns-in-Amount
returns-in-Amount g c =
    subst (λ fault. Takes c.args.err.now c.put_line.new.out (trial_fault_line fault))
    (sym c.in-Amount.is) c.put_line.ensures
