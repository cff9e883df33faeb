use Rattle.std.proofs.Common.{refl}
use Rattle.vend_commands.specs.commands.Selfchecked.IsSelfchecked.{agreed, failed}
use Rattle.vend_ports.proofs.TakeLemmas.{takes_none}
use Rattle.vend_commands.proofs.commands.selfcheck.run_selfcheck.Goals as goal

pub returns-in-Err : goal.returns-in-Err
returns-in-Err g c = failed c.in-Err.fault c.in-Err.ensures.disagrees (takes_none c.args.out.now, c.put_selfcheck_fault.ensures, refl)

pub returns-in-Ok : goal.returns-in-Ok
returns-in-Ok g c = agreed c.in-Ok.ensures.agrees (c.put_line.ensures, takes_none c.args.err.now, refl)
