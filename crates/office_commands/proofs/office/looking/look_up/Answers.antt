use Rattle.std.proofs.Common.{Err, Ok, refl}
use Rattle.vend_ports.proofs.TakeLemmas.{takes_none}
use Rattle.office_commands.proofs.office.looking.look_up.Goals as goal

pub returns-in-Err : goal.returns-in-Err
returns-in-Err g c = record {
  found = Err c.in-Err.refusal;
  is_found = c.in-Err.ensures.says.of_life;
  reads = c.in-Err.ensures.says.reads;
  told = (takes_none c.args.out.now, c.put_refusal.ensures, refl);
}

pub returns-in-Ok : goal.returns-in-Ok
returns-in-Ok g c = record {
  found = Ok c.in-Ok.found;
  is_found = c.in-Ok.ensures.says.of_life;
  reads = c.in-Ok.ensures.says.reads;
  told = c.tell_found.ensures;
}
