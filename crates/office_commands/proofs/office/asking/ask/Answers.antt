use Rattle.std.proofs.Common.{Err, Ok, refl}
use Rattle.vend_ports.proofs.TakeLemmas.{takes_none}
use Rattle.office_commands.proofs.office.asking.ask.Goals as goal

pub returns-in-Err : goal.returns-in-Err
returns-in-Err g c = record {
  reply = Err c.in-Err.refusal;
  replied = c.in-Err.ensures.says;
  told = (takes_none c.args.out.now, c.put_refusal.ensures, refl);
}

pub returns-in-Ok : goal.returns-in-Ok
returns-in-Ok g c = record { reply = Ok c.in-Ok.answer; replied = c.in-Ok.ensures.says; told = c.tell_answer.ensures }
