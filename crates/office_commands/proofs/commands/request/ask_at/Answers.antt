use Rattle.std.proofs.Common.{refl}
use Rattle.office_commands.specs.office.Visited.IsVisited.{unopened, visited}
use Rattle.vend_ports.proofs.TakeLemmas.{takes_none}
use Rattle.office_commands.proofs.commands.request.ask_at.Goals as goal

pub returns-in-Ok : goal.returns-in-Ok
returns-in-Ok g c = visited c.in-Ok.books c.ask-end.new.books c.in-Ok.ensures.opened c.in-Ok.ensures.finds c.ask-end.ensures c.close_office-back.ensures

pub returns-in-Err : goal.returns-in-Err
returns-in-Err g c = unopened c.in-Err.fault c.in-Err.ensures.fails (takes_none c.args.out.now, c.put_opening.ensures, refl)
