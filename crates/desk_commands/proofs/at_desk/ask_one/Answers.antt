use Rattle.std.proofs.Common.{◌∙◌, refl}
use Rattle.desk_commands.specs.AskedOfDesk.IsAsked.{broken, replied, unsent}
use Rattle.vend_ports.proofs.TakeLemmas.{takes_none}
use Rattle.desk_commands.proofs.at_desk.ask_one.Goals as goal

pub returns-in-Some-answer_in : goal.returns-in-Some-answer_in
returns-in-Some-answer_in g c =
    let sent = rw (c.deref.ensures.value ∙ c.in-Ok.ensures) at c.in-Some.ensures in
    replied c.in-Some.came.items sent c.in-Some-answer_in.told (rw c.deref-in-Some.ensures.value at c.in-Some-answer_in.ensures) c.tell.ensures

pub returns-in-Some : goal.returns-in-Some
returns-in-Some g c =
    let sent = rw (c.deref.ensures.value ∙ c.in-Ok.ensures) at c.in-Some.ensures in
    broken c.in-Some.came.items sent (rw c.deref-in-Some.ensures.value at c.in-None-answer_in.ensures)
    (takes_none c.args.out.now, c.put_line.ensures, refl)

pub returns : goal.returns
returns g c =
    let sent = rw (c.deref.ensures.value ∙ c.in-Ok.ensures) at c.in-None.ensures in
    unsent sent (takes_none c.args.out.now, c.put_line-in-None.ensures, refl)
