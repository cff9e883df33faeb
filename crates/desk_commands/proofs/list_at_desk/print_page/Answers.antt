use Rattle.vend_ports.proofs.TakeLemmas.{takes_none}
use Rattle.desk_commands.proofs.list_at_desk.print_page.Goals as goal

pub returns-in-Err : goal.returns-in-Err
returns-in-Err g c = (c.in-Err.ensures, takes_none c.args.out.now)

pub returns-in-Ok-put_page : goal.returns-in-Ok-put_page
returns-in-Ok-put_page g c = (c.in-Ok.page, c.in-Ok.ensures, c.in-Ok-put_page.ensures)

pub returns : goal.returns
returns g c =
    let asked = c.in-Ok.ensures in
    ((asked.0, asked.1, (asked.2.body, asked.2.reply)), c.in-Err-put_page.ensures)
