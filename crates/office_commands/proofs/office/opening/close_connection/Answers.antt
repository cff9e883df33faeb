use Rattle.office_commands.specs.port.Back.{lets_go_giving}
use Rattle.office_commands.proofs.ClosingLemmas.{are_closed, ends_closed}
use Rattle.office_commands.proofs.office.opening.close_connection.Goals as goal

pub returns : goal.returns
returns g c =
    let end = c.close_files.result in
    let ends = ends_closed c.args.conn end c.close_files.ensures.ok c.close_files.ensures.copied c.close_files.ensures.err in
    are_closed c.args.conn (lets_go_giving g.H.OfficeFile c.let_go_ended.result) end ends c.let_go_ended.ensures.closed c.let_go_ended.ensures.unclosed
