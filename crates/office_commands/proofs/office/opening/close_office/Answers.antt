use Rattle.std.proofs.Common.{subst}
use Rattle.sqlite.specs.Files.{file_state}
use Rattle.office_commands.specs.port.Back.{lets_go_giving}
use Rattle.office_commands.specs.office.Closed.{AreClosed}
use Rattle.office_commands.proofs.office.opening.close_office.Goals as goal

pub returns : goal.returns
returns g c =
    subst (λ conn. AreClosed g.H.Medium.Disk (lets_go_giving g.H.OfficeFile c.close_connection.result) (file_state conn)) c.into_connection.ensures.same c.close_connection.ensures
