use Rattle.std.proofs.Common.{subst}
use Rattle.office_commands.specs.office.Opened.{OpensIn}
use Rattle.office_commands.specs.office.Visited.{IsOpened}
use Rattle.office_commands.specs.port.Places.IsUnopened.{unopened}
use Rattle.office_commands.proofs.office.opening.open_office.Goals as goal

pub returns-in-Ok-open_in-clause-opened : goal.returns-in-Ok-open_in-clause-opened
returns-in-Ok-open_in-clause-opened g c =
    subst (λ image. IsOpened image (OpensIn g.H.Medium.Disk image) c.args.transform c.in-Ok-open_in.books) c.in-Ok.ensures.image c.in-Ok-open_in.ensures.opened

pub returns-in-Err-open_in-clause-fails : goal.returns-in-Err-open_in-clause-fails
returns-in-Err-open_in-clause-fails g c =
    unopened (record { log = c.in-Ok.files.0; db = c.in-Ok.files.1 }) c.in-Ok.ensures.finds c.in-Err-open_in.ensures.refused
