use Rattle.std.proofs.Common.{None, refl, subst}
use Rattle.office_commands.specs.office.Met.{IsMet}
use Rattle.office_commands.specs.office.Visited.{IsOpenedThere}
use Rattle.office_commands.specs.office.Visited.IsVisited.{unopened, visited}
use Rattle.office_commands.specs.port.Places.{places_of}
use Rattle.command_line.specs.declared.transform.Shipped.TheVariants.{Plain}
use Rattle.office_commands.specs.commands.Reported.IsReported.{present, vacant}
use Rattle.vend_ports.proofs.TakeLemmas.{takes_none}
use Rattle.office_commands.proofs.commands.report.run.Goals as goal

pub returns-in-Ok-There : goal.returns-in-Ok-There
returns-in-Ok-There g c =
    let at = places_of g.H.Medium.Disk g.H.Salts.SaltSource g.H.OfficeFile c.args.office None c.args.file.now.path.now c.args.file.now.wait in
    let opened = subst (IsMet at (IsOpenedThere at Plain)) c.in-Ok-There.field-0-is c.in-Ok-There.ensures.met in
    present (visited c.in-Ok-There.books c.print-end.new.books opened.0 opened.1 c.print-end.ensures c.close_office-back.ensures)

pub returns-in-Ok-NoOffice : goal.returns-in-Ok-NoOffice
returns-in-Ok-NoOffice g c =
    let at = places_of g.H.Medium.Disk g.H.Salts.SaltSource g.H.OfficeFile c.args.office None c.args.file.now.path.now c.args.file.now.wait in
    vacant (subst (IsMet at (IsOpenedThere at Plain)) c.in-Ok-NoOffice.field-0-is c.in-Ok-NoOffice.ensures.met) c.print_empty-end.ensures

pub returns : goal.returns
returns g c = present (unopened c.in-Err.fault c.in-Err.ensures.refuses (takes_none c.args.out.now, c.put_opening.ensures, refl))
