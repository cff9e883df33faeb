use Rattle.std.proofs.Common.{None, inr, sym, subst}
use Rattle.sqlite_wal.specs.Recovery.{Image}
use Rattle.books.specs.Path.{RefusesConnection}
use Rattle.books.specs.declared.refused_files.RefusedFiles.TheVariants.{Connected}
use Rattle.office_commands.specs.office.Met.{IsMet}
use Rattle.office_commands.specs.office.Vacant.{IsThere}
use Rattle.office_commands.specs.port.Places.{places_of}
use Rattle.office_commands.specs.port.Places.IsUnopened.{unopened}
use Rattle.office_commands.specs.port.Places.IsUnopenedIn.{refused}
use Rattle.office_commands.proofs.MeetingLemmas.{opened_there, refused_over}
use Rattle.office_commands.proofs.office.opening.open_present_office.Goals as goal

pub returns-in-Ok-clause-met : goal.returns-in-Ok-clause-met
returns-in-Ok-clause-met g c =
    let at = places_of g.H.Medium.Disk g.H.Salts.SaltSource g.H.OfficeFile c.args.office None c.args.path.now c.args.wait in
    let image = g.H.OfficeFile.image c.args.office c.args.path.now in
    let there = subst (IsMet at (IsThere g.H.Medium.Disk image (g.H.OfficeFile.meets c.args.office c.args.path.now c.args.wait)))
    c.in-Ok-There.field-0-is c.in-Ok-There.ensures.met in (
      opened_there image c.in-Ok-There.conn there.made c.found_law.ensures.opens there.taken c.args.transform c.in-Ok.books c.in-Ok.ensures.opened,
      (there.measured.found.log, there.measured.found.db, there.measured.met),
    )

pub returns-in-Err-open_from-clause-refuses : goal.returns-in-Err-open_from-clause-refuses
returns-in-Err-open_from-clause-refuses g c =
    let at = places_of g.H.Medium.Disk g.H.Salts.SaltSource g.H.OfficeFile c.args.office None c.args.path.now c.args.wait in
    let image = g.H.OfficeFile.image c.args.office c.args.path.now in
    let there = subst (IsMet at (IsThere g.H.Medium.Disk image (g.H.OfficeFile.meets c.args.office c.args.path.now c.args.wait)))
    c.in-Ok-There.field-0-is c.in-Ok-There.ensures.met in
    let fault = c.in-Err-open_from.fault in
    let last = c.in-Err-open_from.conn in
    let left = c.let_refused_go.ensures in
    let refuses = refused_over image c.in-Ok-There.conn there.made c.found_law.ensures.opens last fault c.in-Err-open_from.ensures.refused in
    unopened there.files there.measured
    (refused left.0 (Connected last) (subst (λ (i : Image). RefusesConnection i fault last) (sym there.seen) refuses) left.1 (inr left.2.0, left.2.1))
