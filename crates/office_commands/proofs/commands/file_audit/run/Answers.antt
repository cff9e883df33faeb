use Rattle.std.proofs.Common.{None, option_map, refl, subst}
use Rattle.command_line.specs.Transform.{forward_of}
use Rattle.office_commands.specs.commands.Audited.IsAudited.{looked, unopened, vacant}
use Rattle.office_commands.specs.office.Met.{IsMet}
use Rattle.office_commands.specs.office.Vacant.{IsThere}
use Rattle.office_commands.specs.port.Places.{places_of}
use Rattle.office_commands.proofs.FileAuditLemmas.{audit_of_file}
use Rattle.vend_ports.proofs.TakeLemmas.{takes_none}
use Rattle.office_commands.proofs.commands.file_audit.run.Goals as goal

pub returns-in-Ok-There : goal.returns-in-Ok-There
returns-in-Ok-There g c =
    let path = c.args.words.now.file.now in
    let wait = c.args.words.now.wait in
    let at = places_of g.H.Medium.Disk g.H.Salts.SaltSource g.H.OfficeFile c.args.office None path wait in
    let image = g.H.OfficeFile.image c.args.office path in
    let there = subst (IsMet at (IsThere g.H.Medium.Disk image (g.H.OfficeFile.meets c.args.office path wait)))
    c.in-Ok-There.field-0-is c.in-Ok-There.ensures.met in
    let ended = c.end_audit-answer.ensures in
    looked c.end_audit-answer.result.0 (there.measured.found.log, there.measured.found.db, there.measured.met) (record {
      first = c.in-Ok-There.conn;
      last = ended.last;
      connected = there.made.connected;
      audited = audit_of_file (option_map forward_of c.args.words.now.transform) image c.in-Ok-There.conn c.audit_files-found.new.conn
          ended.last there.made.connected c.audit_files-found.result c.end_audit-answer.result.0 c.audit_files-found.ensures ended.looks;
      closed = ended.closed;
    }) c.tell-end.ensures

pub returns-in-Ok-NoOffice : goal.returns-in-Ok-NoOffice
returns-in-Ok-NoOffice g c =
    let path = c.args.words.now.file.now in
    let wait = c.args.words.now.wait in
    let at = places_of g.H.Medium.Disk g.H.Salts.SaltSource g.H.OfficeFile c.args.office None path wait in
    let image = g.H.OfficeFile.image c.args.office path in
    vacant (subst (IsMet at (IsThere g.H.Medium.Disk image (g.H.OfficeFile.meets c.args.office path wait)))
    c.in-Ok-NoOffice.field-0-is c.in-Ok-NoOffice.ensures.met) (c.put_no_office.ensures, takes_none c.args.err.now, refl)

pub returns : goal.returns
returns g c = unopened c.in-Err.fault c.in-Err.ensures.refuses (takes_none c.args.out.now, c.put_opening.ensures, refl)
