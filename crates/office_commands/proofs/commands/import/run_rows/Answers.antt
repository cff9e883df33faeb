use Rattle.std.proofs.Common.{ℕ, List, None, refl, subst}
use Rattle.sqlite.specs.Files.{over_files}
use Rattle.vend_ports.specs.port.Dial.{dial_of}
use Rattle.vend_ports.specs.print.Told.{outputs}
use Rattle.vend_ports.specs.declared.command_end.CommandEnd.TheVariants.{Refused}
use Rattle.vend_ports.proofs.TakeLemmas.{takes_none}
use Rattle.vend_ports.proofs.TimedLemmas.{timed, untimed}
use Rattle.office_commands.specs.commands.Imported.{IsImported}
use Rattle.office_commands.specs.port.Back.{is_untouched}
use Rattle.office_commands.specs.port.Places.{places_of}
use Rattle.office_commands.proofs.commands.import.run_rows.Goals as goal

pub returns-in-Some : goal.returns-in-Some
returns-in-Some g c =
    let o = outputs c.args.out.now c.add.new.out
    c.args.err.now c.add.new.err in
    let untouched = is_untouched g.H.OfficeFile c.args.office c.add.result.back in
    let places = places_of g.H.Medium.Disk g.H.Salts.SaltSource g.H.OfficeFile c.args.office c.add.result.back in
    let Of : List ℕ → Type 0 =
    λ bytes. IsImported (over_files {g = g.H.Medium.Disk}) places untouched c.args.file.now c.args.kind c.in-Some.moment bytes o c.add.result.end in
    timed untouched c.args.file.now.at (dial_of g.C.Clock c.args.clock.now) c.moment_or_now.result c.in-Some.moment _ o c.add.result.end
    c.moment_or_now.ensures c.in-Some.is (subst Of c.bytes.ensures c.add.ensures)

pub returns-in-None : goal.returns-in-None
returns-in-None g c =
    let out = c.args.out.now in
    let o = outputs out out c.args.err.now c.put_no_moment.new.out in
    untimed (is_untouched g.H.OfficeFile c.args.office None) c.args.file.now.at (dial_of g.C.Clock c.args.clock.now) c.moment_or_now.result _ o
    Refused c.moment_or_now.ensures c.in-None.is (c.leave.ensures, refl) (takes_none out, c.put_no_moment.ensures, refl)
