use Rattle.std.proofs.Common.{None, refl}
use Rattle.vend_ports.specs.port.Dial.{dial_of}
use Rattle.vend_ports.specs.print.Told.{outputs}
use Rattle.vend_ports.specs.declared.command_end.CommandEnd.TheVariants.{Refused}
use Rattle.vend_ports.proofs.TakeLemmas.{takes_none}
use Rattle.vend_ports.proofs.TimedLemmas.{timed, untimed}
use Rattle.office_commands.specs.port.Back.{is_untouched}
use Rattle.office_commands.proofs.commands.request.run.Goals as goal

pub returns-in-Some : goal.returns-in-Some
returns-in-Some g c =
    let o = outputs c.args.out.now c.ask_at.new.out
    c.args.err.now c.ask_at.new.err in
    timed (is_untouched g.H.OfficeFile c.args.office c.ask_at.result.back) c.args.file.now.at (dial_of g.C.Clock c.args.clock.now) c.moment_or_now.result
    c.in-Some.moment _ o c.ask_at.result.end c.moment_or_now.ensures c.in-Some.is c.ask_at.ensures

pub returns-in-None : goal.returns-in-None
returns-in-None g c =
    let out = c.args.out.now in
    let o = outputs out out c.args.err.now c.put_no_moment.new.out in
    untimed (is_untouched g.H.OfficeFile c.args.office None) c.args.file.now.at (dial_of g.C.Clock c.args.clock.now) c.moment_or_now.result _ o Refused
    c.moment_or_now.ensures c.in-None.is (c.leave.ensures, refl) (takes_none out, c.put_no_moment.ensures, refl)
