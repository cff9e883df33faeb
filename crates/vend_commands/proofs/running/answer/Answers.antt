use Rattle.std.proofs.Common.{None, refl}
use Rattle.sqlite.specs.Files.{over_files}
use Rattle.command_line.specs.declared.asked.Asked.TheVariants as asks
use Rattle.vend_commands.specs.port.Machines.{machine_of}
use Rattle.vend_ports.specs.print.Told.{outputs}
use Rattle.vend_commands.proofs.RunLemmas.{done_so}
use Rattle.vend_ports.proofs.TakeLemmas.{takes_none}
use Rattle.vend_commands.proofs.running.answer.Goals as goal

pub returns-in-Serve : goal.returns-in-Serve
returns-in-Serve g c =
    let store = over_files {g = g.M.Office.Medium.Disk} in
    let m = machine_of c.args.ports c.run.result.back in
    let out = c.args.out.now in
    let o = outputs out out c.args.err.now c.run.new.err in
    done_so store m c.args.asked (asks.Serve c.in-Serve.words) o c.run.result.end c.in-Serve.is
    ((c.leave-in-Serve.ensures, c.leave.ensures), (refl, c.run.ensures))

pub returns-in-Meter : goal.returns-in-Meter
returns-in-Meter g c =
    let store = over_files {g = g.M.Office.Medium.Disk} in
    let m = machine_of c.args.ports None in
    let err = c.args.err.now in
    let o = outputs c.args.out.now c.run-end-in-Meter.new.out err err in
    done_so store m c.args.asked (asks.Meter c.in-Meter.words) o c.run-end-in-Meter.result c.in-Meter.is (
      (
        (c.leave_all-in-Meter.ensures.office, refl),
        (
          (c.leave_all-in-Meter.ensures.door, c.leave_all-in-Meter.ensures.loopback),
          c.leave_all-in-Meter.ensures.texts,
        ),
      ),
      (c.run-end-in-Meter.ensures.told, takes_none err, c.run-end-in-Meter.ensures.end),
    )

pub returns-in-Selfcheck : goal.returns-in-Selfcheck
returns-in-Selfcheck g c =
    let store = over_files {g = g.M.Office.Medium.Disk} in
    let m = machine_of c.args.ports None in
    let o = outputs c.args.out.now c.run_selfcheck-end.new.out
    c.args.err.now c.run_selfcheck-end.new.err in
    done_so store m c.args.asked (asks.Selfcheck c.in-Selfcheck.words) o c.run_selfcheck-end.result c.in-Selfcheck.is
    ((c.leave-in-Selfcheck.ensures, refl), (c.leave-in-Selfcheck-3.ensures, c.leave-in-Selfcheck-2.ensures), c.run_selfcheck-end.ensures)

pub returns-in-Audit : goal.returns-in-Audit
returns-in-Audit g c =
    let store = over_files {g = g.M.Office.Medium.Disk} in
    let m = machine_of c.args.ports c.run-in-Audit.result.back in
    let o = outputs c.args.out.now c.run-in-Audit.new.out
    c.args.err.now c.run-in-Audit.new.err in
    done_so store m c.args.asked (asks.Audit c.in-Audit.words) o c.run-in-Audit.result.end c.in-Audit.is
    (((c.be_alone.ensures.door, c.be_alone.ensures.loopback), c.be_alone.ensures.texts), c.run-in-Audit.ensures)
