use Rattle.std.proofs.Common.{◌∙◌, Some, ap, false, subst, sym}
use Rattle.sqlite.specs.Files.{over_files}
use Rattle.office_commands.specs.commands.AtFile.{IsAskedOfFile}
use Rattle.office_commands.specs.port.Back.{is_untouched}
use Rattle.office_commands.specs.port.Places.{places_of}
use Rattle.program_laws.specs.runs.Words.{selling}
use Rattle.vend_ports.specs.declared.command_end.CommandEnd.{CommandEnd}
use Rattle.vend_ports.specs.port.Dial.{dial_of}
use Rattle.vend_ports.specs.port.Texts.{texts_of}
use Rattle.vend_ports.specs.print.Told.{outputs}
use Rattle.law_witnesses.proofs.commands.printed_by_sell.Goals as goal

pub returns-in-Done : goal.returns-in-Done
returns-in-Done g c =
    let ran = c.run-ended in
    let o = outputs _ ran.new.out _ ran.new.err in
    let back = ran.result.back in
    let Ends : CommandEnd → Type 0 =
    λ end. IsAskedOfFile (over_files {g = g.H.Medium.Disk}) (places_of g.H.Medium.Disk g.H.Salts.SaltSource g.H.OfficeFile c.args.office back)
    (is_untouched g.H.OfficeFile c.args.office back) (texts_of g.F.TextFiles c.args.texts) (dial_of g.C.Clock c.args.clock.now) c.args.place.now
    (selling c.args.order.now) false o end in (
      back,
      record {
        o = o;
        did = subst Ends c.in-Done.is ran.ensures;
        before = ap (λ w. w.held) c.new-watched.ensures ∙ ap Some c.new-out.ensures.items;
        sound = ap (λ w. w.failed) c.new-watched.ensures;
        after = c.in-Some.ensures {u = tt};
        whole = sym c.has_failed-failed.ensures ∙ c.if-failed.false;
      },
    )
