use Rattle.std.proofs.Common.{◌∙◌, Some, ap, sym}
use Rattle.vend_ports.specs.print.Told.{outputs}
use Rattle.law_witnesses.proofs.commands.printed_by_audit.Goals as goal

pub returns : goal.returns
returns g c =
    let ran = c.run-ended in (
      ran.result.back,
      record {
        o = outputs _ ran.new.out _ ran.new.err;
        did = ran.ensures;
        before = ap (λ w. w.held) c.new-watched.ensures ∙ ap Some c.new-out.ensures.items;
        sound = ap (λ w. w.failed) c.new-watched.ensures;
        after = c.in-Some.ensures {u = tt};
        whole = sym c.has_failed-failed.ensures ∙ c.if-failed.false;
      },
    )
