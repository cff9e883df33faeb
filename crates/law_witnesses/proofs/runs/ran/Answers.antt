use Rattle.std.proofs.Common.{◌∙◌, Some, ap, map, refl, sym}
use Rattle.vend_ports.specs.print.Told.{outputs}
use Rattle.law_witnesses.proofs.runs.ran.Goals as goal

pub returns : goal.returns
returns g c =
    let ran = c.run_over-ended in
    record {
      run = record {
        ports = (c.args.ports.office, c.args.ports.texts, c.args.ports.clock, c.args.ports.door, c.args.ports.loopback);
        back = ran.result.back;
        words = map (λ w. w.now) c.args.words.now;
        o = outputs _ ran.new.out _ ran.new.err;
        end = ran.result.end;
        ran = ran.ensures;
      };
      with_ports = refl;
      by_words = refl;
      ended = refl;
      gave = refl;
      before = ap (λ w. w.held) c.new-watched.ensures ∙ ap Some c.new-out.ensures.items;
      sound = ap (λ w. w.failed) c.new-watched.ensures;
      after = c.in-Some.ensures {u = tt};
      whole = sym c.has_failed-failed.ensures ∙ c.if-failed.false;
    }
