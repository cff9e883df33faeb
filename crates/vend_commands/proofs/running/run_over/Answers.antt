use Rattle.std.proofs.Common.{map, refl, subst}
use Rattle.std.specs.Prelude.{⊤}
use Rattle.command_line.specs.Asked.{CommandAsks}
use Rattle.vend_commands.specs.Run.IsProgramRun.{answered}
use Rattle.vend_commands.proofs.RunLemmas.{told_by_clap}
use Rattle.vend_commands.proofs.WordLemmas.{meant_so}
use Rattle.vend_commands.proofs.running.run_over.Goals as goal

pub returns-in-Ok-read : goal.returns-in-Ok-read
returns-in-Ok-read g c =
    let words = map (λ w. w.now) c.args.words.now in
    let parsed = c.in-Ok-parse.ensures words (meant_so words _ _ c.deref.ensures.value c.in-Ok.ensures) in
    answered c.in-Ok-read.asked (record {
      no_fault = parsed.0;
      asks = subst (λ met. CommandAsks met c.in-Ok-read.asked) parsed.1 c.in-Ok-read.ensures;
    }) c.answer.ensures

pub returns-in-Err : goal.returns-in-Err
returns-in-Err g c =
    let words = map (λ w. w.now) c.args.words.now in
    told_by_clap _ _ c.in-Err.error _ (λ error text. ⊤) _ c.explain-end.result (c.in-Err.ensures words (meant_so words _ _ c.deref.ensures.value c.in-Ok.ensures)) (
      (c.leave_all-in-Err.ensures.office, refl),
      (
        (c.leave_all-in-Err.ensures.door, c.leave_all-in-Err.ensures.loopback),
        c.leave_all-in-Err.ensures.texts,
      ),
    ) c.explain-end.ensures
