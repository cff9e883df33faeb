use Rattle.std.proofs.Common.{◌≡◌, ◌∙◌, ap, rules, sym}
use Rattle.vend_ports.specs.Status.{status_of}
use Rattle.vend_commands.proofs.RunLemmas.{asked_ends, run_same}
use Rattle.vend_commands.proofs.UnwatchedLemmas.{run_of, writer_left}
use Rattle.vend_commands.proofs.running.run.Goals as goal

pub returns-clause-run : goal.returns-clause-run
returns-clause-run g c =
    let ran = c.run_over-ran in
    let same = run_same _ _ _ _ ran.result.end ran.ensures in
    let out_named = sym (same.out ∙ ap (λ w. w.name) c.new-out.ensures) in
    let err_named = sym (same.err ∙ ap (λ w. w.name) c.new-err.ensures) in
    let out_held : g.O.Write.contents c.out-3-1.given.0 ≡ ran.new.out.held = ap g.O.Write.contents (search rules) ∙ c.into_inner.ensures.held in
    let err_held : g.E.Write.contents c.err-2-1.given.0 ≡ ran.new.err.held = ap g.E.Write.contents (search rules) ∙ c.into_inner-2.ensures.held in (
      ran.result.end,
      ran.new.out.failed,
      ran.new.err.failed,
      c.new-arg-1.given,
      c.new-arg-2-1.given,
      ran.result.back,
      run_of _ _ _ _ _ _ _ _ _ _ _ ran.result.end c.new-out.ensures
          (writer_left ran.new.out _ _ out_held out_named) c.new-err.ensures
          (writer_left ran.new.err _ _ err_held err_named) ran.ensures,
      c.status.ensures ∙ ap (status_of ran.result.end) c.has_failed-failed.ensures,
    )

pub returns-clause-asked : goal.returns-clause-asked
returns-clause-asked g c = λ asked for. rw c.status.ensures (asked_ends _ _ _ _ _ _ asked for c.run_over-ran.ensures)
