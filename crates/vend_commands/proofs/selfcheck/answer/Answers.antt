use Rattle.std.proofs.Common.{List, Some, subst}
use Rattle.std.specs.Prelude.{ℤ}
use Rattle.sqlite.proofs.Callers.{memory_is_clean}
use Rattle.desk.specs.Answering.{answers_by, life_serves, message_refusal_of}
use Rattle.conversation.specs.Clock.{script_answers}
use Rattle.conversation.specs.Exchanges.{Timed, clocked}
use Rattle.conversation.specs.Run.{IsRun}
use Rattle.conversation.proofs.WiderLemmas.{run_wider, unclocked}
use Rattle.vend_core.specs.Law.Life.{Life}
use Rattle.vend_commands.proofs.selfcheck.answer.Goals as goal

pub returns : goal.returns
returns g c = λ life keeps.
    let lives = c.run.ensures.converses.1.lives (memory_is_clean c.run.new.books.conn) life keeps in
    let after : Timed Life = (lives.0, Some (script_answers c.run.new.clock)) in
    let left = g.R.Read.remaining c.run.new.reader in
    let unclocked_run = run_wider (clocked _ (answers_by life_serves)) (answers_by life_serves) (unclocked (answers_by life_serves) _)
    message_refusal_of _ _ _ _ _ _ c.run.result lives.1 in
    let run = subst (λ (answers : List ℤ). IsRun (answers_by life_serves) message_refusal_of (life, Some answers) after
    (g.R.Read.remaining c.args.reader.now) left
    (g.W.Write.contents c.args.writer.now) (g.W.Write.contents c.run.new.writer) c.run.result) c.new-clock.ensures unclocked_run in
    (after, left, run)
