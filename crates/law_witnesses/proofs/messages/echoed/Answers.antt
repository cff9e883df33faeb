use Rattle.std.proofs.Common.{rules}
use Rattle.law_witnesses.proofs.ReadingLemmas.{echoed}
use Rattle.law_witnesses.proofs.messages.echoed.Goals.{in-Closed, in_default}
use Rattle.law_witnesses.proofs.messages.echoed.Goals as goal

pub returns-then-matches : goal.returns-then-matches
returns-then-matches g c =
    elim c.match-matches.branch [
      | in-Closed w ↦ echoed _ _ _ _ _ (g.R.Read.remaining c.run-end.new.reader) c.new-text.result.items c.args.input.now c.run-end.new.writer.items
          c.requires c.new-text.ensures.items (w.in-Closed.ensures {u = tt}).run
      | in_default w ↦ absurd (cc)
    ]
