use Rattle.std.proofs.Common.{◌∙◌, ℤ, [], ◌∷◌, Some, ap, refl, w64}
use Rattle.std.proofs.lemmas.Int.{to_z-of_z}
use Rattle.sqlite.proofs.Callers.{memory_is_clean}
use Rattle.law_witnesses.proofs.AskingLemmas.{answering_of}
use Rattle.law_witnesses.proofs.asking.answered_at.Goals as goal

pub returns-in-Closed : goal.returns-in-Closed
returns-in-Closed c =
    answering_of c.run.ensures.converses.1 c.in-Closed.is (memory_is_clean c.run.new.books.conn) c.args.second
    (ap Some (c.new-clock.ensures ∙ ap (λ (z : ℤ). z ∷ []) (to_z-of_z w64 c.args.second c.ranges.second)))
    c.run.new.writer.items c.args.sent.now refl (ap Some c.new-text.ensures.items) refl
