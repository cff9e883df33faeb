use Rattle.conversation.proofs.UsesLemmas.{AreInterrupted}
use Rattle.conversation.proofs.sending.send_some.Given as goal

-- each write so far was interrupted
abbrev pub invariant-writes : goal.invariant-writes
invariant-writes g l =
    AreInterrupted l.text (g.W.Write.contents l.fn.writer, g.L.Line.uses l.fn.line) (g.W.Write.contents l.writer, g.L.Line.uses l.line) l.made
