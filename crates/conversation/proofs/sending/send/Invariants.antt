use Rattle.std.proofs.Common.{◌≡◌, ℕ, ◌≤◌, [], length, drop, take}
use Rattle.conversation.specs.Ends.{WritesWhole}
use Rattle.conversation.specs.Uses.{IsLeftOf}
use Rattle.conversation.proofs.sending.send.Given as goal

-- the first n bytes were written, and the rest is left
abbrev pub invariant-loop-rest : goal.invariant-loop-rest
invariant-loop-rest g l =
    (n : ℕ) × (n ≤ length l.text) × (l.rest ≡ drop n l.text)
    × WritesWhole (IsLeftOf [] l.text) (g.W.Write.contents l.fn.writer, g.L.Line.uses l.fn.line) (g.W.Write.contents l.writer, g.L.Line.uses l.line) (take n l.text)

abbrev pub decreases-loop-rest : goal.decreases-loop-rest
decreases-loop-rest g l = length l.rest
