use Rattle.std.proofs.Common.{◌≡◌, ℕ, ◌≤◌, length, drop, take}
use Rattle.std.specs.Io.KnownBytes.{Appends}
use Rattle.papers.proofs.output.write_whole.Given as goal

-- the first n bytes were written, and the rest is left
abbrev pub invariant-loop-rest : goal.invariant-loop-rest
invariant-loop-rest g l =
    (n : ℕ) × (n ≤ length l.text) × (l.rest ≡ drop n l.text)
    × Appends (g.W.Outlet.contents l.fn.out) (g.W.Outlet.contents l.out) (take n l.text)

abbrev pub decreases-loop-rest : goal.decreases-loop-rest
decreases-loop-rest g l = length l.rest
