use Rattle.std.proofs.Common.{◌≡◌, List, [], ◌∷◌, ◌++◌, ℕ, drop, map}
use Rattle.vend_ports.specs.print.Printed.{joined_line}
use Rattle.vend_ports.specs.print.Told.{Takes}
use Rattle.vend_ports.proofs.TakeLemmas.{spaced}
use Rattle.vend_ports.proofs.print.lines.put_joined.Given as goal

-- a beginning of the line was put, more of it is not written yet, and the other words are left
abbrev pub invariant-loop-word : goal.invariant-loop-word
invariant-loop-word g l =
    (front : List ℕ) × record {
      put : Takes l.fn.out l.out front;
      left : joined_line l.byte (map (λ w. w.now) l.words) ≡ (front ++ l.line.items)
          ++ (spaced l.byte l.separator (map (λ w. w.now) (drop l.word-index l.words)) ++ 10 ∷ []);
    }
