use Rattle.std.proofs.Common.{◌≡◌, ℕ, List, ◌++◌, drop}
use Rattle.vend_ports.specs.print.Told.{Takes}
use Rattle.vend_ports.specs.commands.Tried.{token_lines}
use Rattle.vend_ports.proofs.commands.trial.put_tokens.Given as goal

-- the lines of the first tokens were put, and the others are left
abbrev pub invariant-loop-token : goal.invariant-loop-token
invariant-loop-token g l =
    (front : List ℕ) × record {
      put : Takes l.fn.out l.out front;
      left : token_lines l.tokens ≡ front ++ token_lines (drop l.token-index l.tokens);
    }
