use Rattle.std.proofs.Common.{◌≡◌, ◌%◌, ◌≤◌, ℕ, List, length}
use Rattle.std.specs.Prelude.{vec_capacity}
use Rattle.std.specs.Option.{ForSome}
use Rattle.sts_fields.specs.Tid.{IsLast}
use Rattle.vend_ports.proofs.TrialLemmas.{AreSales}
use Rattle.vend_ports.proofs.trials.trial.Given as goal

-- some identifiers were sold so far, one for each amount
abbrev pub invariant-loop-tenths : goal.invariant-loop-tenths
invariant-loop-tenths g l =
    (tids : List ℕ) × record {
      sales : AreSales (g.T.BlockTransform.forwards l.transform) l.key l.base l.moment l.amounts tids l.tokens.items;
      each : length tids ≡ l.tenths-index;
      last : IsLast tids l.last;
      bound : ForSome l.last (λ tid. tid ≤ 16777215);
      nibble : l.nibble ≡ l.tenths-index % 16;
      room : length l.amounts ≤ vec_capacity l.tokens;
    }
