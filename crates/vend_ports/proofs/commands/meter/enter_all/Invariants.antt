use Rattle.std.proofs.Common.{◌≡◌, ℕ, List, ◌++◌, map}
use Rattle.sim_meter.specs.Meter.{ComesFrom}
use Rattle.sts_token.specs.Reading.{reading_of}
use Rattle.vend_ports.specs.commands.Metered.{metering}
use Rattle.vend_ports.specs.print.Told.{Takes}
use Rattle.vend_ports.proofs.MeteringLemmas.{history, lines_from}
use Rattle.vend_ports.proofs.commands.meter.enter_all.Given as goal

-- the meter was given the words so far, their lines were put, and the others are left
abbrev pub invariant-loop-token : goal.invariant-loop-token
invariant-loop-token g l =
    let inverses = g.T.BlockTransform.inverses in
    let read = reading_of (inverses l.fn.transform) l.key in
    (front : List ℕ) × record {
      from : ComesFrom inverses read (history l.tokens l.token-index) l.meter;
      put : Takes l.fn.out l.out front;
      left : metering read (map (λ w. w.now) l.tokens) ≡ front ++ lines_from read l.tokens l.token-index;
    }
