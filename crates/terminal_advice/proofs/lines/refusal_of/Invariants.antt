use Rattle.std.proofs.Common.{◌<◌}
use Rattle.office_rules.specs.Decision.Refusals.{refusal_number}
use Rattle.office_rules.specs.declared.decision.refusal.Refusal.{Refusal}
use Rattle.terminal_advice.specs.Lines.{IsLineOf}
use Rattle.terminal_advice.proofs.lines.refusal_of.Given as goal

abbrev pub invariant-loop-number : goal.invariant-loop-number
invariant-loop-number l =
    (refusal : Refusal) → refusal_number refusal < l.number → ¬ IsLineOf refusal l.line
