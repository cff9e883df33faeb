-- What `trial` prints, and how it ends: the tokens, and then why no more was sold.
use Rattle.std.specs.Prelude.{ℕ, List, [], Option, Some, None, map}
use Rattle.std.specs.List.{concat}
use Rattle.sts_fields.specs.Text.{Text}
use Rattle.office_rules.specs.Decision.{refusal_of}
use Rattle.office_rules.specs.declared.decision.refusal.Refusal.TheVariants as refusal
use Rattle.vend_ports.specs.print.Printed.{amount_line, refusal_line, token_line}
use Rattle.vend_ports.specs.print.Told.{Outputs, IsTold}
use Rattle.vend_ports.specs.commands.Trial.{IsTrial}
use Rattle.command_line.specs.Transform.{forward_of}
use Rattle.command_line.specs.declared.commands.trial.TrialWords.{TrialWords}
use Rattle.vend_ports.specs.declared.command_end.CommandEnd.{CommandEnd}
use Rattle.vend_ports.specs.declared.command_end.CommandEnd.TheVariants.{Done, Refused}
use Rattle.vend_ports.specs.declared.trials.TrialFault.{TrialFault}
use Rattle.vend_ports.specs.declared.trials.TrialFault.TheVariants.{Amount, Tid, Memory}

-- a line for each token
abbrev pub token_lines : List Text → Text
token_lines tokens = concat (map token_line tokens)

-- why a trial stopped
abbrev pub trial_fault_line : TrialFault → Text
trial_fault_line Amount = amount_line
trial_fault_line (Tid fault) = refusal_line (refusal_of fault)
trial_fault_line Memory = refusal_line refusal.Memory

abbrev pub trial_errors : Option TrialFault → Text
trial_errors None = []
trial_errors (Some fault) = trial_fault_line fault

abbrev pub trial_end : Option TrialFault → CommandEnd
trial_end None = Done
trial_end (Some fault) = Refused

-- the amounts are sold at a moment (`IsTrial`), and the tokens and the fault told
abbrev pub IsTried : TrialWords → (moment : ℕ) → Outputs → CommandEnd → Type 0
IsTried words moment o end =
    (tids : List ℕ) × (tokens : List Text) × (fault : Option TrialFault)
    × IsTrial (forward_of words.transform) words.key words.base moment words.amounts.items tids
    tokens fault
    × IsTold o (token_lines tokens) (trial_errors fault) (trial_end fault) end
