-- How a run ends.
use Rattle.std.proofs.Common.{◌≡◌, ◌≢◌, ◌⊎◌, ◌≤◌, Bool, true, false, List, [], inl, inr, subst, sym, arith}
use Rattle.clap.specs.Kinds.{HasKind, IsAmong}
use Rattle.clap.specs.Values.{kind_of}
use Rattle.clap.specs.declared.error.Error.{Error}
use Rattle.clap.specs.declared.error.kind.ErrorKind.{ErrorKind}
use Rattle.clap.specs.declared.error.kind.ErrorKind.TheVariants.{DisplayHelp, DisplayVersion, OutOfMemory}
use Rattle.sqlite_trees.specs.declared.store.Store.{Ghosts}
use Rattle.command_line.specs.Asked.{AskFor}
use Rattle.command_line.specs.Line.{faults_in}
use Rattle.command_line.specs.declared.asked.Asked.{Asked}
use Rattle.office_rules.specs.declared.decision.refusal.Refusal.TheVariants.{Memory}
use Rattle.sts_fields.specs.Text.{Text}
use Rattle.vend_commands.specs.port.Machines.{IsMachineIdle, Machine}
use Rattle.vend_commands.specs.Run.{IsCarriedOut, IsExplained, IsProgramRun}
use Rattle.vend_commands.specs.Run.IsProgramRun.{answered as is_answered, bad_word, explained, no_room}
use Rattle.vend_ports.specs.Status.{exit_status_of, status_of}
use Rattle.vend_ports.specs.declared.command_end.CommandEnd.{CommandEnd}
use Rattle.vend_ports.specs.declared.command_end.CommandEnd.TheVariants as how
use Rattle.vend_ports.specs.print.Printed.{refusal_line}
use Rattle.vend_ports.specs.print.Told.{IsTold, Outputs}
use Rattle.vend_commands.proofs.AnsweredLemmas.{AreSame, answered, refused, told_same}

-- what was asked for by another name
pub done_so : {S D R W : Type 0} (store : Ghosts S) (m : Machine D R W) (asked same : Asked) (o : Outputs) (end : CommandEnd) → asked
    ≡ same → IsCarriedOut store m same o end → IsCarriedOut store m asked o end
done_so store m asked same o end is done = subst (λ a. IsCarriedOut store m a o end) (sym is) done

-- what `clap` says of words is a fault of theirs, or there was no room
pub told_by_clap : {S D R W : Type 0} (store : Ghosts S) (m : Machine D R W) (error : Error) (words : List Text)
    (Says : Error → Text → Type 0) (o : Outputs) (end : CommandEnd) → HasKind (faults_in words) error
    → IsMachineIdle m → IsTold o [] (refusal_line Memory) how.Refused end
    ⊎ ((text : Text) × Says error text × (text ≢ []) × IsExplained (kind_of error) text o end) → IsProgramRun store m words o end
told_by_clap store m error words Says o end kind idle (inl told) = no_room idle told
told_by_clap store m error words Says o end (inl full) idle (inr (text, said, some, says)) = absurd (subst (λ k. IsExplained k text o end) full says)
told_by_clap store m error words Says o end (inr among) idle (inr (text, said, some, says)) = explained idle (kind_of error) text among some says

-- ---- the writers

explained_same : (kind : ErrorKind) (text : Text) (o : Outputs) (end : CommandEnd) → IsExplained kind text o end → AreSame o
explained_same OutOfMemory text o end none = absurd none
explained_same DisplayHelp text o end told = told_same o _ _ _ end told
explained_same DisplayVersion text o end told = told_same o _ _ _ end told
explained_same kind text o end told = told_same o [] text how.BadWords end told

-- a run of the program ends with the writers that it began with
pub run_same : {S D R W : Type 0} (store : Ghosts S) (m : Machine D R W) (words : List Text) (o : Outputs) (end : CommandEnd)
    → IsProgramRun store m words o end → AreSame o
run_same store m words o end (is_answered asked for done) = (answered store m asked o end done).same
run_same store m words o end (bad_word idle no_fault none told) = told_same o _ _ _ end told
run_same store m words o end (explained idle kind text among some says) = explained_same kind text o end says
run_same store m words o end (no_room idle told) = told_same o _ _ _ end told

-- ---- the status

-- words that ask for something never end as bad words
run_ends : {S D R W : Type 0} (store : Ghosts S) (m : Machine D R W) (words : List Text) (o : Outputs) (end : CommandEnd) (asked : Asked)
    → AskFor words asked → IsProgramRun store m words o end → exit_status_of end ≤ 1
run_ends store m words o end asked for (is_answered other other_for done) = (answered store m other o end done).low
run_ends store m words o end asked for (bad_word idle no_fault none told) = absurd (none asked for)
run_ends store m words o end asked for (explained idle kind text among some says) = absurd (subst (IsAmong kind) for.no_fault among)
run_ends store m words o end asked for (no_room idle told) = (refused o _ _ end told).low

low_status : (end : CommandEnd) (failed : Bool) → exit_status_of end ≤ 1 → status_of end failed ≤ 1
low_status end false low = low
low_status end true low = omega arith

-- a run whose words ask for something exits with status 0 or 1
pub asked_ends : {S D R W : Type 0} (store : Ghosts S) (m : Machine D R W) (words : List Text) (o : Outputs) (end : CommandEnd)
    (cut : Bool) (asked : Asked) → AskFor words asked → IsProgramRun store m words o end → status_of end cut ≤ 1
asked_ends store m words o end cut asked for run = low_status end cut (run_ends store m words o end asked for run)
