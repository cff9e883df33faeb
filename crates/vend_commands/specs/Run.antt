-- A run of the program: how what its words ask for is answered.
use Rattle.std.specs.Prelude.{◌≡◌, ◌≢◌, ⊤, Bool, List, [], option_map}
use Rattle.clap.specs.Kinds.{IsAmong}
use Rattle.clap.specs.declared.error.kind.ErrorKind.{ErrorKind}
use Rattle.clap.specs.declared.error.kind.ErrorKind.TheVariants.{DisplayHelp, DisplayVersion}
use Rattle.clap.specs.declared.error.kind.ErrorKind.TheVariants.{OutOfMemory}
use Rattle.sqlite_trees.specs.declared.store.Store.{Ghosts}
use Rattle.sts_fields.specs.Text.{Text}
use Rattle.office_rules.specs.declared.decision.refusal.Refusal.TheVariants.{Memory}
use Rattle.command_line.specs.Asked.{AskFor}
use Rattle.command_line.specs.Line.{faults_in}
use Rattle.command_line.specs.Place.{lack_place}
use Rattle.command_line.specs.Transform.{forward_of}
use Rattle.desk_commands.specs.AskedOfDesk.{IsAskedOfDesk}
use Rattle.office_commands.specs.commands.AtFile.{IsAskedOfFile}
use Rattle.office_commands.specs.commands.Audited.{IsAudited}
use Rattle.vend_commands.specs.serving.Listening.{IsServedTo}
use Rattle.vend_ports.specs.commands.Metered.{IsMetered}
use Rattle.vend_commands.specs.port.Machines.{IsAlone, IsMachineIdle, IsOffline, IsShut, Machine}
use Rattle.vend_ports.specs.print.Printed.{refusal_line}
use Rattle.vend_ports.specs.commands.Quoted.{PrintsQuote}
use Rattle.vend_commands.specs.commands.Selfchecked.{IsSelfchecked}
use Rattle.vend_commands.specs.commands.Unread.{unread_line}
use Rattle.vend_ports.specs.commands.Timed.{IsTimed}
use Rattle.vend_ports.specs.print.Told.{Outputs, IsTold}
use Rattle.vend_ports.specs.commands.Tried.{IsTried}
use Rattle.command_line.specs.declared.asked.Asked.{Asked}
use Rattle.command_line.specs.declared.asked.Asked.TheVariants.{Office, Trial, Meter, Quote}
use Rattle.command_line.specs.declared.asked.Asked.TheVariants.{Serve, Selfcheck, Audit}
use Rattle.command_line.specs.declared.office_words.AskWords.{AskWords}
use Rattle.command_line.specs.declared.place.Place.{Place}
use Rattle.command_line.specs.declared.place.Place.TheVariants.{File, Desk}
use Rattle.vend_ports.specs.declared.command_end.CommandEnd.{CommandEnd}
use Rattle.vend_ports.specs.declared.command_end.CommandEnd.TheVariants.{Done, Refused, BadWords}

-- An office is asked: one in a file, where nobody is listened to and no connection is made; or one
-- at a desk, where no file of an office is found and no clock is read.
abbrev pub IsOfficeAsked : {S D R W : Type 0} → Ghosts S → Machine D R W → Place → AskWords
    → (json : Bool) → Outputs → CommandEnd → Type 0
IsOfficeAsked store m (File file) ask json o end = IsOffline m
    × IsAskedOfFile store m.at m.untouched m.texts m.clock file ask json o end
IsOfficeAsked store m (Desk address) ask json o end = m.untouched × IsShut m
    × IsAskedOfDesk m.texts m.loop.calls m.loop.leaves address ask json o end

-- What is asked for is done, and nothing of the machine is used beside: where no office is needed
-- none is found, only `serve` has the door, only `selfcheck` connects the machine with itself, and
-- only what asks a desk connects it with one.
abbrev pub IsCarriedOut : {S D R W : Type 0} → Ghosts S → Machine D R W → Asked → Outputs
    → CommandEnd → Type 0
IsCarriedOut store m (Office words) o end =
    IsOfficeAsked store m words.place words.ask words.json o end
IsCarriedOut store m (Trial words) o end =
    IsMachineIdle m × IsTimed ⊤ words.at m.clock (λ moment. IsTried words moment o end) o end
IsCarriedOut store m (Meter words) o end = IsMachineIdle m × IsMetered words o end
IsCarriedOut store m (Quote words) o end = IsMachineIdle m × PrintsQuote words o end
IsCarriedOut store m (Serve words) o end =
    (m.loop.leaves × m.texts.leaves)
    × IsServedTo store m.way m.at m.door m.clock words o end
IsCarriedOut store m (Selfcheck words) o end = m.untouched × (IsShut m × m.texts.leaves)
    × IsSelfchecked (m.loop.agrees words.transform) (m.loop.disagrees words.transform) o end
IsCarriedOut store m (Audit words) o end =
    IsAlone m
    × IsAudited (m.at words.file.now words.wait) (option_map forward_of words.transform) o end

-- what is said of words that are no command's: help, which goes to the output, or what is wrong
-- with them, which goes to the error output
abbrev pub IsExplained : ErrorKind → Text → Outputs → CommandEnd → Type 0
IsExplained OutOfMemory text o end = ⊥
IsExplained DisplayHelp text o end = IsTold o text [] Done end
IsExplained DisplayVersion text o end = IsTold o text [] Done end
IsExplained kind text o end = IsTold o [] text BadWords end

-- The words ask for something, and that is done; or they are a command's that lacks its place, or
-- has a value outside its rule; or `clap` has a fault of theirs, and says something of it; or there
-- was no room to read them, or for what is said of them. Where nothing is done nothing of the
-- machine is used.
pub data IsProgramRun {S D R W : Type 0} (store : Ghosts S) (machine : Machine D R W)
    (words : List Text) (o : Outputs) (end : CommandEnd) : Type 0 where
  answered : (asked : Asked) → AskFor words asked → IsCarriedOut store machine asked o end
      → IsProgramRun store machine words o end
  bad_word : IsMachineIdle machine → faults_in words ≡ [] → ((asked : Asked) → ¬ AskFor words asked)
      → IsTold o [] (unread_line (lack_place words)) BadWords end
      → IsProgramRun store machine words o end
  explained : IsMachineIdle machine → (kind : ErrorKind) (text : Text)
      → IsAmong kind (faults_in words) → text ≢ [] → IsExplained kind text o end
      → IsProgramRun store machine words o end
  no_room : IsMachineIdle machine → IsTold o [] (refusal_line Memory) Refused end
      → IsProgramRun store machine words o end
