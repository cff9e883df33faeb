-- What words ask for.
use Rattle.std.specs.Prelude.{◌≡◌, ⊤, true, false, List, [], Option, Some, None, Result, Ok, Err}
use Rattle.std.specs.Prelude.{codes}
use Rattle.clap.specs.Walk.{Row}
use Rattle.sts_fields.specs.Text.{Text}
use Rattle.command_line.specs.Commands.{SaysAudit, SaysMeterCommand, SaysOffice, SaysQuote}
use Rattle.command_line.specs.Commands.{SaysSelfcheck, SaysServe, SaysTrial}
use Rattle.command_line.specs.Line.{command_in, faults_in}
use Rattle.command_line.specs.Place.{command_lacks_place, lacks_place}
use Rattle.command_line.specs.declared.asked.Asked.{Asked}
use Rattle.command_line.specs.declared.asked.Asked.TheVariants.{Office, Trial, Meter, Quote}
use Rattle.command_line.specs.declared.asked.Asked.TheVariants.{Serve, Selfcheck, Audit}
use Rattle.command_line.specs.declared.words.BadWords.{BadWords}
use Rattle.command_line.specs.declared.words.BadWords.TheVariants.{Value, Place, Memory}
use Rattle.command_line.specs.declared.syncs.Syncs.{Syncs}
use Rattle.command_line.specs.declared.syncs.Syncs.TheVariants.{Twice}

-- the command of this name asks for this, as its rows say
abbrev pub ArgumentsSay : (name : Text) → List Row → Asked → Type 0
ArgumentsSay name rows (Office words) = SaysOffice name rows words
ArgumentsSay name rows (Trial words) = (name ≡ codes "trial") × SaysTrial rows words
ArgumentsSay name rows (Meter words) = (name ≡ codes "meter") × SaysMeterCommand rows words
ArgumentsSay name rows (Quote words) = (name ≡ codes "quote") × SaysQuote rows words
ArgumentsSay name rows (Serve words) = (name ≡ codes "serve") × SaysServe rows words
ArgumentsSay name rows (Selfcheck words) = (name ≡ codes "selfcheck") × SaysSelfcheck rows words
ArgumentsSay name rows (Audit words) = (name ≡ codes "audit") × SaysAudit rows words

-- the same of a command, where there is one, which does not lack its place
abbrev pub CommandAsks : Option (Text × List Row) → Asked → Type 0
CommandAsks None asked = ⊥
CommandAsks (Some (name, rows)) asked =
    (lacks_place name rows ≡ false) × ArgumentsSay name rows asked

-- what is read of a command: what it asks for; or else it lacks its place, or has a value that is
-- outside its rule, and asks for nothing; or there was no room
abbrev pub ReadsAsked : Result Asked BadWords → Option (Text × List Row) → Type 0
ReadsAsked (Ok asked) command = CommandAsks command asked
ReadsAsked (Err Place) command = command_lacks_place command ≡ true
ReadsAsked (Err Value) command =
    (command_lacks_place command ≡ false) × ((asked : Asked) → ¬ CommandAsks command asked)
ReadsAsked (Err Memory) command = ⊤

-- the words ask for this: they are those of its command, and say each value
pub record AskFor (words : List Text) (asked : Asked) : Type 0 where
  pub no_fault : faults_in words ≡ []
  pub asks : CommandAsks (command_in words) asked

-- how often a change is synced: twice, where `serve` is not asked for less
abbrev pub syncs_of : Asked → Syncs
syncs_of (Serve words) = words.syncs
syncs_of asked = Twice
