-- What a command does that asks the office in a file.
use Rattle.std.specs.Prelude.{Bool, true, false}
use Rattle.sqlite_trees.specs.declared.store.Store.{Ghosts}
use Rattle.asks.specs.declared.ask.Ask.{Ask}
use Rattle.asks.specs.declared.ask.Ask.TheVariants as asks
use Rattle.asks.specs.declared.lookup.Lookup.{Lookup}
use Rattle.asks.specs.declared.lookup.Lookup.TheVariants.{ShiftTotals}
use Rattle.command_line.specs.declared.office_words.AskWords.{AskWords}
use Rattle.command_line.specs.declared.office_words.AskWords.TheVariants as words
use Rattle.command_line.specs.declared.place.FilePlace.{FilePlace}
use Rattle.office_rules.specs.declared.decision.request.Request.{Request}
use Rattle.office_rules.specs.declared.decision.request.Request.TheVariants.{ShiftReport}
use Rattle.office_commands.specs.commands.Asked.{IsAskedAt}
use Rattle.office_commands.specs.commands.Imported.{IsFileImported, IsImported}
use Rattle.office_commands.specs.commands.LookedUp.{IsShown}
use Rattle.office_commands.specs.commands.Reported.{IsReported}
use Rattle.office_commands.specs.declared.office.paper.Paper.TheVariants as papers
use Rattle.office_commands.specs.port.Places.{Places}
use Rattle.vend_ports.specs.commands.Timed.{IsTimed}
use Rattle.vend_ports.specs.port.Dial.{Dial}
use Rattle.vend_ports.specs.port.Texts.{Texts}
use Rattle.vend_ports.specs.print.Told.{Outputs}
use Rattle.vend_ports.specs.declared.command_end.CommandEnd.{CommandEnd}

-- a shift is reported of a file that is there, and no clock is read; another request is made to the
-- office in the file, which may be made for it, at the moment that is given, or else at the clock's
abbrev pub IsRequestedOfFile : {S : Type 0} → Ghosts S → Places → (untouched : Type 0)
    → (clock : Dial) → FilePlace → Request → Outputs → CommandEnd → Type 0
IsRequestedOfFile store at untouched clock file (ShiftReport number) o end =
    IsReported store at file (papers.Shift number) o end
IsRequestedOfFile store at untouched clock file request o end =
    IsTimed untouched file.at clock
    (λ moment. IsAskedAt store at file.transform file.path.now file.wait moment request o end) o end

-- the totals of a shift are a paper, with no clock; another thing is looked up at a moment
abbrev pub IsFoundInFile : {S : Type 0} → Ghosts S → Places → (untouched : Type 0)
    → (clock : Dial) → FilePlace → Lookup → (json : Bool) → Outputs → CommandEnd → Type 0
IsFoundInFile store at untouched clock file (ShiftTotals number) json o end =
    IsReported store at file (papers.Totals number) o end
IsFoundInFile store at untouched clock file lookup json o end =
    IsShown store at untouched clock file false lookup json o end

-- one thing is asked of the office in the file; rows are added as those of a file of rows are, and
-- a receipt is a paper
abbrev pub IsOneAskedOfFile : {S : Type 0} → Ghosts S → Places → (untouched : Type 0)
    → (clock : Dial) → FilePlace → Ask → (json : Bool) → Outputs → CommandEnd → Type 0
IsOneAskedOfFile store at untouched clock file (asks.Import kind rows) json o end =
    IsTimed untouched file.at clock
    (λ moment. IsImported store at untouched file kind moment rows o end) o end
IsOneAskedOfFile store at untouched clock file (asks.Do request) json o end =
    IsRequestedOfFile store at untouched clock file request o end
IsOneAskedOfFile store at untouched clock file (asks.Receipt number) json o end =
    IsReported store at file (papers.Receipt number) o end
IsOneAskedOfFile store at untouched clock file (asks.Look lookup) json o end =
    IsFoundInFile store at untouched clock file lookup json o end

-- What the words ask is asked of the office in the file. Only an import reads a file of rows, once,
-- and where there is no moment it reads none; papers, look-ups and lists make no file.
abbrev pub IsAskedOfFile : {S : Type 0} → Ghosts S → Places → (untouched : Type 0) → Texts
    → (clock : Dial) → FilePlace → AskWords → (json : Bool) → Outputs → CommandEnd → Type 0
IsAskedOfFile store at untouched texts clock file (words.Import kind csv) json o end =
    IsTimed (untouched × texts.leaves) file.at clock
    (λ moment. IsFileImported store at untouched texts file kind csv.now moment o end) o end
IsAskedOfFile store at untouched texts clock file (words.Ask ask) json o end =
    texts.leaves × IsOneAskedOfFile store at untouched clock file ask json o end
IsAskedOfFile store at untouched texts clock file (words.List list) json o end =
    texts.leaves × IsShown store at untouched clock file true list json o end
IsAskedOfFile store at untouched texts clock file words.Export json o end =
    texts.leaves × IsReported store at file papers.Sales o end
