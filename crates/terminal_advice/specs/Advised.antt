-- What stands on standard error behind what a run printed there.
use Rattle.std.specs.Prelude.{◌≡◌, ◌⊎◌, Bool, true, false, [], ◌∷◌, take}
use Rattle.std.specs.Io.KnownBytes.{Appends, Keeps}
use Rattle.sts_fields.specs.Text.{Text}
use Rattle.office_rules.specs.declared.decision.refusal.Refusal.TheVariants as refusals
use Rattle.vend_ports.specs.print.Printed.{line_of}
use Rattle.vend_ports.specs.print.Sink.{Held}
use Rattle.vend_ports.specs.print.Told.{IsTaken}
use Rattle.terminal_advice.specs.Advice.{general_of, reason_of, remedy_of}
use Rattle.terminal_advice.specs.LastLine.{Line, last_line}
use Rattle.terminal_advice.specs.Lines.{HasAdvice}
use Rattle.terminal_advice.specs.declared.advice.Advice.{Advice}
use Rattle.terminal_advice.specs.declared.advice.Advice.TheVariants as advices
use Rattle.command_line.specs.declared.words.BadWords.{BadWords}
use Rattle.command_line.specs.declared.words.BadWords.TheVariants.{Place, Memory}

-- the second line
abbrev pub advice_line : Advice → Text
advice_line advice = line_of (reason_of advice ∷ remedy_of advice ∷ [])

-- the advice of a line, or a closer form of it
abbrev pub IsFormOf : (advice general : Advice) → Type 0
IsFormOf advice general = (advice ≡ general) ⊎ (general_of advice ≡ general)

-- a last line has an advice once it is whole, by its first 128 bytes
abbrev pub LineHasAdvice : Line → Advice → Type 0
LineHasAdvice line advice = (line.ended ≡ true) × HasAdvice (take 128 line.bytes) advice

-- a line of the advice comes behind what was held, or as much of it as the writer took
abbrev pub IsPut : Advice → Held → Held → Type 0
IsPut advice old new = (failed : Bool) × IsTaken false failed old new (advice_line advice)

-- a form of the advice that a last line has comes behind what was held; nothing does where it has
-- none
abbrev pub AddsForm : Line → Held → Held → Type 0
AddsForm line old new =
    ((general advice : Advice) × LineHasAdvice line general × IsFormOf advice general
    × IsPut advice old new)
    ⊎ (((general : Advice) → ¬ LineHasAdvice line general) × Keeps old new)

-- something comes at a terminal alone
abbrev pub Adds : (at_terminal : Bool) → (Comes : Held → Held → Type 0) → Held → Held → Type 0
Adds false Comes old new = Keeps old new
Adds true Comes old new = Comes old new

-- behind the text that a run printed comes the advice for its last line
pub record IsAdvised (at_terminal : Bool) (old printed new : Held) : Type 0 where
  pub text : Text
  pub came : Appends old printed text
  pub adds : Adds at_terminal (AddsForm (last_line text)) printed new

-- what is said of arguments that were not had
abbrev pub fault_advice : BadWords → Advice
fault_advice Memory = advices.Refused refusals.Memory
fault_advice Place = advices.Place
fault_advice fault = advices.NoText
