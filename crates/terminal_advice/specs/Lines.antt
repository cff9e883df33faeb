-- Which advice a line has by which the program refuses. No line has its end here.
use Rattle.std.specs.Prelude.{◌≡◌, ◌⊎◌, if◌then◌else◌, eqb, MatchOption, Option, Some, None, [], ◌∷◌}
use Rattle.std.specs.Prelude.{◌++◌, codes}
use Rattle.std.specs.Cmp.Lexicographic.{pointwise}
use Rattle.std.specs.List.{starts_with}
use Rattle.sts_fields.specs.Text.{Text}
use Rattle.office_rules.specs.Decision.Refusals.{IsOfNoRow}
use Rattle.office_rules.specs.declared.decision.refusal.Refusal.{Refusal}
use Rattle.vend_ports.specs.print.Printed.{refusal_line}
use Rattle.terminal_advice.specs.declared.advice.Advice.{Advice}
use Rattle.terminal_advice.specs.declared.advice.Advice.TheVariants.{Refused, Amount, Clock, Value}
use Rattle.terminal_advice.specs.declared.advice.Advice.TheVariants.{Place, File, Net, NotAnOffice}
use Rattle.terminal_advice.specs.declared.advice.Advice.TheVariants.{OpenStore, OpenMemory}
use Rattle.terminal_advice.specs.declared.advice.Advice.TheVariants.{DeskStopped, RowHeader}
use Rattle.terminal_advice.specs.declared.advice.Advice.TheVariants.{RowColumns, RowField}
use Rattle.terminal_advice.specs.declared.advice.Advice.TheVariants.{RowTooMany, RowDiffers}
use Rattle.terminal_advice.specs.declared.advice.Advice.TheVariants.{RowNoTariff, RowDayPast}

-- the line is printed for this refusal, of no row
abbrev pub IsLineOf : Refusal → Text → Type 0
IsLineOf refusal line = IsOfNoRow refusal × (line ++ 10 ∷ [] ≡ refusal_line refusal)

-- the other lines
unfoldable pub other_line : Text → Option Advice
other_line line =
    if pointwise eqb line (codes "refused amount") then Some Amount
    else if pointwise eqb line (codes "refused clock") then Some Clock
    else if pointwise eqb line (codes "bad word") then Some Value
    else if pointwise eqb line (codes "give --file or --desk") then Some Place
    else if pointwise eqb line (codes "file") then Some File
    else if pointwise eqb line (codes "net") then Some Net
    else if pointwise eqb line (codes "open 1 NotAnOffice") then Some NotAnOffice
    else if pointwise eqb line (codes "open 3 Store") then Some OpenStore
    else if pointwise eqb line (codes "open 4 Memory") then Some OpenMemory
    else if pointwise eqb line (codes "stopped 16 Store") then Some DeskStopped
    else None

-- why a row of an import is refused
unfoldable pub row_cause : Text → Option Advice
row_cause cause =
    if pointwise eqb cause (codes "Header") then Some RowHeader
    else if pointwise eqb cause (codes "Columns") then Some RowColumns
    else if pointwise eqb cause (codes "TooManyRows") then Some RowTooMany
    else if pointwise eqb cause (codes "Differs") then Some RowDiffers
    else if pointwise eqb cause (codes "NoTariff") then Some RowNoTariff
    else if pointwise eqb cause (codes "DayPast") then Some RowDayPast
    else if starts_with eqb cause (codes "Field ") then Some RowField else None

-- what stands behind the first space
abbrev pub behind_space : Text → Text
behind_space [] = []
behind_space (byte ∷ rest) = if eqb byte 32 then rest else behind_space rest

-- the start of a line that refuses a row, before the number of the row
abbrev pub row_start : Text
row_start = codes "refused 14 ImportRow "

-- the cause in such a line: what stands behind its four first words
abbrev pub cause_in : Text → Text
cause_in line = behind_space (behind_space (behind_space (behind_space line)))

-- the advice for a line that is no such refusal's
unfoldable pub other_advice : Text → Option Advice
other_advice line =
    if starts_with eqb line row_start then row_cause (cause_in line) else other_line line

-- a line has the advice for the refusal that it is printed for, or another one
abbrev pub HasAdvice : Text → Advice → Type 0
HasAdvice line advice =
    ((refusal : Refusal) × IsLineOf refusal line × (advice ≡ Refused refusal))
    ⊎ (other_advice line ≡ Some advice)

-- it is the advice that a line has, or the line has none
abbrev pub IsAdviceOf : Text → Option Advice → Type 0
IsAdviceOf line found =
    MatchOption found ((advice : Advice) → ¬ HasAdvice line advice) (HasAdvice line)
