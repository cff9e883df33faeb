-- What `meter` prints: the answers of a new meter to tokens, and then its credit.
use Rattle.std.specs.Prelude.{List, [], ◌∷◌, ◌++◌, bytes_eq, codes, if◌then◌else◌, map}
use Rattle.std.specs.List.{concat}
use Rattle.sim_meter.specs.Meter.{answer_after}
use Rattle.sts_fields.specs.Text.{Text}
use Rattle.sts_token.specs.Meter.{Entry, Reader, cleared, credit_of, entered}
use Rattle.sts_token.specs.Reading.{reading_of}
use Rattle.command_line.specs.Transform.{inverse_of}
use Rattle.vend_ports.specs.print.Printed.{answer_line, cleared_line, credit_line}
use Rattle.vend_ports.specs.print.Told.{Outputs, IsTold}
use Rattle.command_line.specs.declared.commands.meter.MeterWords.{MeterWords}
use Rattle.vend_ports.specs.declared.command_end.CommandEnd.{CommandEnd}
use Rattle.vend_ports.specs.declared.command_end.CommandEnd.TheVariants.{Done}

-- the word that clears the meter
abbrev pub clear_word : Text
clear_word = codes "clear"

-- what a word does to a meter: it is entered, but for the one that clears
abbrev pub entry_of : Text → Entry
entry_of word = if bytes_eq word clear_word then cleared else entered word

-- what is printed of a word after these entries
abbrev pub word_line : Reader → List Entry → Text → Text
word_line read history word =
    if bytes_eq word clear_word then cleared_line else answer_line (answer_after read history word)

-- the lines of these words, one after another, behind what was entered before
abbrev pub lines_after : Reader → List Entry → List Text → List Text
lines_after read history [] = []
lines_after read history (word ∷ words) =
    word_line read history word ∷ lines_after read (history ++ entry_of word ∷ []) words

-- a line for each word that a new meter is given, and last its credit
unfoldable pub metering : Reader → List Text → Text
metering read words = concat (lines_after read [] words)
    ++ credit_line (credit_of read (map entry_of words))

-- what the words of the command print
abbrev pub metering_of : MeterWords → Text
metering_of words = metering (reading_of (inverse_of words.transform) words.key)
    (map (λ word. word.now) words.tokens.now)

-- it stands on the output, refused tokens or not
abbrev pub IsMetered : MeterWords → Outputs → CommandEnd → Type 0
IsMetered words o end = IsTold o (metering_of words) [] Done end
