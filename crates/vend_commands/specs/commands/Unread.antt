-- How a run ends whose words were not read.
use Rattle.std.specs.Prelude.{Bool, true, false, [], ◌∷◌, codes}
use Rattle.office_rules.specs.declared.decision.refusal.Refusal.TheVariants as refusal
use Rattle.sts_fields.specs.Text.{Text}
use Rattle.vend_ports.specs.print.Printed.{bad_word_line, line_of, refusal_line}
use Rattle.vend_ports.specs.declared.command_end.CommandEnd.{CommandEnd}
use Rattle.vend_ports.specs.declared.command_end.CommandEnd.TheVariants.{Refused, BadWords}
use Rattle.command_line.specs.declared.words.BadWords.{BadWords as Why}
use Rattle.command_line.specs.declared.words.BadWords.TheVariants.{Value, Place, Memory}

-- what is said to a command that names no office, or two
abbrev pub place_line : Text
place_line = line_of (codes "give" ∷ codes "--file" ∷ codes "or" ∷ codes "--desk" ∷ [])

-- a value is outside its rule, or the command names no one office, or there was no room to read
-- them
abbrev pub bad_words_line : Why → Text
bad_words_line Value = bad_word_line
bad_words_line Place = place_line
bad_words_line Memory = refusal_line refusal.Memory

abbrev pub bad_words_end : Why → CommandEnd
bad_words_end Value = BadWords
bad_words_end Place = BadWords
bad_words_end Memory = Refused

-- what is said of words that ask for nothing: whether they lack their place, or else have a value
-- outside its rule
abbrev pub unread_line : (lack_place : Bool) → Text
unread_line true = place_line
unread_line false = bad_word_line
