-- What a writer remembers of what came to it.
use Rattle.std.specs.Prelude.{Option, List, ℕ}
use Rattle.std.specs.Io.KnownBytes.{Appends}
use Rattle.sts_fields.specs.Text.{Text}
use Rattle.terminal_advice.specs.LastLine.{IsKept, last_line}
use Rattle.terminal_advice.specs.declared.last_line.LastLine.{LastLine}

-- the last line of the text that came behind what was held at the beginning
pub record Remembers (begun now : Option (List ℕ)) (last : LastLine) : Type 0 where
  pub text : Text
  pub came : Appends begun now text
  pub kept : IsKept (last_line text) last
